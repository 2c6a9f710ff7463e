use Rattle.std.proofs.Common.{rules}
use Rattle.hint_format.proofs.hints.HintsFormForm.read.Goals as goal

pub returns-then-not-has_members : goal.returns-then-not-has_members
returns-then-not-has_members c = search rules

pub returns : goal.returns
returns c = search rules
