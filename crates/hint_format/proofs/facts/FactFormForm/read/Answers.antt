use Rattle.std.proofs.Common.{rules}
use Rattle.hint_format.proofs.facts.FactFormForm.read.Goals as goal

pub returns : goal.returns
returns c = search rules
