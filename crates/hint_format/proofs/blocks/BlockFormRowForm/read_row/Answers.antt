use Rattle.std.proofs.Common.{rules}
use Rattle.hint_format.proofs.blocks.BlockFormRowForm.read_row.Goals as goal

pub returns-then-not-branch-clause-read : goal.returns-then-not-branch-clause-read
returns-then-not-branch-clause-read c = search rules
