use Rattle.std.proofs.Common.{rules}
use Rattle.ir_core.proofs.expressions.BinaryExact.is.Goals as goal

pub returns-then-is-4 : goal.returns-then-is-4
returns-then-is-4 c = search rules
