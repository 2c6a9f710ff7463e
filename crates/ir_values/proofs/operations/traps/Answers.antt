use Rattle.std.proofs.Common.{rules}
use Rattle.ir_values.proofs.operations.traps.Goals as goal

pub returns-then-may_be-2 : goal.returns-then-may_be-2
returns-then-may_be-2 c = search rules
