use Rattle.std.proofs.Common.{rules}
use Rattle.ir_values.proofs.operations.may_be.Goals as goal

pub returns-in-Undef : goal.returns-in-Undef
returns-in-Undef c = search rules
