use Rattle.std.proofs.Common.{rules}
use Rattle.ir_typing.proofs.module_limits.depths.is_line_shallow.Goals as goal

pub returns-then-is_operand_shallow : goal.returns-then-is_operand_shallow
returns-then-is_operand_shallow c = search rules
