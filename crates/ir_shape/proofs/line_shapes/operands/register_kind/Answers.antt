use Rattle.std.proofs.Common.{rules}
use Rattle.ir_shape.proofs.line_shapes.operands.register_kind.Goals as goal

pub returns-in-Some-Some : goal.returns-in-Some-Some
returns-in-Some-Some c = search rules
