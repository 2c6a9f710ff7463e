use Rattle.std.proofs.Common.{◌≡◌, drop}
use Rattle.ir_typing.specs.ShapeKinds.Kept.{type_in}
use Rattle.ir_typing.specs.ShapeKinds.Kinds.{least}
use Rattle.ir_shape.specs.LineShapes.Told.{operands_kind}
use Rattle.ir_shape.proofs.line_shapes.operands.operands_kind.Given as goal

-- what is wrong so far, and in the operands that are left
abbrev pub invariant-loop-operand : goal.invariant-loop-operand
invariant-loop-operand l =
    least l.found (operands_kind l.beside (type_in l.types) (drop l.operand-index l.operands)) ≡ operands_kind l.beside (type_in l.types) l.operands
