use Rattle.std.proofs.Common.{◌≡◌, drop, map}
use Rattle.ir_core.specs.declared.functions.Argument.{Argument}
use Rattle.ir_typing.specs.ShapeKinds.Kept.{type_in}
use Rattle.ir_typing.specs.ShapeKinds.Kinds.{least}
use Rattle.ir_shape.specs.LineShapes.Told.{operands_kind}
use Rattle.ir_shape.proofs.line_shapes.operands.arguments_kind.Given as goal

-- what is wrong so far, and in the arguments that are left
abbrev pub invariant-loop-argument : goal.invariant-loop-argument
invariant-loop-argument l =
    least l.found (operands_kind l.beside (type_in l.types) (map (λ (a : Argument). a.operand) (drop l.argument-index l.arguments)))
    ≡ operands_kind l.beside (type_in l.types) (map (λ (a : Argument). a.operand) l.arguments)
