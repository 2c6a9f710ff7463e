use Rattle.std.proofs.Common.{◌≡◌, drop}
use Rattle.std.specs.List.{flat_map}
use Rattle.ir_core.specs.declared.functions.Argument.{Argument}
use Rattle.ir_core.specs.StatedTypes.{stated_by_operand}
use Rattle.ir_typing.specs.OperandTests.Known.{are_types_known}
use Rattle.ir_shape.proofs.line_shapes.stated.are_arguments_known.Given as goal

abbrev pub invariant-loop-argument : goal.invariant-loop-argument
invariant-loop-argument l =
    are_types_known l.beside (flat_map (λ (a : Argument). stated_by_operand a.operand) (drop l.argument-index l.arguments))
    ≡ are_types_known l.beside (flat_map (λ (a : Argument). stated_by_operand a.operand) l.arguments)
