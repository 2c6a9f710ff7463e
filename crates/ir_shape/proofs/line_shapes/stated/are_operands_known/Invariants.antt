use Rattle.std.proofs.Common.{◌≡◌, drop}
use Rattle.std.specs.List.{flat_map}
use Rattle.ir_core.specs.StatedTypes.{stated_by_operand}
use Rattle.ir_typing.specs.OperandTests.Known.{are_types_known}
use Rattle.ir_shape.proofs.line_shapes.stated.are_operands_known.Given as goal

abbrev pub invariant-loop-operand : goal.invariant-loop-operand
invariant-loop-operand l =
    are_types_known l.beside (flat_map stated_by_operand (drop l.operand-index l.operands)) ≡ are_types_known l.beside (flat_map stated_by_operand l.operands)
