use Rattle.std.proofs.Common.{◌≡◌, drop}
use Rattle.std.specs.List.{flat_map}
use Rattle.ir_core.specs.StatedTypes.{stated_by_operand}
use Rattle.ir_typing.specs.OperandTests.Known.{are_types_known}
use Rattle.ir_shape.specs.ShapeTests.Typed.{operands_at}
use Rattle.ir_shape.proofs.line_shapes.stated.are_entries_known.Given as goal

abbrev pub invariant-loop-entry : goal.invariant-loop-entry
invariant-loop-entry l =
    are_types_known l.beside (flat_map stated_by_operand (operands_at l.ty (drop l.entry-index l.entries)))
    ≡ are_types_known l.beside (flat_map stated_by_operand (operands_at l.ty l.entries))
