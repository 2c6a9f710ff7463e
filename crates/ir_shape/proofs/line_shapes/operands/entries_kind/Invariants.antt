use Rattle.std.proofs.Common.{◌≡◌, drop}
use Rattle.ir_typing.specs.ShapeKinds.Kept.{type_in}
use Rattle.ir_typing.specs.ShapeKinds.Kinds.{least}
use Rattle.ir_shape.specs.ShapeTests.Typed.{operands_at}
use Rattle.ir_shape.specs.LineShapes.Told.{operands_kind}
use Rattle.ir_shape.proofs.line_shapes.operands.entries_kind.Given as goal

-- what is wrong so far, and in the entries that are left
abbrev pub invariant-loop-entry : goal.invariant-loop-entry
invariant-loop-entry l =
    least l.found (operands_kind l.beside (type_in l.types) (operands_at l.ty (drop l.entry-index l.entries)))
    ≡ operands_kind l.beside (type_in l.types) (operands_at l.ty l.entries)
