-- The examples of faults in named types, and of the order of faults.
use Rattle.std.proofs.Common.{refl}
use Rattle.ir_core.proofs.TypeNames.{at_array, at_int, at_named, at_ptr, at_struct}
use Rattle.ir_typing.specs.ShapeKinds.Typed.{with_type}
use Rattle.ir_shape.specs.ShapeLaws.Laws.{FunctionsComeInOrder, KindsComeInOrder, LinesComeBeforeEnds, NamedTypes, NamesComeBeforeLines, TypesComeFirst}

pub named_types : NamedTypes
named_types = (
  simp (at_int) refl,
  simp (at_int, at_ptr, at_named, at_struct) refl,
  simp (at_named) refl,
  simp (at_ptr, at_array, at_named) refl,
)

pub lines_come_before_ends : LinesComeBeforeEnds
unfolding with_type
lines_come_before_ends = simp (at_int) refl

pub names_come_before_lines : NamesComeBeforeLines
names_come_before_lines = refl

pub types_come_first : TypesComeFirst
types_come_first = simp (at_named) refl

pub functions_come_in_order : FunctionsComeInOrder
unfolding with_type
functions_come_in_order = simp (at_int) refl

pub kinds_come_in_order : KindsComeInOrder
unfolding with_type
kinds_come_in_order = (simp (at_int) refl, simp (at_int) refl, simp (at_int) refl)
