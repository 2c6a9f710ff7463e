-- The examples of faults in lines, terminators, labels and names.
use Rattle.std.proofs.Common.{[], refl}
use Rattle.ir_types.specs.declared.ty.Ty.{Struct}
use Rattle.ir_types.specs.declared.ty.Ty.TheViews.{outs-Ptr, outs-Array, outs-Struct, outs-Void}
use Rattle.ir_types.proofs.SameLaws.{same_ty_refl}
use Rattle.ir_core.proofs.TypeNames.{at_array, at_int, at_ptr, at_struct, at_void}
use Rattle.ir_core.proofs.Typing.{in_number}
use Rattle.ir_shape.proofs.ShapeLaws.Levels.{of_number}
use Rattle.ir_typing.specs.ShapeKinds.Typed.{with_type}
use Rattle.ir_shape.specs.ShapeLaws.Laws.{Branches, Cases, ConditionsAndArms, Conversions, EnteredEntries, FittingLinesHaveNone, Labels, Names, Operands, OperandsOfNoInteger, Phis, Registers, Results}

pub none : FittingLinesHaveNone
unfolding with_type
none = simp (at_int) refl

pub integers : OperandsOfNoInteger
unfolding with_type
integers = (
  simp (at_int, at_void, outs-Void) refl,
  simp (at_int, at_void, outs-Void) refl,
  simp (at_int, at_ptr, outs-Ptr) refl,
  simp (at_int, at_struct, outs-Struct, same_ty_refl (Struct [])) refl,
  simp (at_int) refl,
)

pub arms : ConditionsAndArms
unfolding with_type
arms = (simp (at_int) refl, simp (at_int) refl)

pub conversions : Conversions
unfolding with_type
conversions = (simp (at_int) refl, simp (at_int) refl, simp (at_int) refl, simp (at_int) refl)

pub results : Results
unfolding with_type
results = (simp (at_int) refl, simp (at_int) refl)

pub phis : Phis
unfolding with_type
phis = (
  simp (at_int) refl,
  simp (at_int, in_number, of_number) refl,
  simp (at_int, in_number, of_number) refl,
  simp (at_int, in_number, of_number) refl,
  simp (at_int, in_number, of_number) refl,
)

pub entries : EnteredEntries
unfolding with_type
entries = (simp (at_int) refl, simp (at_int) refl)

pub branches : Branches
unfolding with_type
branches = (simp (at_int) refl, simp (at_int, at_void) refl, simp (at_int) refl)

pub cases : Cases
unfolding with_type
cases = (simp (at_int) refl, simp (at_int) refl, simp (at_int) refl, simp (at_int) refl)

pub names : Names
unfolding with_type
names = (
  refl,
  simp (at_int) refl,
  refl,
  simp (at_int) refl,
  simp (at_int) refl,
  simp (at_int) refl,
  simp (at_int) refl,
)

pub labels : Labels
unfolding with_type
labels = (simp (at_int) refl, simp (at_int, in_number, of_number) refl, simp (at_int) refl, simp (at_int) refl)

pub operands : Operands
unfolding with_type
operands = (simp (at_int) refl, simp (at_int) refl)

pub registers : Registers
unfolding with_type
registers = (
  simp (at_int, at_void, outs-Void) refl,
  simp (at_int, at_void, outs-Void) refl,
  simp (at_int, at_array, outs-Array) refl,
  simp (at_int, at_ptr, outs-Ptr) refl,
)
