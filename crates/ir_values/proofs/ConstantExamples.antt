-- The examples of constants compute.
use Rattle.std.proofs.Common.{◌≡◌, refl, sym}
use Rattle.ir_types.specs.declared.ty.Ty.{Ty, Ptr}
use Rattle.ir_types.specs.declared.ty.Ty.TheViews.{outs-Array, outs-Int, outs-Ptr, outs-Struct}
use Rattle.ir_types.specs.Same.{same_ty}
use Rattle.ir_types.proofs.Monotone as layout
use Rattle.ir_types.proofs.SameLaws.{same_ty_refl}
use Rattle.ir_typing.proofs.ShapeKinds.Pointers.{same_pointers}
use Rattle.ir_values.specs.ConstantExamples.{ConstantsAreWorth}
use Rattle.ir_values.proofs.ConstantWalks.{of_cast, of_element, of_global, of_null, of_number, of_undef, worth_cast, worth_element, worth_global, worth_null, worth_number, worth_undef}

pointers : (a b : Ty) → same_ty (Ptr a) (Ptr b) ≡ same_ty a b
pointers a b = sym (same_pointers a b)

pub constants_are_worth : ConstantsAreWorth
constants_are_worth = record {
  number = simp (of_number, worth_number) refl;
  wide_number = simp (of_number, worth_number) refl;
  number_at_pointer = simp (of_number) refl;
  undef = simp (of_undef, worth_undef) refl;
  undef_at_struct = simp (of_undef, outs-Struct) refl;
  null = simp (of_null, worth_null, outs-Ptr) refl;
  null_at_integer = simp (of_null, outs-Int) refl;
  first_global = simp (of_global, worth_global, pointers) refl;
  second_global = simp (of_global, worth_global, same_ty_refl) refl;
  no_global = simp (of_global) refl;
  at_other_type = simp (of_global, pointers) refl;
  recast = simp (of_cast, of_global, worth_cast, worth_global, pointers, outs-Ptr) refl;
  recast_of_other = simp (of_cast, of_global, pointers) refl;
  to_the_end = simp (of_element, of_global, of_number, worth_element, worth_global, worth_number, pointers, layout.at_int) refl;
  past_the_end = simp (of_element, of_global, of_number, worth_element, worth_global, worth_number, pointers, layout.at_int) refl;
  past_the_end_without = simp (of_element, of_global, of_number, worth_element, worth_global, worth_number, pointers, layout.at_int) refl;
  base_of_other = simp (of_element, of_global, pointers) refl;
  field = simp (of_element, of_global, of_number, worth_element, worth_global, worth_number, same_ty_refl, layout.at_int, layout.at_struct, outs-Struct) refl;
  into_large = simp (of_element, of_global, of_number, worth_element, worth_global, worth_number, same_ty_refl, layout.at_int, layout.at_array, outs-Array) refl;
  in_large = simp (of_element, of_cast, of_global, of_number, worth_element, worth_cast, worth_global, worth_number, same_ty_refl, layout.at_int, layout.at_array, outs-Ptr) refl;
  in_large_without = simp (of_element, of_cast, of_global, of_number, worth_element, worth_cast, worth_global, worth_number, same_ty_refl, layout.at_int, outs-Ptr) refl;
}
