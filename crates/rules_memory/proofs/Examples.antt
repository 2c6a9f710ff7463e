-- The examples of specs/Examples compute.
use Rattle.std.proofs.Common.{◌≡◌, refl, sym}
use Rattle.ir_types.specs.declared.ty.Ty.{Ty, Ptr}
use Rattle.ir_types.specs.declared.ty.Ty.TheViews.{outs-Int, outs-Ptr}
use Rattle.ir_types.specs.Same.{same_ty}
use Rattle.ir_types.proofs.Monotone as layout
use Rattle.ir_core.proofs.TypeNames as names
use Rattle.ir_typing.proofs.ShapeKinds.Pointers.{same_pointers}
use Rattle.rules_memory.specs.Examples.{GepZeroTakesThese, LoadAlignTakesThese, LoadOkTakesThese, NoAliasDerivedTakesThese, NoAliasGlobalsTakesThese, NoAliasSwapTakesThese, NoAliasUniqueTakesThese, OkAlignTakesThese, OkCastTakesThese, OkGlobalTakesThese, PrivateDerivedTakesThese}

pointers : (a b : Ty) → same_ty (Ptr a) (Ptr b) ≡ same_ty a b
pointers a b = sym (same_pointers a b)

pub gep_zero_takes_these : GepZeroTakesThese
gep_zero_takes_these = record {
  by_zero = simp (pointers, outs-Ptr, outs-Int, names.at_int, names.at_ptr, layout.at_int, layout.at_ptr) refl;
  by_one = simp (pointers, outs-Ptr, outs-Int, names.at_int, names.at_ptr, layout.at_int, layout.at_ptr) refl;
  by_register = simp (pointers, outs-Ptr, outs-Int, names.at_int, names.at_ptr, layout.at_int, layout.at_ptr) refl;
  another_pointer = simp (pointers, outs-Ptr, outs-Int, names.at_int, names.at_ptr, layout.at_int, layout.at_ptr) refl;
  turned_round = refl;
}

pub noalias_unique_takes_these : NoAliasUniqueTakesThese
noalias_unique_takes_these = record {
  another_register = simp (pointers, outs-Ptr, outs-Int, names.at_int, names.at_ptr, layout.at_int, layout.at_ptr) refl;
  a_global = simp (pointers, outs-Ptr, outs-Int, names.at_int, names.at_ptr, layout.at_int, layout.at_ptr) refl;
  itself = simp (pointers, outs-Ptr, outs-Int, names.at_int, names.at_ptr, layout.at_int, layout.at_ptr) refl;
  of_another = simp (pointers, outs-Ptr, outs-Int, names.at_int, names.at_ptr, layout.at_int, layout.at_ptr) refl;
  turned_round = simp (pointers, outs-Ptr, outs-Int, names.at_int, names.at_ptr, layout.at_int, layout.at_ptr) refl;
  from_null = simp (pointers, outs-Ptr, outs-Int, names.at_int, names.at_ptr, layout.at_int, layout.at_ptr) refl;
  from_ghost = simp (pointers, outs-Ptr, outs-Int, names.at_int, names.at_ptr, layout.at_int, layout.at_ptr) refl;
  from_old = simp (pointers, outs-Ptr, outs-Int, names.at_int, names.at_ptr, layout.at_int, layout.at_ptr) refl;
  ghost_is_not_unique = refl;
}

pub noalias_swap_takes_these : NoAliasSwapTakesThese
noalias_swap_takes_these = record {
  turned_round = simp (pointers, outs-Ptr, outs-Int, names.at_int, names.at_ptr, layout.at_int, layout.at_ptr) refl;
  never_the_same = simp (pointers, outs-Ptr, outs-Int, names.at_int, names.at_ptr, layout.at_int, layout.at_ptr) refl;
  never_another = simp (pointers, outs-Ptr, outs-Int, names.at_int, names.at_ptr, layout.at_int, layout.at_ptr) refl;
}

pub noalias_derived_takes_these : NoAliasDerivedTakesThese
noalias_derived_takes_these = record {
  of_element = simp (pointers, outs-Ptr, outs-Int, names.at_int, names.at_ptr, layout.at_int, layout.at_ptr) refl;
  of_bitcast = simp (pointers, outs-Ptr, outs-Int, names.at_int, names.at_ptr, layout.at_int, layout.at_ptr) refl;
  premise_turned_round = refl;
  of_the_other = simp (pointers, outs-Ptr, outs-Int, names.at_int, names.at_ptr, layout.at_int, layout.at_ptr) refl;
  about_another = simp (pointers, outs-Ptr, outs-Int, names.at_int, names.at_ptr, layout.at_int, layout.at_ptr) refl;
  from_another = simp (pointers, outs-Ptr, outs-Int, names.at_int, names.at_ptr, layout.at_int, layout.at_ptr) refl;
  of_an_integer = simp (pointers, outs-Ptr, outs-Int, names.at_int, names.at_ptr, layout.at_int, layout.at_ptr) refl;
  of_itself = simp (pointers, outs-Ptr, outs-Int, names.at_int, names.at_ptr, layout.at_int, layout.at_ptr) refl;
}

pub noalias_globals_takes_these : NoAliasGlobalsTakesThese
noalias_globals_takes_these = record {
  two = simp (pointers, outs-Ptr, outs-Int, names.at_int, names.at_ptr, layout.at_int, layout.at_ptr) refl;
  turned_round = simp (pointers, outs-Ptr, outs-Int, names.at_int, names.at_ptr, layout.at_int, layout.at_ptr) refl;
  one = simp (pointers, outs-Ptr, outs-Int, names.at_int, names.at_ptr, layout.at_int, layout.at_ptr) refl;
  register_is_none = simp (pointers, outs-Ptr, outs-Int, names.at_int, names.at_ptr, layout.at_int, layout.at_ptr) refl;
  at_another_type = simp (pointers, outs-Ptr, outs-Int, names.at_int, names.at_ptr, layout.at_int, layout.at_ptr) refl;
  nowhere = simp (pointers, outs-Ptr, outs-Int, names.at_int, names.at_ptr, layout.at_int, layout.at_ptr) refl;
}

pub private_derived_takes_these : PrivateDerivedTakesThese
private_derived_takes_these = record {
  of_element = simp (pointers, outs-Ptr, outs-Int, names.at_int, names.at_ptr, layout.at_int, layout.at_ptr) refl;
  of_bitcast = simp (pointers, outs-Ptr, outs-Int, names.at_int, names.at_ptr, layout.at_int, layout.at_ptr) refl;
  premise_turned_round = refl;
  of_another = simp (pointers, outs-Ptr, outs-Int, names.at_int, names.at_ptr, layout.at_int, layout.at_ptr) refl;
  about_another = simp (pointers, outs-Ptr, outs-Int, names.at_int, names.at_ptr, layout.at_int, layout.at_ptr) refl;
  about_its_ghost = refl;
  of_an_old_base = simp (pointers, outs-Ptr, outs-Int, names.at_int, names.at_ptr, layout.at_int, layout.at_ptr) refl;
}

pub ok_align_takes_these : OkAlignTakesThese
ok_align_takes_these = record {
  smaller = simp (pointers, outs-Ptr, outs-Int, names.at_int, names.at_ptr, layout.at_int, layout.at_ptr) refl;
  itself = simp (pointers, outs-Ptr, outs-Int, names.at_int, names.at_ptr, layout.at_int, layout.at_ptr) refl;
  larger = simp (pointers, outs-Ptr, outs-Int, names.at_int, names.at_ptr, layout.at_int, layout.at_ptr) refl;
  no_divisor = simp (pointers, outs-Ptr, outs-Int, names.at_int, names.at_ptr, layout.at_int, layout.at_ptr) refl;
  zero = simp (pointers, outs-Ptr, outs-Int, names.at_int, names.at_ptr, layout.at_int, layout.at_ptr) refl;
  of_another = simp (pointers, outs-Ptr, outs-Int, names.at_int, names.at_ptr, layout.at_int, layout.at_ptr) refl;
  at_another_type = simp (pointers, outs-Ptr, outs-Int, names.at_int, names.at_ptr, layout.at_int, layout.at_ptr) refl;
  zero_divides_nothing = refl;
}

pub ok_cast_takes_these : OkCastTakesThese
ok_cast_takes_these = record {
  of_bitcast = simp (pointers, outs-Ptr, outs-Int, names.at_int, names.at_ptr, layout.at_int, layout.at_ptr) refl;
  premise_turned_round = refl;
  of_element = refl;
  of_another = simp (pointers, outs-Ptr, outs-Int, names.at_int, names.at_ptr, layout.at_int, layout.at_ptr) refl;
  about_another = simp (pointers, outs-Ptr, outs-Int, names.at_int, names.at_ptr, layout.at_int, layout.at_ptr) refl;
  at_another_type = simp (pointers, outs-Ptr, outs-Int, names.at_int, names.at_ptr, layout.at_int, layout.at_ptr) refl;
  at_another_alignment = simp (pointers, outs-Ptr, outs-Int, names.at_int, names.at_ptr, layout.at_int, layout.at_ptr) refl;
}

pub ok_global_takes_these : OkGlobalTakesThese
ok_global_takes_these = record {
  whole = simp (pointers, outs-Ptr, outs-Int, names.at_int, names.at_ptr, layout.at_int, layout.at_ptr) refl;
  part = simp (pointers, outs-Ptr, outs-Int, names.at_int, names.at_ptr, layout.at_int, layout.at_ptr) refl;
  a_byte_too_wide = simp (pointers, outs-Ptr, outs-Int, names.at_int, names.at_ptr, layout.at_int, layout.at_ptr) refl;
  aligned_too_far = simp (pointers, outs-Ptr, outs-Int, names.at_int, names.at_ptr, layout.at_int, layout.at_ptr) refl;
  zero = simp (pointers, outs-Ptr, outs-Int, names.at_int, names.at_ptr, layout.at_int, layout.at_ptr) refl;
  of_a_register = simp (pointers, outs-Ptr, outs-Int, names.at_int, names.at_ptr, layout.at_int, layout.at_ptr) refl;
  nowhere = simp (pointers, outs-Ptr, outs-Int, names.at_int, names.at_ptr, layout.at_int, layout.at_ptr) refl;
}

pub load_align_takes_these : LoadAlignTakesThese
load_align_takes_these = record {
  smaller = simp (pointers, outs-Ptr, outs-Int, names.at_int, names.at_ptr, layout.at_int, layout.at_ptr) refl;
  itself = simp (pointers, outs-Ptr, outs-Int, names.at_int, names.at_ptr, layout.at_int, layout.at_ptr) refl;
  larger = simp (pointers, outs-Ptr, outs-Int, names.at_int, names.at_ptr, layout.at_int, layout.at_ptr) refl;
  no_divisor = simp (pointers, outs-Ptr, outs-Int, names.at_int, names.at_ptr, layout.at_int, layout.at_ptr) refl;
  zero = simp (pointers, outs-Ptr, outs-Int, names.at_int, names.at_ptr, layout.at_int, layout.at_ptr) refl;
  of_another = simp (pointers, outs-Ptr, outs-Int, names.at_int, names.at_ptr, layout.at_int, layout.at_ptr) refl;
}

pub load_ok_takes_these : LoadOkTakesThese
load_ok_takes_these = record {
  whatever = simp (pointers, outs-Ptr, outs-Int, names.at_int, names.at_ptr, layout.at_int, layout.at_ptr) refl;
  turned_round = simp (pointers, outs-Ptr, outs-Int, names.at_int, names.at_ptr, layout.at_int, layout.at_ptr) refl;
  of_another = simp (pointers, outs-Ptr, outs-Int, names.at_int, names.at_ptr, layout.at_int, layout.at_ptr) refl;
}
