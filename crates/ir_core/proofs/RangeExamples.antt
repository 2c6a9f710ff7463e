-- What is in range, and what is just outside of it.
use Rattle.std.proofs.Common.{◌≡◌, ℕ, zero, true, false, [], ◌∷◌, Some, refl, arith}
use Rattle.ir_types.specs.declared.ty.Ty.{Int, Ptr, Array, Struct, Named, Void}
use Rattle.ir_types.proofs.Wholes.{positive}
use Rattle.ir_core.specs.declared.modules.Init.{Bytes, Zero}
use Rattle.ir_core.specs.Examples.{x}
use Rattle.ir_core.specs.RangeLaws.{AlignmentsAndCountsHaveRanges, ConstantsHaveRanges, DeclarationsHaveRanges, DeclarationsStandInOrder, GlobalsHaveRanges, LinesHaveRanges, TypesHaveRanges, address, elements, recast}
use Rattle.ir_core.specs.Ranges.{IsAlignInRange, constant_written, init_written, is_written}
use Rattle.ir_core.proofs.Ranges.{at_array, at_int, at_named, at_ptr, at_struct, at_void, by_array, by_bytes, by_const, by_zero, no_void, of_cast, of_element, of_global, of_null, of_number, of_undef}
use Rattle.ir_core.proofs.WellFormed.{name_f, name_x}

pub types_have_ranges : TypesHaveRanges
types_have_ranges = record {
  widest = refl;
  too_wide = λ range. cc;
  pointer = simp (at_ptr, at_int) refl;
  wide_pointer = λ range. let none : is_written (Ptr (Int 65)) ≡ false = simp (at_ptr, at_int) refl in cc;
  to_void = λ range. let none : is_written (Ptr Void) ≡ false = simp (at_ptr, at_void) refl in cc;
  array = simp (at_array, at_int) refl;
  large_array = λ range. let none : is_written (Array 18446744073709551616 (Int 8)) ≡ false = simp (at_array, at_int) refl in cc;
  wide_element = λ range. let none : is_written (Array 2 (Int 0)) ≡ false = simp (at_array, at_int) refl in cc;
  empty = simp (at_struct) refl;
  struct = simp (at_struct, at_int, at_ptr, at_named) refl;
  void_field = λ range. let none : is_written (Struct (Int 1 ∷ Void ∷ [])) ≡ false = simp (at_struct, at_int, at_void) refl in cc;
  void = no_void;
  void_result = tt;
}

no_zero : IsAlignInRange (Some 0) → ⊥
no_zero range = absurd (omega (arith, positive 0 range.0))

greatest_align : IsAlignInRange (Some 536870912)
greatest_align = ((29, refl), omega arith)

no_greater : IsAlignInRange (Some 1073741824) → ⊥
no_greater range = absurd (omega (arith, range.1))

pub alignments_and_counts_have_ranges : AlignmentsAndCountsHaveRanges
alignments_and_counts_have_ranges = record {
  none = tt;
  one = ((0, refl), omega arith);
  greatest = greatest_align;
  zero = no_zero;
  greater = no_greater;
  no_count = tt;
  count = (refl, refl, λ e. cc);
  wide_count = λ range. let none = range.1 in cc;
  one_count = λ range. range.2 refl;
  pointer_count = λ range. let none = range.1 in cc;
}

pub constants_have_ranges : ConstantsHaveRanges
constants_have_ranges = record {
  null = of_null (Ptr (Int 8));
  undef = of_undef (Ptr (Int 8));
  of_global = of_global (Ptr (Int 8)) x;
  number = λ range. cc;
  index = simp (of_element, of_global, of_number, at_ptr, at_int) refl;
  wide_index = λ range. let none : constant_written (Ptr (Int 8)) (address 256) ≡ false = simp (of_element, of_global, of_number, at_ptr, at_int) refl in cc;
  of_pointer = simp (of_cast, of_global, at_ptr, at_int) refl;
  of_wide_pointer = λ range. let none : constant_written (Ptr (Int 8)) (recast (Ptr (Int 65))) ≡ false = simp (of_cast, of_global, at_ptr, at_int) refl in cc;
}

pub globals_have_ranges : GlobalsHaveRanges
globals_have_ranges = record {
  external = record { name = name_x; ty = refl; init = refl; align = tt };
  nothing_held = λ range. let same = range.init in cc;
  zero = record { name = name_x; ty = simp (at_array, at_int) refl; init = by_zero (Array 2 (Int 8)); align = tt };
  bytes = record { name = name_x; ty = simp (at_array, at_int) refl; init = by_bytes (Array 2 (Int 8)) (0 ∷ 255 ∷ []); align = tt };
  no_byte = λ range. let none : init_written (Array 1 (Int 8)) (Bytes (256 ∷ [])) ≡ false = by_bytes (Array 1 (Int 8)) (256 ∷ []) in let is = range.init in cc;
  array = record { name = name_x; ty = simp (at_array, at_int) refl; init = simp (by_array, by_const, of_number, at_int) refl; align = tt };
  wide = λ range. let none : init_written (Array 2 (Int 8)) (elements 256) ≡ false = simp (by_array, by_const, of_number, at_int) refl in let is = range.init in cc;
  at_greatest = record { name = name_x; ty = refl; init = by_zero (Int 8); align = greatest_align };
  at_greater = λ range. no_greater range.align;
  at_zero = λ range. no_zero range.align;
}

pub declarations_stand_in_order : DeclarationsStandInOrder
declarations_stand_in_order = record {
  order = (omega arith, omega arith, (omega arith, omega arith, (omega arith, omega arith, tt)));
  too_many = λ order. absurd (omega (arith, order.1));
  disorder = λ order. absurd (omega (arith, order.2.0));
}

pub declarations_have_ranges : DeclarationsHaveRanges
declarations_have_ranges = record {
  plain = record { name = name_f; result = refl; params = (refl, (refl, tt)) };
  no_params = record { name = name_f; result = tt; params = tt };
  void_result = record { name = name_f; result = tt; params = (refl, (simp (at_ptr, at_int) refl, tt)) };
  void_param = λ range. no_void range.params.1.0;
  wide_param = λ range. let none = range.params.1.0 in cc;
  wide_result = λ range. let none = range.result in cc;
  no_name = λ range. absurd (omega (arith, range.name.0));
}

pub lines_have_ranges : LinesHaveRanges
lines_have_ranges = record {
  alloca = (simp (at_array, at_int) refl, tt, tt);
  wide_alloca = λ range. let none : is_written (Array 4 (Int 65)) ≡ false = simp (at_array, at_int) refl in let is = range.0 in cc;
  counted = (refl, (refl, refl, λ e. cc), tt);
  counted_wide = λ range. let none = range.1.1 in cc;
  counted_one = λ range. range.1.2 refl;
  counted_by_pointers = λ range. let none = range.1.1 in cc;
  allocated_at_greatest = (refl, (refl, refl, λ e. cc), greatest_align);
  allocated_at_greater = λ range. no_greater range.2;
  allocated_at_zero = λ range. no_zero range.2;
  load = ((2, refl), omega arith);
  loaded_at_zero = no_zero;
  store = tt;
  stored_at_zero = no_zero;
  element = refl;
  wide_element = λ range. cc;
  call = tt;
  wide_call = λ range. let none : is_written (Ptr (Int 65)) ≡ false = simp (at_ptr, at_int) refl in cc;
}
