-- The examples are computed.
use Rattle.std.proofs.Common.{refl}
use Rattle.module_texts.proofs.NamedModuleLaws.Folds.{trees}
use Rattle.module_texts.specs.NamedModuleLaws.NumbersAtFault.{NumbersAreTested}

pub numbers_are_tested : NumbersAreTested
numbers_are_tested = record {
  highest = simp trees refl;
  zero = simp trees refl;
  too_high = simp trees refl;
  lowest = simp trees refl;
  too_low = simp trees refl;
  truth = simp trees refl;
  one_bit = simp trees refl;
  two = simp trees refl;
  truth_of_byte = simp trees refl;
  of_pointer = simp trees refl;
  of_array = simp trees refl;
  in_line = simp trees refl;
  in_case = simp trees refl;
  case_of_pointer = simp trees refl;
  truth_count = simp trees refl;
  in_count = simp trees refl;
  count_of_pointer = simp trees refl;
  count = simp trees refl;
  align = simp trees refl;
  negative_align = simp trees refl;
  no_align = simp trees refl;
  store_align = simp trees refl;
  global_align = simp trees refl;
  lowest_align = simp trees refl;
  highest_align = simp trees refl;
  too_high_align = simp trees refl;
}
