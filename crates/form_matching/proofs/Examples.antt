-- The examples of specs/Examples compute.
use Rattle.std.proofs.Common.{refl}
use Rattle.form_matching.specs.Examples.{FormsTakeThese}

pub forms_take_these : FormsTakeThese
unfolding lib.Count.count_trailing_zeros
forms_take_these = record {
  product_by_8 = refl;
  product_by_1 = refl;
  flags_may_go = refl;
  never_more_flags = refl;
  nsw_below_the_sign_bit = refl;
  never_nsw_at_the_sign_bit = refl;
  sign_bit = refl;
  never_nsw_of_one_bit = refl;
  one_bit = refl;
  no_power = refl;
  product_by_0 = refl;
  another_exponent = refl;
  another_register = refl;
  turned_round = refl;
  another_operator = refl;
  never_backwards = refl;
  quotient_by_8 = refl;
  quotient_by_no_power = refl;
  remainder_by_8 = refl;
  remainder_by_1 = refl;
  remainder_by_no_power = refl;
  negated = refl;
  least_negated = refl;
  never_zero_negated = refl;
  undef_is_no_number = refl;
  sum = refl;
  another_sum = refl;
  sum_of_another_line = refl;
  places = refl;
  places_past_the_width = refl;
  never_reduced = refl;
  bits = refl;
  other_bits = refl;
  all_ones = refl;
  all_ones_of_64_bits = refl;
  all_ones_of_one_bit = refl;
  not_all_ones = refl;
  least = refl;
  never_the_next = refl;
  doubled = refl;
  never_of_one_bit = refl;
  one_letter = refl;
  two_undefs = refl;
  two_registers = refl;
  another_width = refl;
  operands_exchanged = refl;
  operands_not_exchanged = refl;
  flags_of_one_letter = refl;
  back_to_its_type = refl;
  never_to_another_type = refl;
  a_premise_is_wanted = refl;
  another_premise = refl;
  a_premise_too_many = refl;
  a_premise_where_none_is = refl;
  sext_of_zext = refl;
  zext_of_sext = refl;
}
