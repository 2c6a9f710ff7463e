-- The examples of specs/Examples compute.
use Rattle.std.proofs.Common.{refl}
use Rattle.rule_base.specs.NumberLaws.{number_worth}
use Rattle.rule_base.specs.Examples.{DropFlagsTakesThese, FoldTakesThese, ReflTakesThese, SubstTakesThese, TheseStandApart, UndefConstTakesThese}

pub refl_takes_these : ReflTakesThese
refl_takes_these = record {
  operand_itself = refl;
  sum_itself = refl;
  without_its_flag = refl;
  exact_sum_has_no_type = refl;
  number_past_its_type = refl;
}

pub undef_const_takes_these : UndefConstTakesThese
undef_const_takes_these = record {
  number_itself = refl;
  undef_itself = refl;
  number_past_its_type = refl;
  number_of_another_type = refl;
  no_register = refl;
  of_undef_alone = refl;
  no_integer_is_null = refl;
  null_is_simple = refl;
  global_is_too = refl;
  element_is_not = refl;
  conversion_is_not = refl;
}

pub subst_takes_these : SubstTakesThese
subst_takes_these = record {
  left = refl;
  right = refl;
  never_both = refl;
  never_neither = refl;
  never_back = refl;
  never_another = refl;
  flags_stay = refl;
  old_is_another = refl;
  of_its_type_alone = refl;
  operand_alone = refl;
  divisor = refl;
  comparison = refl;
  conversion = refl;
  conversion_stays = refl;
  arm = refl;
  condition_is_of_i1 = refl;
  never_both_arms = refl;
}

pub drop_flags_takes_these : DropFlagsTakesThese
drop_flags_takes_these = record {
  one_of_two = refl;
  all = refl;
  none_of_none = refl;
  never_more = refl;
  never_another_flag = refl;
  never_another_operator = refl;
  never_another_operand = refl;
  never_turned_round = refl;
  comparisons_have_none = refl;
}

pub fold_takes_these : FoldTakesThese
fold_takes_these = record {
  sum = simp (number_worth) refl;
  another_sum = simp (number_worth) refl;
  sum_is_no_undef = simp (number_worth) refl;
  sum_of_another_type = refl;
  broken_flag_to_undef = simp (number_worth) refl;
  broken_flag_to_any = simp (number_worth) refl;
  broken_flag_to_none_past_its_type = refl;
  broken_flag_to_no_register = simp (number_worth) refl;
  division_by_zero = simp (number_worth) refl;
  least_by_minus_one_of_i1 = simp (number_worth) refl;
  shift_by_the_width = simp (number_worth) refl;
  shift_by_the_width_to_undef = simp (number_worth) refl;
  no_register = refl;
  no_undef = refl;
  comparison = simp (number_worth) refl;
  comparison_that_fails = simp (number_worth) refl;
  sign_extended = simp (number_worth) refl;
  truncated = simp (number_worth) refl;
  first_arm = simp (number_worth) refl;
  other_arm = simp (number_worth) refl;
  undef_condition = refl;
  undef_arm = refl;
  number_itself = simp (number_worth) refl;
  another_number = simp (number_worth) refl;
  undef_alone = refl;
}

pub these_stand_apart : TheseStandApart
these_stand_apart = record { different = refl; side_by_side = refl; another_between = refl }
