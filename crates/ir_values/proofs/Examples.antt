-- The examples compute.
use Rattle.std.proofs.Common.{◌≡◌, refl, arith}
use Rattle.ir_core.specs.declared.values.Value.TheVariants.{Num, Undef, Poison}
use Rattle.ir_values.specs.Examples.{ComparisonsAreThese, ConversionsAreThese, DivisionsTrap, FlagsBreak, NumbersAreThese, OutcomesAreOrdered, ResultsAreThese, SelectionsAreThese, ShiftsEndAtTheWidth, UndefAndPoisonSpread, WidthsAreThese}

pub results_are_these : ResultsAreThese
results_are_these = record {
  add_255_1 = refl;
  add_100_28 = refl;
  add_1_1_of_i1 = refl;
  add_18446744073709551615_1_of_i64 = refl;
  sub_0_1 = refl;
  sub_7_5 = refl;
  mul_16_17 = refl;
  mul_4294967296_4294967296_of_i64 = refl;
  shl_129_1 = refl;
  shl_1_7 = refl;
  udiv_200_7 = refl;
  udiv_128_255 = refl;
  sdiv_249_2 = refl;
  sdiv_7_254 = refl;
  sdiv_249_254 = refl;
  sdiv_127_255 = refl;
  lshr_254_1 = refl;
  ashr_254_1 = refl;
  ashr_249_1 = refl;
  ashr_7_1 = refl;
  urem_200_7 = refl;
  srem_249_2 = refl;
  srem_7_254 = refl;
  srem_249_254 = refl;
  and_12_10 = refl;
  or_12_10 = refl;
  xor_12_10 = refl;
}

pub divisions_trap : DivisionsTrap
divisions_trap = record {
  udiv_1_0 = refl;
  sdiv_1_0 = refl;
  urem_1_0 = refl;
  srem_1_0 = refl;
  udiv_1_undef = refl;
  sdiv_1_undef = refl;
  urem_poison_poison = refl;
  srem_1_poison = refl;
  sdiv_128_255 = refl;
  srem_128_255 = refl;
  sdiv_undef_255 = refl;
  sdiv_poison_255 = refl;
  srem_undef_255 = refl;
  srem_poison_255 = refl;
  sdiv_1_1_of_i1 = refl;
  srem_1_1_of_i1 = refl;
  sdiv_exact_128_255 = refl;
  udiv_undef_255 = refl;
  urem_poison_255 = refl;
  sdiv_undef_1 = refl;
  sdiv_poison_1 = refl;
}

pub undef_and_poison_spread : UndefAndPoisonSpread
undef_and_poison_spread = record {
  add_poison_1 = refl;
  add_1_poison = refl;
  add_undef_poison = refl;
  add_poison_undef = refl;
  add_undef_1 = refl;
  add_1_undef = refl;
  add_undef_undef = refl;
  and_undef_0 = refl;
  add_nuw_undef_1 = refl;
  add_nsw_1_undef = refl;
  udiv_exact_undef_1 = refl;
}

pub shifts_end_at_the_width : ShiftsEndAtTheWidth
shifts_end_at_the_width = record {
  shl_1_8 = refl;
  lshr_1_8 = refl;
  ashr_255_255 = refl;
  shl_1_1_of_i1 = refl;
  shl_nuw_0_8 = refl;
  shl_nsw_0_8 = refl;
  lshr_exact_0_8 = refl;
  ashr_exact_0_9 = refl;
  add_1_8 = refl;
}

pub flags_break : FlagsBreak
flags_break = record {
  add_nuw_255_1 = refl;
  add_nuw_255_0 = refl;
  sub_nuw_0_1 = refl;
  sub_nuw_5_5 = refl;
  mul_nuw_16_16 = refl;
  mul_nuw_15_17 = refl;
  shl_nuw_128_1 = refl;
  shl_nuw_127_1 = refl;
  add_nsw_127_1 = refl;
  add_nsw_255_1 = refl;
  add_nsw_128_255 = refl;
  sub_nsw_128_1 = refl;
  sub_nsw_0_128 = refl;
  sub_nsw_0_1 = refl;
  mul_nsw_64_2 = refl;
  mul_nsw_192_2 = refl;
  mul_nsw_128_255 = refl;
  shl_nsw_64_1 = refl;
  shl_nsw_192_1 = refl;
  shl_nsw_64_2 = refl;
  shl_nsw_128_1 = refl;
  shl_nsw_1_6 = refl;
  udiv_exact_7_2 = refl;
  udiv_exact_6_2 = refl;
  sdiv_exact_249_2 = refl;
  sdiv_exact_250_2 = refl;
  lshr_exact_3_1 = refl;
  lshr_exact_2_1 = refl;
  ashr_exact_255_1 = refl;
  ashr_exact_254_1 = refl;
}

pub comparisons_are_these : ComparisonsAreThese
comparisons_are_these = record {
  eq_5_5 = refl;
  eq_5_6 = refl;
  ne_5_6 = refl;
  ne_5_5 = refl;
  ugt_128_0 = refl;
  ugt_0_0 = refl;
  uge_0_0 = refl;
  uge_0_1 = refl;
  ult_0_128 = refl;
  ult_128_0 = refl;
  ule_0_0 = refl;
  ule_1_0 = refl;
  sgt_0_128 = refl;
  sgt_128_0 = refl;
  sge_0_0 = refl;
  sge_128_0 = refl;
  slt_128_0 = refl;
  slt_0_128 = refl;
  sle_0_0 = refl;
  sle_0_128 = refl;
  slt_1_0_of_i1 = refl;
  ult_1_0_of_i1 = refl;
  eq_poison_1 = refl;
  eq_1_poison = refl;
  eq_undef_poison = refl;
  eq_undef_undef = refl;
  ult_undef_0 = refl;
  ult_0_undef = refl;
}

pub conversions_are_these : ConversionsAreThese
conversions_are_these = record {
  zext_1_to_8_1 = refl;
  zext_8_to_16_200 = refl;
  sext_1_to_8_1 = refl;
  sext_8_to_16_128 = refl;
  sext_8_to_16_127 = refl;
  sext_8_to_64_255 = refl;
  trunc_16_to_8_258 = refl;
  trunc_8_to_1_2 = refl;
  trunc_8_to_1_3 = refl;
  bitcast_8_to_8_200 = refl;
  zext_8_to_16_undef = refl;
  sext_8_to_16_poison = refl;
  trunc_16_to_8_undef = refl;
  bitcast_8_to_8_poison = refl;
}

pub selections_are_these : SelectionsAreThese
selections_are_these = record {
  select_1_7_9 = refl;
  select_0_7_9 = refl;
  select_1_7_poison = refl;
  select_0_poison_9 = refl;
  select_1_poison_9 = refl;
  select_0_undef_undef = refl;
  select_1_undef_poison = refl;
  select_poison_7_7 = refl;
  select_undef_7_7 = refl;
  select_undef_poison_7 = refl;
  select_undef_7_poison = refl;
  select_undef_undef_7 = refl;
}

pub outcomes_are_ordered : OutcomesAreOrdered
outcomes_are_ordered = record {
  trap = λ o. tt;
  no_trap = λ v l. l;
  poison = λ v. tt;
  undef = λ n. tt;
  undef_no_poison = λ l. l;
  number = λ n. refl;
  number_no_other = λ (l : Num 8 ≡ Num 7). cc;
  number_no_undef = λ (l : Undef ≡ Num 7). cc;
  number_no_poison = λ (l : Poison ≡ Num 7). cc;
}

pub numbers_are_these : NumbersAreThese
numbers_are_these = record {
  number = λ n. tt;
  undef = λ l. l;
  poison = λ l. l;
}

pub widths_are_these : WidthsAreThese
widths_are_these = record {
  least = (omega arith, omega arith);
  most = (omega arith, omega arith);
  none = λ l. let one = l.0 in omega arith;
  more = λ l. let most = l.1 in omega arith;
}
