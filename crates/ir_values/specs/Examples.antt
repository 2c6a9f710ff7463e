-- What operations give of given operands, worked out by hand from the LangRef: an example of each case.
use Rattle.std.specs.Prelude.{◌≡◌, ℕ, true, false}
use Rattle.ir_core.specs.declared.values.Value.{Value}
use Rattle.ir_core.specs.declared.values.Value.TheVariants.{Num, Undef, Poison}
use Rattle.ir_core.specs.declared.values.Kind.{Kind}
use Rattle.ir_core.specs.declared.values.Kind.TheVariants.{Int}
use Rattle.ir_core.specs.declared.operands.BinOp.TheVariants as op
use Rattle.ir_core.specs.declared.operands.CastOp.TheVariants as cast
use Rattle.ir_core.specs.declared.operands.Flags.{Flags}
use Rattle.ir_core.specs.declared.operands.Pred.{Pred}
use Rattle.ir_core.specs.declared.operands.Pred.TheVariants as pred
use Rattle.ir_values.specs.declared.operations.Outcome.{Outcome}
use Rattle.ir_values.specs.declared.operations.Outcome.TheVariants.{Gives, Trap}
use Rattle.ir_values.specs.Comparisons.{icmp_outcome}
use Rattle.ir_values.specs.Conversions.{cast_outcome}
use Rattle.ir_values.specs.Operations.{IsOutcomeLessDefined, binary_outcome}
use Rattle.ir_values.specs.Selections.{select_outcome}
use Rattle.ir_values.specs.ValueLaws.{IsNumber}
use Rattle.ir_values.specs.Values.{HasWidth}

abbrev pub gives : ℕ → Outcome
gives n = Gives (Num n)

-- numbers are compared; sizes of blocks are passed over
abbrev pub compared : Pred → Kind → Value → Value → Outcome
compared pred k a b = icmp_outcome pred k a b 0 0

abbrev pub no_flags : Flags
no_flags = record { nuw = false; nsw = false; exact = false }

abbrev pub nuw : Flags
nuw = record { nuw = true; nsw = false; exact = false }

abbrev pub nsw : Flags
nsw = record { nuw = false; nsw = true; exact = false }

abbrev pub exactly : Flags
exactly = record { nuw = false; nsw = false; exact = true }

-- numbers, of i8 where no other type is named: 249 is -7, 254 is -2 and 255 is -1
pub record ResultsAreThese : Type 0 where
  pub add_255_1 : binary_outcome op.Add no_flags 8 (Num 255) (Num 1) ≡ gives 0
  pub add_100_28 : binary_outcome op.Add no_flags 8 (Num 100) (Num 28) ≡ gives 128
  pub add_1_1_of_i1 : binary_outcome op.Add no_flags 1 (Num 1) (Num 1) ≡ gives 0
  pub add_18446744073709551615_1_of_i64 : binary_outcome op.Add no_flags 64 (Num 18446744073709551615) (Num 1) ≡ gives 0
  pub sub_0_1 : binary_outcome op.Sub no_flags 8 (Num 0) (Num 1) ≡ gives 255
  pub sub_7_5 : binary_outcome op.Sub no_flags 8 (Num 7) (Num 5) ≡ gives 2
  pub mul_16_17 : binary_outcome op.Mul no_flags 8 (Num 16) (Num 17) ≡ gives 16
  pub mul_4294967296_4294967296_of_i64 : binary_outcome op.Mul no_flags 64 (Num 4294967296) (Num 4294967296) ≡ gives 0
  pub shl_129_1 : binary_outcome op.Shl no_flags 8 (Num 129) (Num 1) ≡ gives 2
  pub shl_1_7 : binary_outcome op.Shl no_flags 8 (Num 1) (Num 7) ≡ gives 128
  pub udiv_200_7 : binary_outcome op.UDiv no_flags 8 (Num 200) (Num 7) ≡ gives 28
  pub udiv_128_255 : binary_outcome op.UDiv no_flags 8 (Num 128) (Num 255) ≡ gives 0
  pub sdiv_249_2 : binary_outcome op.SDiv no_flags 8 (Num 249) (Num 2) ≡ gives 253
  pub sdiv_7_254 : binary_outcome op.SDiv no_flags 8 (Num 7) (Num 254) ≡ gives 253
  pub sdiv_249_254 : binary_outcome op.SDiv no_flags 8 (Num 249) (Num 254) ≡ gives 3
  pub sdiv_127_255 : binary_outcome op.SDiv no_flags 8 (Num 127) (Num 255) ≡ gives 129
  pub lshr_254_1 : binary_outcome op.LShr no_flags 8 (Num 254) (Num 1) ≡ gives 127
  pub ashr_254_1 : binary_outcome op.AShr no_flags 8 (Num 254) (Num 1) ≡ gives 255
  pub ashr_249_1 : binary_outcome op.AShr no_flags 8 (Num 249) (Num 1) ≡ gives 252
  pub ashr_7_1 : binary_outcome op.AShr no_flags 8 (Num 7) (Num 1) ≡ gives 3
  pub urem_200_7 : binary_outcome op.URem no_flags 8 (Num 200) (Num 7) ≡ gives 4
  pub srem_249_2 : binary_outcome op.SRem no_flags 8 (Num 249) (Num 2) ≡ gives 255
  pub srem_7_254 : binary_outcome op.SRem no_flags 8 (Num 7) (Num 254) ≡ gives 1
  pub srem_249_254 : binary_outcome op.SRem no_flags 8 (Num 249) (Num 254) ≡ gives 255
  pub and_12_10 : binary_outcome op.And no_flags 8 (Num 12) (Num 10) ≡ gives 8
  pub or_12_10 : binary_outcome op.Or no_flags 8 (Num 12) (Num 10) ≡ gives 14
  pub xor_12_10 : binary_outcome op.Xor no_flags 8 (Num 12) (Num 10) ≡ gives 6

-- the divisor is 0, undef or poison, or it is -1 and the dividend is the least number, undef or poison
pub record DivisionsTrap : Type 0 where
  pub udiv_1_0 : binary_outcome op.UDiv no_flags 8 (Num 1) (Num 0) ≡ Trap
  pub sdiv_1_0 : binary_outcome op.SDiv no_flags 8 (Num 1) (Num 0) ≡ Trap
  pub urem_1_0 : binary_outcome op.URem no_flags 8 (Num 1) (Num 0) ≡ Trap
  pub srem_1_0 : binary_outcome op.SRem no_flags 8 (Num 1) (Num 0) ≡ Trap
  pub udiv_1_undef : binary_outcome op.UDiv no_flags 8 (Num 1) Undef ≡ Trap
  pub sdiv_1_undef : binary_outcome op.SDiv no_flags 8 (Num 1) Undef ≡ Trap
  pub urem_poison_poison : binary_outcome op.URem no_flags 8 Poison Poison ≡ Trap
  pub srem_1_poison : binary_outcome op.SRem no_flags 8 (Num 1) Poison ≡ Trap
  pub sdiv_128_255 : binary_outcome op.SDiv no_flags 8 (Num 128) (Num 255) ≡ Trap
  pub srem_128_255 : binary_outcome op.SRem no_flags 8 (Num 128) (Num 255) ≡ Trap
  pub sdiv_undef_255 : binary_outcome op.SDiv no_flags 8 Undef (Num 255) ≡ Trap
  pub sdiv_poison_255 : binary_outcome op.SDiv no_flags 8 Poison (Num 255) ≡ Trap
  pub srem_undef_255 : binary_outcome op.SRem no_flags 8 Undef (Num 255) ≡ Trap
  pub srem_poison_255 : binary_outcome op.SRem no_flags 8 Poison (Num 255) ≡ Trap
  pub sdiv_1_1_of_i1 : binary_outcome op.SDiv no_flags 1 (Num 1) (Num 1) ≡ Trap
  pub srem_1_1_of_i1 : binary_outcome op.SRem no_flags 1 (Num 1) (Num 1) ≡ Trap
  pub sdiv_exact_128_255 : binary_outcome op.SDiv exactly 8 (Num 128) (Num 255) ≡ Trap
  pub udiv_undef_255 : binary_outcome op.UDiv no_flags 8 Undef (Num 255) ≡ Gives Undef
  pub urem_poison_255 : binary_outcome op.URem no_flags 8 Poison (Num 255) ≡ Gives Poison
  pub sdiv_undef_1 : binary_outcome op.SDiv no_flags 8 Undef (Num 1) ≡ Gives Undef
  pub sdiv_poison_1 : binary_outcome op.SDiv no_flags 8 Poison (Num 1) ≡ Gives Poison

-- poison before undef, and undef that is poison under a flag
pub record UndefAndPoisonSpread : Type 0 where
  pub add_poison_1 : binary_outcome op.Add no_flags 8 Poison (Num 1) ≡ Gives Poison
  pub add_1_poison : binary_outcome op.Add no_flags 8 (Num 1) Poison ≡ Gives Poison
  pub add_undef_poison : binary_outcome op.Add no_flags 8 Undef Poison ≡ Gives Poison
  pub add_poison_undef : binary_outcome op.Add no_flags 8 Poison Undef ≡ Gives Poison
  pub add_undef_1 : binary_outcome op.Add no_flags 8 Undef (Num 1) ≡ Gives Undef
  pub add_1_undef : binary_outcome op.Add no_flags 8 (Num 1) Undef ≡ Gives Undef
  pub add_undef_undef : binary_outcome op.Add no_flags 8 Undef Undef ≡ Gives Undef
  pub and_undef_0 : binary_outcome op.And no_flags 8 Undef (Num 0) ≡ Gives Undef
  pub add_nuw_undef_1 : binary_outcome op.Add nuw 8 Undef (Num 1) ≡ Gives Poison
  pub add_nsw_1_undef : binary_outcome op.Add nsw 8 (Num 1) Undef ≡ Gives Poison
  pub udiv_exact_undef_1 : binary_outcome op.UDiv exactly 8 Undef (Num 1) ≡ Gives Poison

-- a shift by the width or more
pub record ShiftsEndAtTheWidth : Type 0 where
  pub shl_1_8 : binary_outcome op.Shl no_flags 8 (Num 1) (Num 8) ≡ Gives Undef
  pub lshr_1_8 : binary_outcome op.LShr no_flags 8 (Num 1) (Num 8) ≡ Gives Undef
  pub ashr_255_255 : binary_outcome op.AShr no_flags 8 (Num 255) (Num 255) ≡ Gives Undef
  pub shl_1_1_of_i1 : binary_outcome op.Shl no_flags 1 (Num 1) (Num 1) ≡ Gives Undef
  pub shl_nuw_0_8 : binary_outcome op.Shl nuw 8 (Num 0) (Num 8) ≡ Gives Poison
  pub shl_nsw_0_8 : binary_outcome op.Shl nsw 8 (Num 0) (Num 8) ≡ Gives Poison
  pub lshr_exact_0_8 : binary_outcome op.LShr exactly 8 (Num 0) (Num 8) ≡ Gives Poison
  pub ashr_exact_0_9 : binary_outcome op.AShr exactly 8 (Num 0) (Num 9) ≡ Gives Poison
  pub add_1_8 : binary_outcome op.Add no_flags 8 (Num 1) (Num 8) ≡ gives 9

-- `nuw` and `nsw` by the exact unsigned and signed result, `exact` by what is left
pub record FlagsBreak : Type 0 where
  pub add_nuw_255_1 : binary_outcome op.Add nuw 8 (Num 255) (Num 1) ≡ Gives Poison
  pub add_nuw_255_0 : binary_outcome op.Add nuw 8 (Num 255) (Num 0) ≡ gives 255
  pub sub_nuw_0_1 : binary_outcome op.Sub nuw 8 (Num 0) (Num 1) ≡ Gives Poison
  pub sub_nuw_5_5 : binary_outcome op.Sub nuw 8 (Num 5) (Num 5) ≡ gives 0
  pub mul_nuw_16_16 : binary_outcome op.Mul nuw 8 (Num 16) (Num 16) ≡ Gives Poison
  pub mul_nuw_15_17 : binary_outcome op.Mul nuw 8 (Num 15) (Num 17) ≡ gives 255
  pub shl_nuw_128_1 : binary_outcome op.Shl nuw 8 (Num 128) (Num 1) ≡ Gives Poison
  pub shl_nuw_127_1 : binary_outcome op.Shl nuw 8 (Num 127) (Num 1) ≡ gives 254
  pub add_nsw_127_1 : binary_outcome op.Add nsw 8 (Num 127) (Num 1) ≡ Gives Poison
  pub add_nsw_255_1 : binary_outcome op.Add nsw 8 (Num 255) (Num 1) ≡ gives 0
  pub add_nsw_128_255 : binary_outcome op.Add nsw 8 (Num 128) (Num 255) ≡ Gives Poison
  pub sub_nsw_128_1 : binary_outcome op.Sub nsw 8 (Num 128) (Num 1) ≡ Gives Poison
  pub sub_nsw_0_128 : binary_outcome op.Sub nsw 8 (Num 0) (Num 128) ≡ Gives Poison
  pub sub_nsw_0_1 : binary_outcome op.Sub nsw 8 (Num 0) (Num 1) ≡ gives 255
  pub mul_nsw_64_2 : binary_outcome op.Mul nsw 8 (Num 64) (Num 2) ≡ Gives Poison
  pub mul_nsw_192_2 : binary_outcome op.Mul nsw 8 (Num 192) (Num 2) ≡ gives 128
  pub mul_nsw_128_255 : binary_outcome op.Mul nsw 8 (Num 128) (Num 255) ≡ Gives Poison
  pub shl_nsw_64_1 : binary_outcome op.Shl nsw 8 (Num 64) (Num 1) ≡ Gives Poison
  pub shl_nsw_192_1 : binary_outcome op.Shl nsw 8 (Num 192) (Num 1) ≡ gives 128
  pub shl_nsw_64_2 : binary_outcome op.Shl nsw 8 (Num 64) (Num 2) ≡ Gives Poison
  pub shl_nsw_128_1 : binary_outcome op.Shl nsw 8 (Num 128) (Num 1) ≡ Gives Poison
  pub shl_nsw_1_6 : binary_outcome op.Shl nsw 8 (Num 1) (Num 6) ≡ gives 64
  pub udiv_exact_7_2 : binary_outcome op.UDiv exactly 8 (Num 7) (Num 2) ≡ Gives Poison
  pub udiv_exact_6_2 : binary_outcome op.UDiv exactly 8 (Num 6) (Num 2) ≡ gives 3
  pub sdiv_exact_249_2 : binary_outcome op.SDiv exactly 8 (Num 249) (Num 2) ≡ Gives Poison
  pub sdiv_exact_250_2 : binary_outcome op.SDiv exactly 8 (Num 250) (Num 2) ≡ gives 253
  pub lshr_exact_3_1 : binary_outcome op.LShr exactly 8 (Num 3) (Num 1) ≡ Gives Poison
  pub lshr_exact_2_1 : binary_outcome op.LShr exactly 8 (Num 2) (Num 1) ≡ gives 1
  pub ashr_exact_255_1 : binary_outcome op.AShr exactly 8 (Num 255) (Num 1) ≡ Gives Poison
  pub ashr_exact_254_1 : binary_outcome op.AShr exactly 8 (Num 254) (Num 1) ≡ gives 255

-- comparisons of i8 where no other type is named: 128 is -128
pub record ComparisonsAreThese : Type 0 where
  pub eq_5_5 : compared pred.Eq (Int 8) (Num 5) (Num 5) ≡ gives 1
  pub eq_5_6 : compared pred.Eq (Int 8) (Num 5) (Num 6) ≡ gives 0
  pub ne_5_6 : compared pred.Ne (Int 8) (Num 5) (Num 6) ≡ gives 1
  pub ne_5_5 : compared pred.Ne (Int 8) (Num 5) (Num 5) ≡ gives 0
  pub ugt_128_0 : compared pred.Ugt (Int 8) (Num 128) (Num 0) ≡ gives 1
  pub ugt_0_0 : compared pred.Ugt (Int 8) (Num 0) (Num 0) ≡ gives 0
  pub uge_0_0 : compared pred.Uge (Int 8) (Num 0) (Num 0) ≡ gives 1
  pub uge_0_1 : compared pred.Uge (Int 8) (Num 0) (Num 1) ≡ gives 0
  pub ult_0_128 : compared pred.Ult (Int 8) (Num 0) (Num 128) ≡ gives 1
  pub ult_128_0 : compared pred.Ult (Int 8) (Num 128) (Num 0) ≡ gives 0
  pub ule_0_0 : compared pred.Ule (Int 8) (Num 0) (Num 0) ≡ gives 1
  pub ule_1_0 : compared pred.Ule (Int 8) (Num 1) (Num 0) ≡ gives 0
  pub sgt_0_128 : compared pred.Sgt (Int 8) (Num 0) (Num 128) ≡ gives 1
  pub sgt_128_0 : compared pred.Sgt (Int 8) (Num 128) (Num 0) ≡ gives 0
  pub sge_0_0 : compared pred.Sge (Int 8) (Num 0) (Num 0) ≡ gives 1
  pub sge_128_0 : compared pred.Sge (Int 8) (Num 128) (Num 0) ≡ gives 0
  pub slt_128_0 : compared pred.Slt (Int 8) (Num 128) (Num 0) ≡ gives 1
  pub slt_0_128 : compared pred.Slt (Int 8) (Num 0) (Num 128) ≡ gives 0
  pub sle_0_0 : compared pred.Sle (Int 8) (Num 0) (Num 0) ≡ gives 1
  pub sle_0_128 : compared pred.Sle (Int 8) (Num 0) (Num 128) ≡ gives 0
  pub slt_1_0_of_i1 : compared pred.Slt (Int 1) (Num 1) (Num 0) ≡ gives 1
  pub ult_1_0_of_i1 : compared pred.Ult (Int 1) (Num 1) (Num 0) ≡ gives 0
  pub eq_poison_1 : compared pred.Eq (Int 8) Poison (Num 1) ≡ Gives Poison
  pub eq_1_poison : compared pred.Eq (Int 8) (Num 1) Poison ≡ Gives Poison
  pub eq_undef_poison : compared pred.Eq (Int 8) Undef Poison ≡ Gives Poison
  pub eq_undef_undef : compared pred.Eq (Int 8) Undef Undef ≡ Gives Undef
  pub ult_undef_0 : compared pred.Ult (Int 8) Undef (Num 0) ≡ Gives Undef
  pub ult_0_undef : compared pred.Ult (Int 8) (Num 0) Undef ≡ Gives Undef

-- conversions, each from a width to a width
pub record ConversionsAreThese : Type 0 where
  pub zext_1_to_8_1 : cast_outcome cast.ZExt (Int 1) (Int 8) (Num 1) ≡ gives 1
  pub zext_8_to_16_200 : cast_outcome cast.ZExt (Int 8) (Int 16) (Num 200) ≡ gives 200
  pub sext_1_to_8_1 : cast_outcome cast.SExt (Int 1) (Int 8) (Num 1) ≡ gives 255
  pub sext_8_to_16_128 : cast_outcome cast.SExt (Int 8) (Int 16) (Num 128) ≡ gives 65408
  pub sext_8_to_16_127 : cast_outcome cast.SExt (Int 8) (Int 16) (Num 127) ≡ gives 127
  pub sext_8_to_64_255 : cast_outcome cast.SExt (Int 8) (Int 64) (Num 255) ≡ gives 18446744073709551615
  pub trunc_16_to_8_258 : cast_outcome cast.Trunc (Int 16) (Int 8) (Num 258) ≡ gives 2
  pub trunc_8_to_1_2 : cast_outcome cast.Trunc (Int 8) (Int 1) (Num 2) ≡ gives 0
  pub trunc_8_to_1_3 : cast_outcome cast.Trunc (Int 8) (Int 1) (Num 3) ≡ gives 1
  pub bitcast_8_to_8_200 : cast_outcome cast.BitCast (Int 8) (Int 8) (Num 200) ≡ gives 200
  pub zext_8_to_16_undef : cast_outcome cast.ZExt (Int 8) (Int 16) Undef ≡ Gives Undef
  pub sext_8_to_16_poison : cast_outcome cast.SExt (Int 8) (Int 16) Poison ≡ Gives Poison
  pub trunc_16_to_8_undef : cast_outcome cast.Trunc (Int 16) (Int 8) Undef ≡ Gives Undef
  pub bitcast_8_to_8_poison : cast_outcome cast.BitCast (Int 8) (Int 8) Poison ≡ Gives Poison

-- the condition and two arms
pub record SelectionsAreThese : Type 0 where
  pub select_1_7_9 : select_outcome (Num 1) (Num 7) (Num 9) ≡ gives 7
  pub select_0_7_9 : select_outcome (Num 0) (Num 7) (Num 9) ≡ gives 9
  pub select_1_7_poison : select_outcome (Num 1) (Num 7) Poison ≡ gives 7
  pub select_0_poison_9 : select_outcome (Num 0) Poison (Num 9) ≡ gives 9
  pub select_1_poison_9 : select_outcome (Num 1) Poison (Num 9) ≡ Gives Poison
  pub select_0_undef_undef : select_outcome (Num 0) Undef Undef ≡ Gives Undef
  pub select_1_undef_poison : select_outcome (Num 1) Undef Poison ≡ Gives Undef
  pub select_poison_7_7 : select_outcome Poison (Num 7) (Num 7) ≡ Gives Poison
  pub select_undef_7_7 : select_outcome Undef (Num 7) (Num 7) ≡ Gives Undef
  pub select_undef_poison_7 : select_outcome Undef Poison (Num 7) ≡ Gives Poison
  pub select_undef_7_poison : select_outcome Undef (Num 7) Poison ≡ Gives Poison
  pub select_undef_undef_7 : select_outcome Undef Undef (Num 7) ≡ Gives Undef

-- Undefined behaviour is less defined than each outcome, and no value than it; of values poison is the least defined, then undef, and a
-- number is less defined than itself alone.
pub record OutcomesAreOrdered : Type 0 where
  pub trap : (o : Outcome) → IsOutcomeLessDefined Trap o
  pub no_trap : (v : Value) → IsOutcomeLessDefined (Gives v) Trap → ⊥
  pub poison : (v : Value) → IsOutcomeLessDefined (Gives Poison) (Gives v)
  pub undef : (n : ℕ) → IsOutcomeLessDefined (Gives Undef) (gives n)
  pub undef_no_poison : IsOutcomeLessDefined (Gives Undef) (Gives Poison) → ⊥
  pub number : (n : ℕ) → IsOutcomeLessDefined (gives n) (gives n)
  pub number_no_other : IsOutcomeLessDefined (gives 7) (gives 8) → ⊥
  pub number_no_undef : IsOutcomeLessDefined (gives 7) (Gives Undef) → ⊥
  pub number_no_poison : IsOutcomeLessDefined (gives 7) (Gives Poison) → ⊥

-- a number is one; undef and poison are none
pub record NumbersAreThese : Type 0 where
  pub number : (n : ℕ) → IsNumber (Num n)
  pub undef : IsNumber Undef → ⊥
  pub poison : IsNumber Poison → ⊥

-- integers of 1 to 64 bits
pub record WidthsAreThese : Type 0 where
  pub least : HasWidth (Int 1)
  pub most : HasWidth (Int 64)
  pub none : HasWidth (Int 0) → ⊥
  pub more : HasWidth (Int 65) → ⊥
