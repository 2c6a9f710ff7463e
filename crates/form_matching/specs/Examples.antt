-- What forms take and what they don't, worked out by hand. Numbers are of i8 where no type is named.
use Rattle.std.specs.Prelude.{◌≡◌, Bool, true, false, codes, List, [], ◌∷◌}
use Rattle.ir_types.specs.declared.names.Name.TheVariants.{Text}
use Rattle.ir_core.specs.declared.operands.Atom.{Atom}
use Rattle.ir_core.specs.declared.operands.Atom.TheVariants.{Register}
use Rattle.ir_core.specs.declared.operands.BinOp.TheVariants as op
use Rattle.ir_core.specs.declared.operands.CastOp.TheVariants as cast
use Rattle.ir_core.specs.declared.operands.Flags.{Flags}
use Rattle.ir_core.specs.declared.operands.Pred.TheVariants as pred
use Rattle.ir_core.specs.declared.expressions.Reg.{Reg}
use Rattle.ir_core.specs.declared.expressions.Reg.TheVariants.{Now}
use Rattle.ir_core.specs.Expressions.{Expr0}
use Rattle.erhl_assert.specs.declared.facts.Fact.{Fact}
use Rattle.erhl_assert.specs.declared.facts.Fact.TheVariants.{LessDef}
use Rattle.rule_base.specs.Examples.{binary, convert, exactly, less_than, no_flags, number, nuw, nuw_nsw, old_x, plain, undef, x}
use Rattle.rule_forms.specs.declared.forms.Condition.TheVariants as condition
use Rattle.rule_forms.specs.declared.forms.Form.{Form}
use Rattle.rule_forms.specs.declared.forms.Place.TheVariants as place
use Rattle.rule_forms.specs.Table.{add_const, add_self, bit_bit, cast_cast, comm, icmp_edge, mul_pow, ones_right, self_zero, shift_shift, sub_to_add, trunc_ext, udiv_pow, urem_pow, zero_right}
use Rattle.form_matching.specs.Instances.{fits}

abbrev pub z : Atom Reg
z = Register (Now (Text (codes "z")))

abbrev pub nsw : Flags
nsw = record { nuw = false; nsw = true; exact = false }

-- whether the form takes the premises to `e >= f`
abbrev pub takes : Form → List Fact → Expr0 → Expr0 → Bool
takes form from e f = fits form from (LessDef e f)

pub record FormsTakeThese : Type 0 where
  -- ---- products by a power of two
  pub product_by_8 : takes mul_pow [] (binary op.Mul nuw 8 x (number 8)) (binary op.Shl nuw 8 x (number 3)) ≡ true
  pub product_by_1 : takes mul_pow [] (binary op.Mul no_flags 8 x (number 1)) (binary op.Shl no_flags 8 x (number 0)) ≡ true
  pub flags_may_go : takes mul_pow [] (binary op.Mul nuw_nsw 8 x (number 8)) (binary op.Shl nsw 8 x (number 3)) ≡ true
  pub never_more_flags : takes mul_pow [] (binary op.Mul no_flags 8 x (number 8)) (binary op.Shl nuw 8 x (number 3)) ≡ false
  pub nsw_below_the_sign_bit : takes mul_pow [] (binary op.Mul nsw 8 x (number 64)) (binary op.Shl nsw 8 x (number 6)) ≡ true
  pub never_nsw_at_the_sign_bit : takes mul_pow [] (binary op.Mul nsw 8 x (number 128)) (binary op.Shl nsw 8 x (number 7)) ≡ false
  pub sign_bit : takes mul_pow [] (binary op.Mul nsw 8 x (number 128)) (binary op.Shl no_flags 8 x (number 7)) ≡ true
  pub never_nsw_of_one_bit : takes mul_pow [] (binary op.Mul nsw 1 x (number 1)) (binary op.Shl nsw 1 x (number 0)) ≡ false
  pub one_bit : takes mul_pow [] (binary op.Mul nsw 1 x (number 1)) (binary op.Shl no_flags 1 x (number 0)) ≡ true
  pub no_power : takes mul_pow [] (binary op.Mul no_flags 8 x (number 6)) (binary op.Shl no_flags 8 x (number 1)) ≡ false
  pub product_by_0 : takes mul_pow [] (binary op.Mul no_flags 8 x (number 0)) (binary op.Shl no_flags 8 x (number 0)) ≡ false
  pub another_exponent : takes mul_pow [] (binary op.Mul no_flags 8 x (number 8)) (binary op.Shl no_flags 8 x (number 4)) ≡ false
  pub another_register : takes mul_pow [] (binary op.Mul no_flags 8 x (number 8)) (binary op.Shl no_flags 8 old_x (number 3)) ≡ false
  pub turned_round : takes mul_pow [] (binary op.Mul no_flags 8 (number 8) x) (binary op.Shl no_flags 8 x (number 3)) ≡ false
  pub another_operator : takes mul_pow [] (binary op.Mul no_flags 8 x (number 8)) (binary op.LShr no_flags 8 x (number 3)) ≡ false
  pub never_backwards : takes mul_pow [] (binary op.Shl no_flags 8 x (number 3)) (binary op.Mul no_flags 8 x (number 8)) ≡ false
  -- ---- quotients and remainders
  pub quotient_by_8 : takes udiv_pow [] (binary op.UDiv exactly 8 x (number 8)) (binary op.LShr exactly 8 x (number 3)) ≡ true
  pub quotient_by_no_power : takes udiv_pow [] (binary op.UDiv no_flags 8 x (number 6)) (binary op.LShr no_flags 8 x (number 1)) ≡ false
  pub remainder_by_8 : takes urem_pow [] (binary op.URem no_flags 8 x (number 8)) (binary op.And no_flags 8 x (number 7)) ≡ true
  pub remainder_by_1 : takes urem_pow [] (binary op.URem no_flags 8 x (number 1)) (binary op.And no_flags 8 x (number 0)) ≡ true
  pub remainder_by_no_power : takes urem_pow [] (binary op.URem no_flags 8 x (number 6)) (binary op.And no_flags 8 x (number 5)) ≡ false
  -- ---- numbers that are made of others
  pub negated : takes sub_to_add [] (binary op.Sub nuw 8 undef (number 3)) (binary op.Add no_flags 8 undef (number 253)) ≡ true
  pub least_negated : takes sub_to_add [] (binary op.Sub no_flags 8 x (number 128)) (binary op.Add no_flags 8 x (number 128)) ≡ true
  pub never_zero_negated : takes sub_to_add [] (binary op.Sub no_flags 8 x (number 0)) (binary op.Add no_flags 8 x (number 0)) ≡ false
  pub undef_is_no_number : takes sub_to_add [] (binary op.Sub no_flags 8 x undef) (binary op.Add no_flags 8 x (number 253)) ≡ false
  pub sum : takes add_const (LessDef (plain 8 z) (binary op.Add nuw 8 x (number 200)) ∷ []) (binary op.Add nsw 8 z (number 100)) (binary op.Add no_flags 8 x (number 44)) ≡ true
  pub another_sum : takes add_const (LessDef (plain 8 z) (binary op.Add nuw 8 x (number 200)) ∷ []) (binary op.Add nsw 8 z (number 100)) (binary op.Add no_flags 8 x (number 45)) ≡ false
  pub sum_of_another_line : takes add_const (LessDef (plain 8 old_x) (binary op.Add nuw 8 x (number 200)) ∷ []) (binary op.Add nsw 8 z (number 100)) (binary op.Add no_flags 8 x (number 44)) ≡ false
  pub places : takes (shift_shift op.Shl) (LessDef (plain 8 z) (binary op.Shl no_flags 8 x (number 3)) ∷ []) (binary op.Shl no_flags 8 z (number 4)) (binary op.Shl no_flags 8 x (number 7)) ≡ true
  pub places_past_the_width : takes (shift_shift op.Shl) (LessDef (plain 8 z) (binary op.Shl no_flags 8 x (number 4)) ∷ []) (binary op.Shl no_flags 8 z (number 4)) (binary op.Shl no_flags 8 x (number 8)) ≡ false
  pub never_reduced : takes (shift_shift op.Shl) (LessDef (plain 8 z) (binary op.Shl no_flags 8 x (number 4)) ∷ []) (binary op.Shl no_flags 8 z (number 4)) (binary op.Shl no_flags 8 x (number 0)) ≡ false
  pub bits : takes (bit_bit op.And condition.And) (LessDef (plain 8 z) (binary op.And no_flags 8 x (number 12)) ∷ []) (binary op.And no_flags 8 z (number 10)) (binary op.And no_flags 8 x (number 8)) ≡ true
  pub other_bits : takes (bit_bit op.And condition.And) (LessDef (plain 8 z) (binary op.And no_flags 8 x (number 12)) ∷ []) (binary op.And no_flags 8 z (number 10)) (binary op.And no_flags 8 x (number 14)) ≡ false
  -- ---- numbers that the type decides
  pub all_ones : takes ones_right [] (binary op.And no_flags 8 x (number 255)) (plain 8 x) ≡ true
  pub all_ones_of_64_bits : takes ones_right [] (binary op.And no_flags 64 x (number 18446744073709551615)) (plain 64 x) ≡ true
  pub all_ones_of_one_bit : takes ones_right [] (binary op.And no_flags 1 x (number 1)) (plain 1 x) ≡ true
  pub not_all_ones : takes ones_right [] (binary op.And no_flags 8 x (number 127)) (plain 8 x) ≡ false
  pub least : takes (icmp_edge pred.Ult place.Zero place.Zero) [] (less_than 8 x (number 0)) (plain 1 (number 0)) ≡ true
  pub never_the_next : takes (icmp_edge pred.Ult place.Zero place.Zero) [] (less_than 8 x (number 1)) (plain 1 (number 0)) ≡ false
  pub doubled : takes add_self [] (binary op.Add nuw 8 x x) (binary op.Shl nuw 8 x (number 1)) ≡ true
  pub never_of_one_bit : takes add_self [] (binary op.Add no_flags 1 x x) (binary op.Shl no_flags 1 x (number 1)) ≡ false
  -- ---- letters and premises
  pub one_letter : takes (self_zero op.Sub) [] (binary op.Sub no_flags 8 x x) (plain 8 (number 0)) ≡ true
  pub two_undefs : takes (self_zero op.Sub) [] (binary op.Sub no_flags 8 undef undef) (plain 8 (number 0)) ≡ true
  pub two_registers : takes (self_zero op.Sub) [] (binary op.Sub no_flags 8 x old_x) (plain 8 (number 0)) ≡ false
  pub another_width : takes (self_zero op.Sub) [] (binary op.Sub no_flags 8 x x) (plain 16 (number 0)) ≡ false
  pub operands_exchanged : takes (comm op.Add) [] (binary op.Add nuw 8 x z) (binary op.Add nuw 8 z x) ≡ true
  pub operands_not_exchanged : takes (comm op.Add) [] (binary op.Add nuw 8 x z) (binary op.Add nuw 8 x z) ≡ false
  pub flags_of_one_letter : takes (comm op.Add) [] (binary op.Add nuw 8 x z) (binary op.Add no_flags 8 z x) ≡ false
  pub back_to_its_type : takes (trunc_ext cast.SExt) (LessDef (plain 16 z) (convert cast.SExt 8 x 16) ∷ []) (convert cast.Trunc 16 z 8) (plain 8 x) ≡ true
  pub never_to_another_type : takes (trunc_ext cast.SExt) (LessDef (plain 16 z) (convert cast.SExt 8 x 16) ∷ []) (convert cast.Trunc 16 z 4) (plain 4 x) ≡ false
  pub a_premise_is_wanted : takes (trunc_ext cast.SExt) [] (convert cast.Trunc 16 z 8) (plain 8 x) ≡ false
  pub another_premise : takes (trunc_ext cast.SExt) (LessDef (plain 16 z) (convert cast.ZExt 8 x 16) ∷ []) (convert cast.Trunc 16 z 8) (plain 8 x) ≡ false
  pub a_premise_too_many : takes (trunc_ext cast.SExt) (LessDef (plain 16 z) (convert cast.SExt 8 x 16) ∷ LessDef (plain 16 z) (convert cast.SExt 8 x 16) ∷ []) (convert cast.Trunc 16 z 8) (plain 8 x) ≡ false
  pub a_premise_where_none_is : takes (zero_right op.Add) (LessDef (plain 8 x) (plain 8 x) ∷ []) (binary op.Add no_flags 8 x (number 0)) (plain 8 x) ≡ false
  pub sext_of_zext : takes (cast_cast cast.ZExt cast.SExt cast.ZExt) (LessDef (plain 16 z) (convert cast.ZExt 8 x 16) ∷ []) (convert cast.SExt 16 z 32) (convert cast.ZExt 8 x 32) ≡ true
  pub zext_of_sext : takes (cast_cast cast.ZExt cast.SExt cast.ZExt) (LessDef (plain 16 z) (convert cast.SExt 8 x 16) ∷ []) (convert cast.ZExt 16 z 32) (convert cast.SExt 8 x 32) ≡ false
