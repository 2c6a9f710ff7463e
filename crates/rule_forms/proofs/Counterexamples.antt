-- Numbers of which the wrong forms fail.
use Rattle.std.proofs.Common.{ℕ, true, false, refl, lit<}
use Rattle.ir_core.specs.declared.values.Value.{Value}
use Rattle.ir_core.specs.declared.values.Value.TheVariants.{Num, Undef}
use Rattle.ir_core.specs.declared.operands.Flags.{Flags}
use Rattle.rule_forms.specs.Conditions.{no_flags}
use Rattle.rule_forms.specs.Meaning.{Worths}
use Rattle.rule_forms.specs.Wrong.{WrongFormsAreUnlawful}

abbrev nuw : Flags
nuw = record { nuw = true; nsw = false; exact = false }

abbrev nsw : Flags
nsw = record { nuw = false; nsw = true; exact = false }

-- letters at one width; F and H are the same flags
abbrev at_width : ℕ → Flags → Value → Value → Value → ℕ → ℕ → ℕ → Worths
at_width w f x y z c d e = record {
  x = λ k. x;
  y = λ k. y;
  z = λ k. z;
  c = c;
  d = d;
  e = e;
  f = f;
  g = no_flags;
  h = f;
  s = w;
  m = w;
  t = w;
}

pub wrong_forms_fail : WrongFormsAreUnlawful
wrong_forms_fail = record {
  product_keeps_nsw_at_the_sign_bit = λ law. cc (law (at_width 2 nsw (Num 1) (Num 0) (Num 0) 2 0 1) tt
      (record { width = refl; kind = lit< tt }, record { width = refl; kind = lit< tt }, refl)
      (record { width = refl; kind = lit< tt }, record { width = refl; kind = lit< tt }, refl) refl);
  difference_keeps_flags = λ law. cc (law (at_width 1 nuw (Num 1) (Num 0) (Num 0) 1 0 1) tt
      (record { width = refl; kind = lit< tt }, record { width = refl; kind = lit< tt }, refl)
      (record { width = refl; kind = lit< tt }, record { width = refl; kind = lit< tt }, refl) refl);
  sum_keeps_flags = λ law. cc (law (at_width 2 nsw (Num 2) (Num 0) (Num 3) 1 1 2) ((record { width = refl; kind = lit< tt }, record { width = refl; kind = lit< tt }, refl), record { width = refl; kind = lit< tt }, refl)
      (record { width = refl; kind = lit< tt }, record { width = refl; kind = lit< tt }, refl)
      (record { width = refl; kind = lit< tt }, record { width = refl; kind = lit< tt }, refl) refl);
  double_of_one_bit = λ law. cc (law (at_width 1 no_flags (Num 0) (Num 0) (Num 0) 0 0 0) tt
      (record { width = refl; kind = lit< tt }, record { width = refl; kind = lit< tt }, refl)
      (record { width = refl; kind = lit< tt }, record { width = refl; kind = lit< tt }, refl) refl);
  difference_turned_round = λ law. cc (law (at_width 2 no_flags (Num 1) (Num 0) (Num 0) 0 0 0) tt
      (record { width = refl; kind = lit< tt }, record { width = refl; kind = lit< tt }, refl)
      (record { width = refl; kind = lit< tt }, record { width = refl; kind = lit< tt }, refl) refl);
  zext_of_sext = λ law. cc (law (record (at_width 1 no_flags (Num 1) (Num 0) (Num 3) 0 0 0) { m = 2; t = 3 }) ((record { width = refl; kind = lit< tt }, refl, refl), record { width = refl; kind = lit< tt }, refl)
      (record { width = refl; kind = lit< tt }, refl, refl)
      (record { width = refl; kind = lit< tt }, refl, refl) refl);
  signed_quotient_as_a_shift = λ law. cc (law (at_width 3 no_flags (Num 7) (Num 0) (Num 0) 2 0 1) tt
      (record { width = refl; kind = lit< tt }, record { width = refl; kind = lit< tt }, refl)
      (record { width = refl; kind = lit< tt }, record { width = refl; kind = lit< tt }, refl) refl);
  premise_turned_round = λ law. cc (law (at_width 2 no_flags (Num 1) (Num 0) Undef 0 0 0) ((record { width = refl; kind = lit< tt }, record { width = refl; kind = lit< tt }, refl), record { width = refl; kind = tt }, tt)
      record { width = refl; kind = lit< tt }
      (record { width = refl; kind = lit< tt }, record { width = refl; kind = tt }, refl) refl);
}
