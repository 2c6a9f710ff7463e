-- Operators that leave their left operand as it is where the right one is 0.
use Rattle.std.proofs.Common.{◌≡◌, ℕ, ◌+◌, ◌-◌, ◌*◌, ◌/◌, ◌%◌, ◌<◌, ◌^◌, ◌∙◌, ap, arith, ⊎_elim}
use Rattle.std.specs.Prelude.{pos, ◌-ℤ◌, nat_lt}
use Rattle.std.specs.Int.Bits.{or_zero_r, xor_zero_r}
use Rattle.std.proofs.lemmas.Int.{ints}
use Rattle.std.proofs.lemmas.Bool.{cases_Bool, ltb-true, ltb-false}
use Rattle.std.proofs.Math.Nat.{mod-eq_of_lt}
use Rattle.ir_core.specs.declared.operands.BinOp.TheVariants as op
use Rattle.ir_values.specs.Numbers.{modulo}
use Rattle.ir_values.specs.Results.{result}
use Rattle.ir_values.proofs.Signs.{shifted_low, shifted_high}

module _ (w m : ℕ) (below : m < 2 ^ w) where
  number_kept : (n : ℕ) → n ≡ m → modulo w (pos n) ≡ m
  number_kept n same = ap (λ k. k % 2 ^ w) same ∙ mod-eq_of_lt below

  pub add_zero : result op.Add w m 0 ≡ m
  add_zero = number_kept (m + 0) (omega arith)

  pub sub_zero : result op.Sub w m 0 ≡ m
  sub_zero = let e : pos m -ℤ pos 0 ≡ pos m = omega (arith, ints) in ap (modulo w) e ∙ mod-eq_of_lt below

  pub or_zero : result op.Or w m 0 ≡ m
  or_zero = rw (or_zero_r m) (mod-eq_of_lt below)

  pub xor_zero : result op.Xor w m 0 ≡ m
  xor_zero = rw (xor_zero_r m) (mod-eq_of_lt below)

  pub shl_zero : result op.Shl w m 0 ≡ m
  shl_zero = number_kept (m * 2 ^ 0) (omega arith)

  pub lshr_zero : result op.LShr w m 0 ≡ m
  lshr_zero = number_kept (m / 2 ^ 0) (omega arith)

  by_nothing : (n : ℕ) → n < 2 ^ w → 2 ^ w - 1 - (2 ^ w - 1 - n) / 2 ^ 0 ≡ n
  by_nothing n h = omega (arith, h)

  pub ashr_zero : result op.AShr w m 0 ≡ m
  ashr_zero = ⊎_elim
      (λ e. let low : m < 2 ^ (w - 1) = ltb-true m (2 ^ (w - 1)) e in shifted_low w m 0 low below ∙ omega arith)
      (λ e. shifted_high w m 0 (ltb-false m (2 ^ (w - 1)) e) below ∙ by_nothing m below)
      (cases_Bool (nat_lt m (2 ^ (w - 1))))
