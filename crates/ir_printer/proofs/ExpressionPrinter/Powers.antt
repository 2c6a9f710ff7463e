-- Powers of two and the halves of the numbers below them.
use Rattle.std.proofs.Common.{◌≡◌, refl, ℕ, zero, suc, ◌-◌, ◌*◌, ◌%◌, ◌^◌, ◌<◌, ◌≤◌, false, arith, sub-one, one-mul}
use Rattle.std.proofs.Math.Nat.{pow-succ', mod-eq_of_lt}
use Rattle.std.proofs.lemmas.Nat.{pow_below}
use Rattle.std.proofs.Math.Pow.{pow_mono}
use Rattle.std.proofs.lemmas.Bool.Decides.{nat_tests}
use Rattle.ir_printer.specs.ExpressionPrinter.Printed.{is_negative}

pub power_is_two_halves : (w : ℕ) → 0 < w → 2 ^ w ≡ 2 * 2 ^ (w - 1)
power_is_two_halves zero h = absurd (omega arith)
power_is_two_halves (suc w) h = rw (sub-one, pow-succ') refl

pub power_fits : (w : ℕ) → w ≤ 64 → 1 * 2 ^ (w - 1) % (2 ^ 64) ≡ 2 ^ (w - 1)
power_fits w h = let small : 2 ^ (w - 1) < 2 ^ 64 = pow_below (w - 1) 64 (omega arith) in rw (one-mul, mod-eq_of_lt small) refl

pub wide_is_not_negative : (w n : ℕ) → 64 < w → n < 2 ^ 64 → is_negative w n ≡ false
wide_is_not_negative w n h b = let wide : 2 ^ 64 ≤ 2 ^ (w - 1) = pow_mono {i = 64} {j = w - 1} (omega arith) in grind (arith, nat_tests)
