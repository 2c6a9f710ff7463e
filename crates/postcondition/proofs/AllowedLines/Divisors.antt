-- The greatest number of a width.
use Rattle.std.proofs.Common.{◌≡◌, ℕ, ◌-◌, ◌^◌, ◌<◌, ◌≤◌, false, nat_eq, arith, lit<}
use Rattle.std.proofs.Math.Nat.{pow-le-pow_right}
use Rattle.std.proofs.lemmas.Bool.Decides.{nat_tests}

-- a number of 64 bits is none of the greatest of more bits
pub wide_is_greater : (number width : ℕ) → number < 2 ^ 64 → 64 < width → nat_eq number (2 ^ width - 1) ≡ false
wide_is_greater number width n h = let more : 2 ^ 65 ≤ 2 ^ width = pow-le-pow_right (lit< tt) h in grind (arith, nat_tests)

pub power_fits : (width : ℕ) → width ≤ 64 → 2 ^ width ≤ 2 ^ 64
power_fits width h = pow-le-pow_right (lit< tt) h
