-- Powers of two at the widths of integer types.
use Rattle.std.proofs.Common.{ℕ, ◌-◌, ◌<◌, ◌≤◌, ◌^◌, ◌%◌, arith, lit<}
use Rattle.std.proofs.lemmas.Nat.{pow_pos, mod_below}
use Rattle.std.proofs.Math.Nat.{pow-le-pow_right}

power_fits : (width : ℕ) → width ≤ 64 → 2 ^ width ≤ 2 ^ 64
power_fits width h = pow-le-pow_right (lit< tt) h

pub half_below : (width : ℕ) → 2 ^ (width - 1) ≤ 2 ^ width
half_below width = let less : width - 1 ≤ width = omega arith in pow-le-pow_right (lit< tt) less

pub remainder_fits : (n width : ℕ) → width ≤ 64 → n % 2 ^ width < 2 ^ 64
remainder_fits n width h = omega (arith, power_fits width h, mod_below n (2 ^ width) (pow_pos width))

pub number_fits : (n width : ℕ) → width ≤ 64 → n < 2 ^ width → n < 2 ^ 64
number_fits n width h below = omega (arith, power_fits width h, below)
