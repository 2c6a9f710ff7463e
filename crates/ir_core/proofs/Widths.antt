-- Powers of two at the widths of integer types.
use Rattle.std.proofs.Common.{◌≡◌, ℕ, ◌<◌, ◌≤◌, ◌^◌, ◌*◌, ◌%◌, true, arith, lit<}
use Rattle.std.specs.Prelude.{nat_lt}
use Rattle.std.proofs.lemmas.Nat.{one_shl}
use Rattle.std.proofs.Math.Nat.{pow-le-pow_right}
use Rattle.std.proofs.lemmas.Bool.{lt-ltb}

pub fits_wide : (n width : ℕ) → n < 2 ^ 64 → 64 ≤ width → nat_lt n (2 ^ width) ≡ true
fits_wide n width h wide = let more : 2 ^ 64 ≤ 2 ^ width = pow-le-pow_right (lit< tt) wide in lt-ltb n (2 ^ width) (omega arith)

pub one_shifted : (width : ℕ) → width < 64 → (1 * 2 ^ width) % 2 ^ 64 ≡ 2 ^ width
one_shifted width h = one_shl width 64 h
