-- Numbers modulo 2 to a width.
use Rattle.std.proofs.Common.{◌≡◌, ℕ, ◌<◌, ◌≤◌, ◌*◌, ◌%◌, ◌^◌, arith, lit<}
use Rattle.std.proofs.lemmas.Nat.{one_shl}
use Rattle.std.proofs.Math.Nat.{mod-eq_of_lt, pow-le-pow_right}

pub one_shifted : (width : ℕ) → width < 64 → (1 * 2 ^ width) % 2 ^ 64 ≡ 2 ^ width
one_shifted width h = one_shl width 64 h

pub stays : (n width : ℕ) → n < 2 ^ 64 → 64 ≤ width → n % 2 ^ width ≡ n
stays n width h wide =
    let more : 2 ^ 64 ≤ 2 ^ width = pow-le-pow_right (lit< tt) wide in
    let less : n < 2 ^ width = omega arith in
    mod-eq_of_lt less
