-- The least power of two from a number on.
use Rattle.std.proofs.Common.{◌≡◌, ◌∙◌, ◌<◌, ◌≤◌, ◌+◌, ◌/◌, ◌^◌, ℕ, zero, suc, cond, max, refl, sym, ap, subst, inl, inr, arith, lit<}
use Rattle.std.proofs.Math.Nat.{pow-le-pow_right, pow-suc}
use Rattle.std.proofs.Math.Pow.{pow_pos}
use Rattle.std.proofs.lemmas.Bool.{cases_lt, le-leb, lt-leb}
use Rattle.std.specs.Int.{IsPowerOfTwo, IsNextPowerOfTwo}
use Rattle.ir_types.specs.declared.layout.Layout.{Layout}
use Rattle.ir_types.specs.Layout.{doubled, power_from, of_int}
use Rattle.ir_types.specs.Kept.{capped_size, capped}
use Rattle.ir_types.proofs.Capping.{as_it_is}

twice : (k : ℕ) → 2 ^ suc k ≡ 2 ^ k + 2 ^ k
twice k = omega (arith, pow-suc 2 k)

doubled_is : (often p n k : ℕ) → p ≡ 2 ^ k → 0 < p → n ≤ often + p → p / 2 < max 1 n → IsNextPowerOfTwo n (doubled often p n)
doubled_is zero p n k is pos enough half = ((k, is), omega arith, half)
doubled_is (suc often) p n k is pos enough half = elim (cases_lt p n) [
  | inl less ↦ subst (λ b. IsNextPowerOfTwo n (cond b p (doubled often (p + p) n))) (sym (lt-leb n p less))
      (doubled_is often (p + p) n (suc k) (rw is (sym (twice k))) (omega arith) (omega arith) (omega arith))
  | inr reached ↦ subst (λ b. IsNextPowerOfTwo n (cond b p (doubled often (p + p) n))) (sym (le-leb n p reached)) ((k, is), reached, half)
]

pub next_power : (n : ℕ) → IsNextPowerOfTwo n (power_from n)
next_power n = doubled_is n 1 n 0 refl (omega arith) (omega arith) (omega arith)

not_less : (n j k : ℕ) → n ≤ 2 ^ j → 2 ^ k / 2 < max 1 n → j < k → ⊥
not_less n j k reached half less =
    let more : 2 ^ suc j ≤ 2 ^ k = pow-le-pow_right (lit< tt) less in
    let two = twice j in
    let pos : 0 < 2 ^ j = pow_pos j in
    omega arith

one_power : (n j k : ℕ) → n ≤ 2 ^ j → 2 ^ j / 2 < max 1 n → n ≤ 2 ^ k → 2 ^ k / 2 < max 1 n → j ≡ k
one_power n j k a b c d = elim (cases_lt j k) [
  | inl less ↦ absurd (not_less n j k a d less)
  | inr not ↦ elim (cases_lt k j) [ inl less ↦ absurd (not_less n k j c b less) | inr also ↦ omega arith ]
]

pub next_power_is_one : (n p q : ℕ) → IsNextPowerOfTwo n p → IsNextPowerOfTwo n q → p ≡ q
next_power_is_one n p q is also =
    let exponents : is.0.0 ≡ also.0.0 = one_power n is.0.0 also.0.0
    (subst (λ x. n ≤ x) is.0.1 is.1) (subst (λ x. x / 2 < max 1 n) is.0.1 is.2)
    (subst (λ x. n ≤ x) also.0.1 also.1) (subst (λ x. x / 2 < max 1 n) also.0.1 also.2) in
    is.0.1 ∙ ap (λ k. 2 ^ k) exponents ∙ sym also.0.1

pub int_kept : (width p : ℕ) → width < 2 ^ 32 → IsPowerOfTwo p → (width + 7) / 8 ≤ p → p / 2 < max 1 ((width + 7) / 8) →
    ◌≡◌ {A = Layout} (record { size = p; align = p }) (capped (of_int width))
int_kept width p small power reached half =
    let is : p ≡ power_from ((width + 7) / 8) = next_power_is_one ((width + 7) / 8) p (power_from ((width + 7) / 8)) (power, reached, half) (next_power ((width + 7) / 8)) in
    let low : p ≤ 2147483649 = omega arith in
    ap (λ s. record { size = s; align = p }) (sym (as_it_is p low)) ∙ ap (λ s. record { size = capped_size s; align = s }) is
