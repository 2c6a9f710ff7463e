-- Signed results by sign and magnitude.
use Rattle.std.proofs.Common.{◌≡◌, ℕ, zero, suc, ◌-◌, ◌*◌, ◌/◌, ◌%◌, ◌<◌, ◌≤◌, ◌^◌, Bool, true, false, ◌⊎◌, inl, inr, refl, sym, arith}
use Rattle.std.specs.Prelude.{ℤ, pos, negsuc, ◌*ℤ◌, unsigned_abs, int_div, int_rem}
use Rattle.std.specs.Int.{int_div_euclid}
use Rattle.std.proofs.lemmas.Nat.{shr_le}
use Rattle.std.proofs.Math.Nat.{mod-eq_of_lt}
use Rattle.std.proofs.lemmas.Bool.{cases_lt, lt-leb, le-leb}
use Rattle.ir_values.specs.Numbers.{modulo, signed}
use Rattle.ir_values.specs.Private.{differ, is_negative, with_sign}
use Rattle.ir_values.proofs.Widths.{magnitude_high, signed_high, signed_low}

abbrev is_below : ℤ → Bool
is_below (pos n) = false
is_below (negsuc n) = true

-- ---- of integers

quotient_of : (a b : ℤ) → int_div a b ≡ with_sign (differ (is_below a) (is_below b)) (unsigned_abs a / unsigned_abs b)
quotient_of (pos a) (pos b) = refl
quotient_of (pos a) (negsuc b) = refl
quotient_of (negsuc a) (pos b) = refl
quotient_of (negsuc a) (negsuc b) = refl

remainder_of : (a b : ℤ) → int_rem a b ≡ with_sign (is_below a) (unsigned_abs a % unsigned_abs b)
remainder_of (pos a) b = refl
remainder_of (negsuc a) b = refl

product_of : (a b : ℤ) → a *ℤ b ≡ with_sign (differ (is_below a) (is_below b)) (unsigned_abs a * unsigned_abs b)
product_of (pos a) (pos b) = refl
product_of (pos a) (negsuc b) = refl
product_of (negsuc a) (pos b) = refl
product_of (negsuc a) (negsuc b) = refl

scaled_of : (a : ℤ) (n : ℕ) → a *ℤ pos n ≡ with_sign (is_below a) (unsigned_abs a * n)
scaled_of (pos a) n = refl
scaled_of (negsuc a) n = refl

self_of : (a : ℤ) → a ≡ with_sign (is_below a) (unsigned_abs a)
self_of (pos a) = refl
self_of (negsuc a) = refl

unsigned_with_sign : (negative : Bool) (m : ℕ) → unsigned_abs (with_sign negative m) ≡ m
unsigned_with_sign true zero = refl
unsigned_with_sign true (suc m) = refl
unsigned_with_sign false m = refl

-- ---- of numbers in two's complement

by_sum : {P A B : Type 0} → A ⊎ B → (A → P) → (B → P) → P
by_sum (inl a) f g = f a
by_sum (inr b) f g = g b

by_half : {P : Type 0} (width n : ℕ) → (n < 2 ^ (width - 1) → P) → (2 ^ (width - 1) ≤ n → P) → P
by_half width n low high = by_sum (cases_lt n (2 ^ (width - 1))) low high

below_is : (width n : ℕ) → n < 2 ^ width → is_below (signed width n) ≡ is_negative width n
below_is width n h = by_half width n
    (λ low. rw (signed_low width n low) (sym (lt-leb (2 ^ (width - 1)) n low)))
    (λ high. rw (signed_high width n high h) (sym (le-leb (2 ^ (width - 1)) n high)))

pub quotient_by_signs : (width a b : ℕ) → a < 2 ^ width → b < 2 ^ width → int_div (signed width a) (signed width b)
    ≡ with_sign (differ (is_negative width a) (is_negative width b)) (unsigned_abs (signed width a) / unsigned_abs (signed width b))
quotient_by_signs width a b p q = rw (sym (below_is width a p), sym (below_is width b q)) (quotient_of (signed width a) (signed width b))

pub remainder_magnitude_is : (width a b : ℕ) → unsigned_abs (int_rem (signed width a) (signed width b)) ≡ unsigned_abs (signed width a) % unsigned_abs (signed width b)
remainder_magnitude_is width a b = rw (remainder_of (signed width a) (signed width b)) (unsigned_with_sign _ _)

pub remainder_by_signs : (width a b : ℕ) → a < 2 ^ width → int_rem (signed width a) (signed width b)
    ≡ with_sign (is_negative width a) (unsigned_abs (int_rem (signed width a) (signed width b)))
remainder_by_signs width a b p = rw (remainder_magnitude_is width a b, sym (below_is width a p)) (remainder_of (signed width a) (signed width b))

pub product_by_signs : (width a b : ℕ) → a < 2 ^ width → b < 2 ^ width → signed width a *ℤ signed width b
    ≡ with_sign (differ (is_negative width a) (is_negative width b)) (unsigned_abs (signed width a) * unsigned_abs (signed width b))
product_by_signs width a b p q = rw (sym (below_is width a p), sym (below_is width b q)) (product_of (signed width a) (signed width b))

pub scaled_by_signs : (width a k : ℕ) → a < 2 ^ width → signed width a *ℤ pos (2 ^ k) ≡ with_sign (is_negative width a) (unsigned_abs (signed width a) * 2 ^ k)
scaled_by_signs width a k p = rw (sym (below_is width a p)) (scaled_of (signed width a) (2 ^ k))

pub by_sign : (width n : ℕ) → n < 2 ^ width → signed width n ≡ with_sign (is_negative width n) (unsigned_abs (signed width n))
by_sign width n h = rw (sym (below_is width n h)) (self_of (signed width n))

pub magnitude_above_zero : (width n : ℕ) → n < 2 ^ width → 0 < n → 0 < unsigned_abs (signed width n)
magnitude_above_zero width n h some = by_half width n
    (λ low. rw (signed_low width n low) some)
    (λ high. rw (magnitude_high width n high h) (omega (arith, h)))

-- ---- shifts that fill with the sign bit

pub shifted_low : (width n k : ℕ) → n < 2 ^ (width - 1) → n < 2 ^ width → modulo width (int_div_euclid (signed width n) (pos (2 ^ k))) ≡ n / 2 ^ k
shifted_low width n k low h = rw (signed_low width n low) (mod-eq_of_lt {n = n / 2 ^ k} {m = 2 ^ width} (omega (arith, h, shr_le n k)))

pub shifted_high : (width n k : ℕ) → 2 ^ (width - 1) ≤ n → n < 2 ^ width
    → modulo width (int_div_euclid (signed width n) (pos (2 ^ k))) ≡ 2 ^ width - 1 - (2 ^ width - 1 - n) / 2 ^ k
shifted_high width n k high h =
    let small : (2 ^ width - 1 - n) / 2 ^ k < 2 ^ width = omega (arith, h, shr_le (2 ^ width - 1 - n) k) in
    rw (signed_high width n high h) (rw (mod-eq_of_lt small) refl)
