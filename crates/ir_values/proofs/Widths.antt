-- Powers of two at the widths of integer types, and integers modulo them.
use Rattle.std.proofs.Common.{◌≡◌, ℕ, zero, suc, ◌+◌, ◌-◌, ◌*◌, ◌<◌, ◌≤◌, ◌^◌, ◌%◌, Bool, true, false, ◌&&◌, ◌||◌, refl, arith, lit<}
use Rattle.std.specs.Prelude.{pos, negsuc, ◌-ℤ◌, unsigned_abs, bit_or, bit_xor, nat_le}
use Rattle.std.proofs.lemmas.Nat.{pow_pos, mod_below, shl_whole, mul-lt, or_lt, xor_lt}
use Rattle.std.proofs.lemmas.Int.{ints}
use Rattle.std.proofs.lemmas.Bool.{lt-ltb, le-ltb, leb-false}
use Rattle.std.proofs.Math.Nat.{pow-le-pow_right, pow-suc, mod-eq_of_lt}
use Rattle.ir_core.specs.declared.operands.BinOp.{BinOp}
use Rattle.ir_core.specs.declared.values.Value.TheVariants.{Num}
use Rattle.ir_values.specs.Numbers.{signed}
use Rattle.ir_values.specs.Operations.{traps}
use Rattle.ir_values.specs.Results.{is_division, is_past_width, is_shift}

pub power_fits : (width : ℕ) → width ≤ 64 → 2 ^ width ≤ 2 ^ 64
power_fits width h = pow-le-pow_right (lit< tt) h

pub remainder_fits : (n width : ℕ) → width ≤ 64 → n % 2 ^ width < 2 ^ 64
remainder_fits n width h = omega (arith, power_fits width h, mod_below n (2 ^ width) (pow_pos width))

pub half_fits : (width : ℕ) → 1 ≤ width → 2 ^ width ≡ 2 ^ (width - 1) + 2 ^ (width - 1)
half_fits zero h = absurd (omega (arith, h))
half_fits (suc k) h =
    let e : suc k - 1 ≡ k = omega arith in
    rw e (omega (arith, pow-suc 2 k))

below_whole : (n m : ℕ) → n < m → pos n -ℤ pos m ≡ negsuc (m - 1 - n)
below_whole n m h = omega (arith, ints)

pub signed_low : (width n : ℕ) → n < 2 ^ (width - 1) → signed width n ≡ pos n
signed_low width n h = rw (lt-ltb n (2 ^ (width - 1)) h) refl

pub signed_high : (width n : ℕ) → 2 ^ (width - 1) ≤ n → n < 2 ^ width → signed width n ≡ negsuc (2 ^ width - 1 - n)
signed_high width n low high = rw (le-ltb n (2 ^ (width - 1)) low) (below_whole n (2 ^ width) high)

-- at widths that no integer has
pub signed_none : (width n : ℕ) → width ≡ 0 → n < 2 ^ width → signed width n ≡ pos n
signed_none zero n e h = let none : n < 2 ^ (zero - 1) = omega arith in signed_low zero n none
signed_none (suc k) n e h = cc

pub signed_wide : (width n : ℕ) → 64 < width → n < 2 ^ 64 → signed width n ≡ pos n
signed_wide width n h small =
    let wide : 64 ≤ width - 1 = omega (arith, h) in
    let big : 2 ^ 64 ≤ 2 ^ (width - 1) = pow-le-pow_right (lit< tt) wide in
    signed_low width n (omega (arith, small, big))

pub magnitude_low : (width n : ℕ) → n < 2 ^ (width - 1) → unsigned_abs (signed width n) ≡ n
magnitude_low width n h = rw (signed_low width n h) refl

pub magnitude_high : (width n : ℕ) → 2 ^ (width - 1) ≤ n → n < 2 ^ width → unsigned_abs (signed width n) ≡ 2 ^ width - n
magnitude_high width n low high = rw (signed_high width n low high) (omega arith)

pub product_fits : (a b : ℕ) → a < 2 ^ 64 → b < 2 ^ 64 → a * b < 2 ^ 128
product_fits a b p q = mul-lt a b (2 ^ 64) (2 ^ 64) p q

pub shift_fits : (a k : ℕ) → a < 2 ^ 64 → k < 64 → (a * 2 ^ k) % 2 ^ 128 ≡ a * 2 ^ k
shift_fits a k p q = shl_whole a 64 k 128 p (omega (arith, q))

left_false : (a b : Bool) → (a || b) ≡ false → a ≡ false
left_false true b h = h
left_false false b h = refl

pub divisor_above_zero : (o : BinOp) (width m n : ℕ) → traps o width (Num m) (Num n) ≡ false → is_division o ≡ true → 0 < n
divisor_above_zero o width m zero h d =
    let none : (is_division o && true) ≡ false = left_false (is_division o && true) _ h in
    cc
divisor_above_zero o width m (suc n) h d = omega arith

pub places_below_width : (o : BinOp) (width n : ℕ) → is_past_width o width n ≡ false → is_shift o ≡ true → n < width
places_below_width o width n h s =
    let both : (true && nat_le width n) ≡ false = rw s at h in
    leb-false width n both

pub or_below : (width a b : ℕ) → a < 2 ^ width → b < 2 ^ width → bit_or a b % 2 ^ width ≡ bit_or a b
or_below width a b p q = mod-eq_of_lt (or_lt width a b p q)

pub xor_below : (width a b : ℕ) → a < 2 ^ width → b < 2 ^ width → bit_xor a b % 2 ^ width ≡ bit_xor a b
xor_below width a b p q = mod-eq_of_lt (xor_lt width a b p q)
