-- Steps of the loops over a value's bytes.
use Rattle.std.proofs.Common.{◌≡◌, ℕ, ℤ, zero, suc, ◌+◌, ◌*◌, ◌^◌, ◌<◌, ◌≤◌, ◌&&◌, cond, List, [], ◌∷◌, ◌++◌, length, get_or, take, drop, set, None, Some, refl, sym, ap, subst, ◌∙◌, arith, add-one}
use Rattle.std.proofs.Math.Seq.{drop-cons}
use Rattle.std.proofs.Math.Nat.{pow-le-pow_right}
use Rattle.std.proofs.lemmas.Bool.{le-ltb, lt-ltb}
use Rattle.std.proofs.lemmas.Nat.{pow-add}
use Rattle.std.proofs.lemmas.List.{take_more_set}
use Rattle.ir_core.specs.declared.values.Value.{Value}
use Rattle.ir_core.specs.declared.values.Value.TheVariants as value
use Rattle.ir_core.specs.declared.values.Byte.{Byte}
use Rattle.ir_core.specs.declared.values.Byte.TheVariants as byte
use Rattle.block_memory.specs.Bytes.{byte_at, bytes_from, bytes_of, with_low, number_of, is_fragment, are_fragments, number_within}

pub one_more : (v : Value) (place count : ℕ) → bytes_from v place count ++ (byte_at v (place + count) ∷ []) ≡ bytes_from v place (suc count)
one_more v place zero = let e : place + 0 ≡ place = omega arith in ap (λ p. byte_at v p ∷ []) e
one_more v place (suc count) =
    let e : place + suc count ≡ suc place + count = omega arith in
    ap (λ p. byte_at v place ∷ (bytes_from v (suc place) count ++ (byte_at v p ∷ []))) e ∙ ap (λ xs. byte_at v place ∷ xs) (one_more v (suc place) count)

pub put_more : (v : Value) (xs : List Byte) (i : ℕ) → i < length xs → take i xs ≡ bytes_of i v → take (i + 1) (set xs i (byte_at v i)) ≡ bytes_of (i + 1) v
put_more v xs i h e =
    let z : 0 + i ≡ i = omega arith in
    take_more_set xs i (byte_at v i) h ∙ ap (λ ys. ys ++ (byte_at v i ∷ [])) e
    ∙ ap (λ p. bytes_of i v ++ (byte_at v p ∷ [])) (sym z) ∙ one_more v 0 i ∙ ap (λ n. bytes_of n v) (sym (add-one i))

pub number_step : (xs : List Byte) (i j : ℕ) (low high : ℕ) (d : Byte) → j ≡ suc i → i < length xs → get_or xs i d ≡ byte.Num low → number_of (drop j xs) ≡ Some high
    → number_of (drop i xs) ≡ Some (high * 256 + low)
number_step xs i j low high d next h is e =
    let z : low + 256 * high ≡ high * 256 + low = omega arith in
    ap number_of (drop-cons xs i d h) ∙ ap (λ x. number_of (x ∷ drop (suc i) xs)) is ∙ ap (λ n. with_low low (number_of (drop n xs))) (sym next) ∙ ap (with_low low) e ∙ ap Some z

pub below_step : (number low m n : ℕ) → number < 2 ^ (8 * n) → low < 256 → m ≡ suc n → number * 256 + low < 2 ^ (8 * m)
below_step number low m n h k e =
    let f : 8 * m ≡ 8 * n + 8 = omega arith in
    let g : 2 ^ (8 * n + 8) ≡ 2 ^ (8 * n) * 256 = pow-add 2 (8 * n) 8 in
    subst (λ z. number * 256 + low < 2 ^ z) (sym f) (omega arith)

pub room_left : (number n : ℕ) → number < 2 ^ (8 * n) → n ≤ 7 → number < 2 ^ 56
room_left number n h k =
    let two : 0 < 2 = omega arith in
    let most : 8 * n ≤ 56 = omega arith in
    let e : 2 ^ (8 * n) ≤ 2 ^ 56 = pow-le-pow_right two most in
    omega arith

-- where a byte from the place on is no number, the bytes spell none
pub no_number : (xs : List Byte) (i : ℕ) → number_of (drop i xs) ≡ None → number_of xs ≡ None
no_number xs zero h = h
no_number [] (suc i) h = h
no_number (byte.Num n ∷ xs) (suc i) h = ap (with_low n) (no_number xs i h)
no_number (byte.Frag b o p ∷ xs) (suc i) h = refl
no_number (byte.Undef ∷ xs) (suc i) h = refl
no_number (byte.Poison ∷ xs) (suc i) h = refl

pub not_number : (xs : List Byte) (i : ℕ) (d : Byte) → i < length xs → ((n : ℕ) → get_or xs i d ≡ byte.Num n → ⊥) → number_of xs ≡ None
not_number xs i d h none = no_number xs i (ap number_of (drop-cons xs i d h) ∙ at (get_or xs i d) none)
  where
    at : (x : Byte) → ((n : ℕ) → x ≡ byte.Num n → ⊥) → number_of (x ∷ drop (suc i) xs) ≡ None
    at (byte.Num n) none = absurd (none n refl)
    at (byte.Frag b o p) none = refl
    at byte.Undef none = refl
    at byte.Poison none = refl

pub fragments_step : (b : ℕ) (o : ℤ) (xs : List Byte) (i : ℕ) (d : Byte) → i < length xs
    → are_fragments b o i (drop i xs) ≡ (is_fragment b o i (get_or xs i d) && are_fragments b o (suc i) (drop (suc i) xs))
fragments_step b o xs i d h = ap (are_fragments b o i) (drop-cons xs i d h)

pub too_wide : (width n : ℕ) → 2 ^ width ≤ n → value.Undef ≡ number_within width n
too_wide width n h = ap (λ t. cond t (value.Num n) value.Undef) (sym (le-ltb n (2 ^ width) h))

pub narrow : (width n : ℕ) → n < 2 ^ width → value.Num n ≡ number_within width n
narrow width n h = ap (λ t. cond t (value.Num n) value.Undef) (sym (lt-ltb n (2 ^ width) h))
