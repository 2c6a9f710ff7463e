-- The blocks and offsets of accesses.
use Rattle.std.proofs.Common.{◌≡◌, ℕ, ℤ, zero, suc, pos, negsuc, ◌+◌, ◌<◌, ◌≤◌, ◌≤ℤ◌, ◌<ℤ◌, unsigned_abs, true, false, cond, List, [], ◌∷◌, ◌++◌, length, get_or, take, drop, set, None, Some, slice_get, refl, sym, ap, subst, ◌∙◌, arith, add-one}
use Rattle.std.proofs.lemmas.Int.{ints}
use Rattle.ir_core.specs.declared.values.Value.{Value}
use Rattle.ir_core.specs.declared.values.Value.TheVariants as value
use Rattle.ir_core.specs.declared.values.Kind.{Kind}
use Rattle.block_memory.specs.Memory.{Cell, Memory, cell_at, filled, or_undef, can_access, updated, put, with_bytes, overwritten, stored, loaded, read_at, bytes_at}
use Rattle.block_memory.specs.Bytes.{byte_count, bytes_of, value_of}
use Rattle.ir_core.specs.declared.values.Byte.{Byte}
use Rattle.ir_core.specs.declared.values.Byte.TheVariants as byte
use Rattle.ir_values.specs.declared.operations.Outcome.TheVariants.{Gives, Trap}
use Rattle.block_memory.proofs.BytesAgain.{bytes_length}
use Rattle.block_memory.proofs.Accesses.{Accesses, fits_there, take_length}

pub cell_get : (m : Memory) (b : ℕ) → slice_get m b ≡ cell_at m b
cell_get [] b = refl
cell_get (c ∷ cs) zero = refl
cell_get (c ∷ cs) (suc b) = cell_get cs b

pub pointer_at : (z : ℤ) → pos 0 ≤ℤ z → z ≡ pos (unsigned_abs z)
pointer_at (pos o) h = refl
pointer_at (negsuc o) h = absurd (omega (arith, ints))

pub below : (m : Memory) (k : Kind) (b : ℕ) (z : ℤ) (align : ℕ) → z <ℤ pos 0 → can_access m k (value.Ptr b z) align ≡ false
below m k b (pos o) align h = absurd (omega (arith, ints))
below m k b (negsuc o) align h = refl

put_range : (xs : List Byte) (o : ℕ) (new : List Byte) → o + length new ≤ length xs → take o xs ++ (new ++ drop (o + length new) xs) ≡ put xs o new
put_range [] zero [] h = refl
put_range [] zero (y ∷ new) h = absurd (omega arith)
put_range [] (suc o) new h = absurd (omega arith)
put_range (x ∷ xs) zero [] h = refl
put_range (x ∷ xs) zero (y ∷ new) h =
    let e : 0 + length (y ∷ new) ≡ suc (0 + length new) = omega arith in
    ap (λ n. y ∷ (new ++ drop n (x ∷ xs))) e ∙ ap (λ zs. y ∷ zs) (put_range xs zero new (omega arith))
put_range (x ∷ xs) (suc o) new h =
    let e : suc o + length new ≡ suc (o + length new) = omega arith in
    ap (λ n. x ∷ (take o xs ++ (new ++ drop n (x ∷ xs)))) e ∙ ap (λ zs. x ∷ zs) (put_range xs o new (omega arith))

drop_drop : (n o : ℕ) (xs : List Byte) → drop n (drop o xs) ≡ drop (o + n) xs
drop_drop n zero xs = let e : n ≡ 0 + n = omega arith in ap (λ m. drop m xs) e
drop_drop n (suc o) [] = let e : suc (o + n) ≡ suc o + n = omega arith in nothing n ∙ ap (λ m. drop {A = Byte} m []) e
  where
    nothing : (n : ℕ) → drop {A = Byte} n [] ≡ []
    nothing zero = refl
    nothing (suc n) = refl
drop_drop n (suc o) (x ∷ xs) = let e : suc (o + n) ≡ suc o + n = omega arith in drop_drop n o xs ∙ ap (λ m. drop m (x ∷ xs)) e

-- bytes of which a part is written
pub put_part : (xs : List Byte) (o n m : ℕ) (v : Value) (new : List Byte) → m ≡ n → o + n ≤ length xs → new ≡ bytes_of (length (take m (drop o xs))) v
    → take o xs ++ (new ++ drop m (drop o xs)) ≡ put xs o (bytes_of n v)
put_part xs o n m v new same h is =
    let long : length (bytes_of n v) ≡ n = bytes_length v 0 n in
    let all : length (take n (drop o xs)) ≡ n = take_length n o xs h in
    let new_is : new ≡ bytes_of n v = is ∙ ap (λ k. bytes_of (length (take k (drop o xs))) v) same ∙ ap (λ k. bytes_of k v) all in
    ap (λ ys. take o xs ++ (ys ++ drop m (drop o xs))) new_is
    ∙ ap (λ ys. take o xs ++ (bytes_of n v ++ ys)) (ap (λ k. drop k (drop o xs)) same ∙ drop_drop n o xs ∙ ap (λ k. drop (o + k) xs) (sym long))
    ∙ put_range xs o (bytes_of n v) (omega arith)

-- all elements of a list replaced
pub refilled : (xs new : List Byte) (n : ℕ) → length xs ≡ n → length new ≡ n → take n (new ++ drop (length new) xs) ≡ new
refilled xs new n h k =
    let z : length new ≡ length xs = omega arith in
    ap (λ m. take n (new ++ drop m xs)) z ∙ ap (λ ys. take n (new ++ ys)) (none xs) ∙ front new n k
  where
    none : (xs : List Byte) → drop (length xs) xs ≡ []
    none [] = refl
    none (x ∷ xs) = none xs

    front : (new : List Byte) (n : ℕ) → length new ≡ n → take n (new ++ []) ≡ new
    front [] zero h = refl
    front [] (suc n) h = absurd (omega arith)
    front (y ∷ new) zero h = absurd (omega arith)
    front (y ∷ new) (suc n) h = ap (λ zs. y ∷ zs) (front new n (omega arith))

-- what a place tells
get_there : (m : Memory) (b : ℕ) (x y : Cell) → cell_at m b ≡ Some x → get_or m b y ≡ x
get_there [] b x y h = cc
get_there (c ∷ cs) zero x y h = cc
get_there (c ∷ cs) (suc b) x y h = get_there cs b x y h

below_length : (m : Memory) (b : ℕ) (x : Cell) → cell_at m b ≡ Some x → b < length m
below_length [] b x h = cc
below_length (c ∷ cs) zero x h = omega arith
below_length (c ∷ cs) (suc b) x h = let k = below_length cs b x h in omega arith

set_there : (f : Cell → Cell) (m : Memory) (b : ℕ) (x : Cell) → cell_at m b ≡ Some x → updated f m b ≡ set m b (f x)
set_there f [] b x h = cc
set_there f (c ∷ cs) zero x h = let e : c ≡ x = cc in ap (λ y. f y ∷ cs) e
set_there f (c ∷ cs) (suc b) x h = ap (λ ys. c ∷ ys) (set_there f cs b x h)

module _ (m : Memory) (k : Kind) (p : Value) (align b start : ℕ) (is : p ≡ value.Ptr b (pos start)) (can : can_access m k p align ≡ true) where
  found : Accesses m (byte_count k) b start align
  found = fits_there m (byte_count k) b start align (sym (ap (λ q. can_access m k q align) is) ∙ can)

  pub place_there : b < length m
  place_there = below_length m b found.cell found.there

  module _ (x : Cell) (at : x ≡ get_or m b x) where
    same : x ≡ found.cell
    same = at ∙ get_there m b found.cell x found.there

    pub place_inside : start + byte_count k ≤ length x.bytes
    place_inside = subst (λ (y : Cell). start + byte_count k ≤ length y.bytes) (sym same) found.inside

    pub load_answer : Gives (value_of k (take (byte_count k) (drop start x.bytes))) ≡ loaded m k p align
    load_answer =
        ap (λ (y : Cell). Gives (value_of k (take (byte_count k) (drop start y.bytes)))) same
        ∙ ap (λ c. Gives (value_of k (bytes_at c start (byte_count k)))) (sym found.there)
        ∙ ap (λ q. Gives (read_at m k q)) (sym is)
        ∙ ap (λ t. cond t (Gives (read_at m k p)) Trap) (sym can)

    pub store_answer : (v : Value) → stored m k v p align ≡ Some (set m b (with_bytes start (bytes_of (byte_count k) v) x))
    store_answer v =
        ap (λ t. cond t (Some (overwritten m p (bytes_of (byte_count k) v))) None) can
        ∙ ap (λ q. Some (overwritten m q (bytes_of (byte_count k) v))) is
        ∙ ap Some (set_there (with_bytes start (bytes_of (byte_count k) v)) m b found.cell found.there)
        ∙ ap (λ y. Some (set m b (with_bytes start (bytes_of (byte_count k) v) y))) (sym same)

pub found_at : (m : Memory) (b : ℕ) (x : Cell) → b < length m → x ≡ get_or m b x → cell_at m b ≡ Some x
found_at [] b x h e = absurd (omega arith)
found_at (c ∷ cs) zero x h e = ap Some (sym e)
found_at (c ∷ cs) (suc b) x h e = found_at cs b x (omega arith) e

pub not_at : (m : Memory) (b : ℕ) → length m ≤ b → cell_at m b ≡ None
not_at [] b h = refl
not_at (c ∷ cs) zero h = absurd (omega arith)
not_at (c ∷ cs) (suc b) h = not_at cs b (omega arith)

pub changed_at : (f : Cell → Cell) (m : Memory) (b : ℕ) (x : Cell) → b < length m → x ≡ get_or m b x → set m b (f x) ≡ updated f m b
changed_at f m b x h e = sym (set_there f m b x (found_at m b x h e))

-- ---- a new block's bytes

filled_step : (bytes : List Byte) (n : ℕ) → filled n bytes ++ (or_undef (slice_get bytes n) ∷ []) ≡ filled (suc n) bytes
filled_step [] zero = refl
filled_step (b ∷ bytes) zero = refl
filled_step [] (suc n) = ap (λ xs. byte.Undef ∷ xs) (filled_step [] n)
filled_step (b ∷ bytes) (suc n) = ap (λ xs. b ∷ xs) (filled_step bytes n)

pub filled_more : (bytes : List Byte) (n : ℕ) → filled n bytes ++ (or_undef (slice_get bytes n) ∷ []) ≡ filled (n + 1) bytes
filled_more bytes n = filled_step bytes n ∙ ap (λ m. filled m bytes) (sym (add-one n))

-- ---- one byte

pub put_inside : (xs : List Byte) (o : ℕ) (x : Byte) → o < length xs → set xs o x ≡ put xs o (x ∷ [])
put_inside [] o x h = absurd (omega arith)
put_inside (y ∷ ys) zero x h = ap (λ zs. x ∷ zs) (none ys)
  where
    none : (ys : List Byte) → ys ≡ put ys 0 []
    none [] = refl
    none (y ∷ ys) = refl
put_inside (y ∷ ys) (suc o) x h = ap (λ zs. y ∷ zs) (put_inside ys o x (omega arith))

pub put_outside : (xs : List Byte) (o : ℕ) (new : List Byte) → length xs ≤ o → xs ≡ put xs o new
put_outside [] o new h = refl
put_outside (y ∷ ys) zero new h = absurd (omega arith)
put_outside (y ∷ ys) (suc o) new h = ap (λ zs. y ∷ zs) (put_outside ys o new (omega arith))

pub nothing_updated : (f : Cell → Cell) (m : Memory) (b : ℕ) → length m ≤ b → m ≡ updated f m b
nothing_updated f [] b h = refl
nothing_updated f (c ∷ cs) zero h = absurd (omega arith)
nothing_updated f (c ∷ cs) (suc b) h = ap (λ ds. c ∷ ds) (nothing_updated f cs b (omega arith))
