-- A value that is read lies in its kind; what a value's bytes are at another kind.
use Rattle.std.proofs.Common.{◌≡◌, ℕ, ℤ, zero, suc, ◌+◌, ◌*◌, ◌/◌, ◌%◌, ◌^◌, ◌<◌, ◌≤◌, Bool, true, false, ◌&&◌, cond, nat_eq, nat_lt, List, [], ◌∷◌, length, take, drop, replicate, Option, None, Some, refl, sym, ap, subst, ◌∙◌, eqb-true, arith, pow-suc}
use Rattle.std.specs.List.{list_any, AllByRecursion}
use Rattle.std.specs.Ordering.{int_eq}
use Rattle.std.proofs.lemmas.Bool.{and_parts, ltb-true}
use Rattle.std.proofs.lemmas.Bool.Decides.{Decides-int_eq}
use Rattle.ir_core.specs.declared.values.Value.{Value}
use Rattle.ir_core.specs.declared.values.Value.TheVariants as value
use Rattle.ir_core.specs.declared.values.Byte.{Byte}
use Rattle.ir_core.specs.declared.values.Byte.TheVariants as byte
use Rattle.ir_core.specs.declared.values.Kind.{Kind}
use Rattle.ir_core.specs.declared.values.Kind.TheVariants as kind
use Rattle.block_memory.specs.Bytes.{byte_count, byte_at, bytes_from, bytes_of, is_poison_byte, is_undef_byte, with_low, number_of, are_fragments, pointer_of, defined_value, value_of, IsByte, IsRanged, IsWide}
use Rattle.ir_values.specs.Values.{IsInKind}
use Rattle.block_memory.specs.Laws.{ValuesComeOfTheirBytes}
use Rattle.block_memory.proofs.BytesAgain.{numbers_value, defined, none_of, low_number, value_again}

-- IN KIND
below_room : (xs : List Byte) (n : ℕ) → AllByRecursion IsByte xs → number_of xs ≡ Some n → n < 256 ^ length xs
below_room [] n h e = let z : 0 ≡ n = cc in omega arith
below_room (byte.Num m ∷ xs) n h e = at (λ high. below_room xs high h.1) (number_of xs) refl e
  where
    at : ((high : ℕ) → number_of xs ≡ Some high → high < 256 ^ length xs) → (high : Option ℕ) → number_of xs ≡ high → with_low m high ≡ Some n → n < 256 ^ length (byte.Num m ∷ xs)
    at again None is e = cc
    at again (Some high) is e =
        let z : m + 256 * high ≡ n = cc in
        let below : high < 256 ^ length xs = again high is in
        let low : m < 256 = h.0 in
        let p : 256 ^ suc (length xs) ≡ 256 ^ length xs * 256 = pow-suc 256 (length xs) in
        omega arith
below_room (byte.Frag b o p ∷ xs) n h e = cc
below_room (byte.Undef ∷ xs) n h e = cc
below_room (byte.Poison ∷ xs) n h e = cc

pointer_in_kind : (xs : List Byte) → AllByRecursion IsByte xs → IsInKind kind.Ptr (pointer_of xs)
pointer_in_kind [] all = tt
pointer_in_kind (byte.Frag b o p ∷ xs) all = at (are_fragments b o 0 (byte.Frag b o p ∷ xs))
  where
    at : (t : Bool) → IsInKind kind.Ptr (cond t (value.Ptr b o) value.Undef)
    at true = all.0
    at false = tt
pointer_in_kind (byte.Num n ∷ xs) all = tt
pointer_in_kind (byte.Undef ∷ xs) all = tt
pointer_in_kind (byte.Poison ∷ xs) all = tt

defined_in_kind : (k : Kind) (xs : List Byte) → AllByRecursion IsByte xs → length xs ≡ byte_count k → (n : Option ℕ) → number_of xs ≡ n → IsInKind k (defined_value k xs n)
defined_in_kind (kind.Int width) xs all long (Some n) e = at (nat_lt n (2 ^ width)) refl
  where
    at : (t : Bool) → nat_lt n (2 ^ width) ≡ t → IsInKind (kind.Int width) (cond t (value.Num n) value.Undef)
    at true is = ltb-true n (2 ^ width) is
    at false is = tt
defined_in_kind (kind.Int width) xs all long None e = tt
defined_in_kind kind.Ptr xs all long (Some n) e = subst (λ m. n < 256 ^ m) long (below_room xs n all e)
defined_in_kind kind.Ptr xs all long None e = pointer_in_kind xs all

pub in_kind : (k : Kind) (xs : List Byte) → AllByRecursion IsByte xs → length xs ≡ byte_count k → IsInKind k (value_of k xs)
in_kind k xs all long = at (list_any is_poison_byte xs) (list_any is_undef_byte xs)
  where
    undef : (k : Kind) → IsInKind k value.Undef
    undef (kind.Int width) = tt
    undef kind.Ptr = tt

    poison : (k : Kind) → IsInKind k value.Poison
    poison (kind.Int width) = tt
    poison kind.Ptr = tt

    at : (p u : Bool) → IsInKind k (cond p value.Poison (cond u value.Undef (defined_value k xs (number_of xs))))
    at true u = poison k
    at false true = undef k
    at false false = defined_in_kind k xs all long (number_of xs) refl

-- a value's bytes are bytes
byte_is_byte : (v : Value) (place : ℕ) → IsRanged v → IsByte (byte_at v place)
byte_is_byte (value.Num n) place h = omega arith
byte_is_byte (value.Ptr b o) place h = h
byte_is_byte (value.Bare n) place h = omega arith
byte_is_byte value.Undef place h = tt
byte_is_byte value.Poison place h = tt

pub bytes_are_bytes : (v : Value) (place count : ℕ) → IsRanged v → AllByRecursion IsByte (bytes_from v place count)
bytes_are_bytes v place zero h = tt
bytes_are_bytes v place (suc count) h = (byte_is_byte v place h, bytes_are_bytes v (suc place) count h)

-- whatever kind a value lies in, its offset is in range
pub kind_ranged : (k : Kind) (v : Value) → IsInKind k v → IsRanged v
kind_ranged (kind.Int width) (value.Ptr b o) h = absurd h
kind_ranged kind.Ptr (value.Ptr b o) h = h
kind_ranged k (value.Num n) h = tt
kind_ranged k (value.Bare n) h = tt
kind_ranged k value.Undef h = tt
kind_ranged k value.Poison h = tt

-- AT ANOTHER KIND
-- some of a value's bytes
first_of : (v : Value) (place count total : ℕ) → count ≤ total → take count (bytes_from v place total) ≡ bytes_from v place count
first_of v place zero total h = refl
first_of v place (suc count) zero h = absurd (omega arith)
first_of v place (suc count) (suc total) h = ap (λ xs. byte_at v place ∷ xs) (first_of v (suc place) count total (omega arith))

pub part_of : (v : Value) (place from count total : ℕ) → from + count ≤ total → take count (drop from (bytes_from v place total)) ≡ bytes_from v (from + place) count
part_of v place zero count total h =
    let e : 0 + place ≡ place = omega arith in
    first_of v place count total (omega arith) ∙ ap (λ p. bytes_from v p count) (sym e)
part_of v place (suc from) count zero h = absurd (omega arith)
part_of v place (suc from) count (suc total) h =
    let e : from + suc place ≡ suc from + place = omega arith in
    part_of v (suc place) from count total (omega arith) ∙ ap (λ p. bytes_from v p count) e

-- some bytes of a number, at a width: the bits that they have, or undef where a bit above the width is set
pub number_at_width : (width n place count : ℕ) → value_of (kind.Int width) (bytes_from (value.Num n) place count)
    ≡ cond (nat_lt (n / 2 ^ (8 * place) % 2 ^ (8 * count)) (2 ^ width)) (value.Num (n / 2 ^ (8 * place) % 2 ^ (8 * count))) value.Undef
number_at_width width n place count =
    defined (kind.Int width) (bytes_from (value.Num n) place count) (none_of is_poison_byte (value.Num n) (λ p. refl) place count) (none_of is_undef_byte (value.Num n) (λ p. refl) place count)
    ∙ ap (defined_value (kind.Int width) (bytes_from (value.Num n) place count)) (low_number n place count)

-- eight bytes of a number are a bare address
pub number_at_pointer : (n : ℕ) → n < 2 ^ 64 → value_of kind.Ptr (bytes_of 8 (value.Num n)) ≡ value.Bare n
number_at_pointer n below = numbers_value kind.Ptr 8 n below

-- fragments are no number
pub fragments_at_width : (width b : ℕ) (o : ℤ) (place count : ℕ) → value_of (kind.Int width) (bytes_from (value.Ptr b o) place (suc count)) ≡ value.Undef
fragments_at_width width b o place count =
    defined (kind.Int width) (bytes_from (value.Ptr b o) place (suc count)) (none_of is_poison_byte (value.Ptr b o) (λ p. refl) place (suc count)) (none_of is_undef_byte (value.Ptr b o) (λ p. refl) place (suc count))

-- one poison byte gives poison; else one undef byte undef
pub poison_first : (k : Kind) (xs : List Byte) → list_any is_poison_byte xs ≡ true → value_of k xs ≡ value.Poison
poison_first k xs h = ap (λ t. cond t value.Poison (cond (list_any is_undef_byte xs) value.Undef (defined_value k xs (number_of xs)))) h

pub undef_second : (k : Kind) (xs : List Byte) → list_any is_poison_byte xs ≡ false → list_any is_undef_byte xs ≡ true → value_of k xs ≡ value.Undef
undef_second k xs p u =
    ap (λ t. cond t value.Poison (cond (list_any is_undef_byte xs) value.Undef (defined_value k xs (number_of xs)))) p
    ∙ ap (λ t. cond t value.Undef (defined_value k xs (number_of xs))) u

all_fragments : (b : ℕ) (o : ℤ) (place : ℕ) (xs : List Byte) → are_fragments b o place xs ≡ true → xs ≡ bytes_from (value.Ptr b o) place (length xs)
all_fragments b o place [] h = refl
all_fragments b o place (byte.Frag c q r ∷ xs) h =
    let parts = and_parts (nat_eq c b && (int_eq q o && nat_eq r place)) (are_fragments b o (suc place) xs) h in
    let first = and_parts (nat_eq c b) (int_eq q o && nat_eq r place) parts.0 in
    let second = and_parts (int_eq q o) (nat_eq r place) first.1 in
    let x : c ≡ b = eqb-true c b first.0 in
    let y : q ≡ o = (Decides-int_eq q o).0 second.0 in
    let z : r ≡ place = eqb-true r place second.1 in
    let e : xs ≡ bytes_from (value.Ptr b o) (suc place) (length xs) = all_fragments b o (suc place) xs parts.1 in
    cc
all_fragments b o place (byte.Num n ∷ xs) h = cc
all_fragments b o place (byte.Undef ∷ xs) h = cc
all_fragments b o place (byte.Poison ∷ xs) h = cc

-- only its fragments, in order from the first on, give a pointer
pub pointer_only : (xs : List Byte) (b : ℕ) (o : ℤ) → value_of kind.Ptr xs ≡ value.Ptr b o → xs ≡ bytes_from (value.Ptr b o) 0 (length xs)
pointer_only xs b o h = at (list_any is_poison_byte xs) (list_any is_undef_byte xs) (number_of xs) h
  where
    found : (xs : List Byte) → pointer_of xs ≡ value.Ptr b o → xs ≡ bytes_from (value.Ptr b o) 0 (length xs)
    found [] h = cc
    found (byte.Frag c q r ∷ xs) h = of (are_fragments c q 0 (byte.Frag c q r ∷ xs)) refl h
      where
        of : (t : Bool) → are_fragments c q 0 (byte.Frag c q r ∷ xs) ≡ t → cond t (value.Ptr c q) value.Undef ≡ value.Ptr b o → byte.Frag c q r ∷ xs ≡ bytes_from (value.Ptr b o) 0 (length (byte.Frag c q r ∷ xs))
        of true is e =
            let x : c ≡ b = cc in
            let y : q ≡ o = cc in
            let z : byte.Frag c q r ∷ xs ≡ bytes_from (value.Ptr c q) 0 (length (byte.Frag c q r ∷ xs)) = all_fragments c q 0 (byte.Frag c q r ∷ xs) is in
            z ∙ ap (λ d. bytes_from (value.Ptr d q) 0 (length (byte.Frag c q r ∷ xs))) x ∙ ap (λ p. bytes_from (value.Ptr b p) 0 (length (byte.Frag c q r ∷ xs))) y
        of false is e = cc
    found (byte.Num n ∷ xs) h = cc
    found (byte.Undef ∷ xs) h = cc
    found (byte.Poison ∷ xs) h = cc

    at : (p u : Bool) (n : Option ℕ) → cond p value.Poison (cond u value.Undef (defined_value kind.Ptr xs n)) ≡ value.Ptr b o → xs ≡ bytes_from (value.Ptr b o) 0 (length xs)
    at true u n e = cc
    at false true n e = cc
    at false false (Some n) e = cc
    at false false None e = found xs e

-- only numbers give a number
pub number_only : (width : ℕ) (xs : List Byte) (n : ℕ) → value_of (kind.Int width) xs ≡ value.Num n → (number_of xs ≡ Some n) × (n < 2 ^ width)
number_only width xs n h = at (list_any is_poison_byte xs) (list_any is_undef_byte xs) (number_of xs) h
  where
    at : (p u : Bool) (m : Option ℕ) → cond p value.Poison (cond u value.Undef (defined_value (kind.Int width) xs m)) ≡ value.Num n → (m ≡ Some n) × (n < 2 ^ width)
    at true u m e = cc
    at false true m e = cc
    at false false None e = cc
    at false false (Some m) e = of (nat_lt m (2 ^ width)) refl e
      where
        of : (t : Bool) → nat_lt m (2 ^ width) ≡ t → cond t (value.Num m) value.Undef ≡ value.Num n → (Some m ≡ Some n) × (n < 2 ^ width)
        of true is e = let x : m ≡ n = cc in (ap Some x, subst (λ z. z < 2 ^ width) x (ltb-true m (2 ^ width) is))
        of false is e = cc

-- A NEW BLOCK: undef bytes load as undef
undef_bytes : (place count size : ℕ) → count ≤ size → take count (replicate size byte.Undef) ≡ bytes_from value.Undef place count
undef_bytes place zero size h = refl
undef_bytes place (suc count) zero h = absurd (omega arith)
undef_bytes place (suc count) (suc size) h = ap (λ xs. byte.Undef ∷ xs) (undef_bytes (suc place) count size (omega arith))

pub fresh_undef : (k : Kind) (size : ℕ) → IsWide k → byte_count k ≤ size → value_of k (take (byte_count k) (replicate size byte.Undef)) ≡ value.Undef
fresh_undef k size wide fits = ap (value_of k) (undef_bytes 0 (byte_count k) size fits) ∙ value_again k value.Undef wide (lies k)
  where
    lies : (k : Kind) → IsInKind k value.Undef
    lies (kind.Int width) = tt
    lies kind.Ptr = tt

pub come_of_their_bytes : ValuesComeOfTheirBytes
come_of_their_bytes = record {
  pointer = pointer_only;
  number = number_only;
  poison = poison_first;
  undef = undef_second;
}
