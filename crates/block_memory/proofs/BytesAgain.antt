-- The value of a value's bytes; bytes of related values, and values of related bytes; values in their kinds.
use Rattle.std.proofs.Common.{◌≡◌, ◌≢◌, ℕ, ℤ, zero, suc, ◌+◌, ◌*◌, ◌/◌, ◌%◌, ◌^◌, ◌<◌, ◌≤◌, Bool, true, false, ◌&&◌, cond, nat_eq, nat_lt, List, [], ◌∷◌, length, Option, None, Some, refl, sym, ap, subst, ◌∙◌, arith, lt-ltb, eq-eqb}
use Rattle.std.specs.List.{list_any, AllZip}
use Rattle.std.specs.Ordering.{int_eq}
use Rattle.std.proofs.lemmas.Bool.{or_from, and_parts, and_from}
use Rattle.std.proofs.lemmas.Bool.Decides.{Decides-int_eq}
use Rattle.std.proofs.lemmas.Nat.{mod-pow-add, shr-shr}
use Rattle.std.proofs.Math.Nat.{pow-le-pow_right, mod-eq_of_lt}
use Rattle.ir_core.specs.declared.values.Value.{Value}
use Rattle.ir_core.specs.declared.values.Value.TheVariants as value
use Rattle.ir_core.specs.declared.values.Byte.{Byte}
use Rattle.ir_core.specs.declared.values.Byte.TheVariants as byte
use Rattle.ir_core.specs.declared.values.Kind.{Kind}
use Rattle.ir_core.specs.declared.values.Kind.TheVariants as kind
use Rattle.block_memory.specs.Bytes.{byte_count, byte_at, bytes_from, bytes_of, is_poison_byte, is_undef_byte, with_low, number_of, is_fragment, are_fragments, pointer_of, defined_value, value_of, IsWide}
use Rattle.ir_values.specs.Related.{ArePaired, IsByteNotPoison, IsByteRelated, IsOneToOne, IsRelated, Pairing}
use Rattle.ir_values.specs.Values.{IsInKind, IsNotPoison}

-- SMALL LAWS
int_same : (o : ℤ) → int_eq o o ≡ true
int_same o = (Decides-int_eq o o).1 refl

nat_same : (n : ℕ) → nat_eq n n ≡ true
nat_same n = eq-eqb n n refl

-- BYTES OF A VALUE
pub bytes_length : (v : Value) (place count : ℕ) → length (bytes_from v place count) ≡ count
bytes_length v place zero = refl
bytes_length v place (suc count) = ap suc (bytes_length v (suc place) count)

-- a test that fails at each byte of a value
pub none_of : (test : Byte → Bool) (v : Value) → ((place : ℕ) → test (byte_at v place) ≡ false) → (place count : ℕ) → list_any test (bytes_from v place count) ≡ false
none_of test v none place zero = refl
none_of test v none place (suc count) = or_from (test (byte_at v place)) (list_any test (bytes_from v (suc place) count)) (none place) (none_of test v none (suc place) count)

-- the bytes of a number spell its remainder
pub low_number : (n place count : ℕ) → number_of (bytes_from (value.Num n) place count) ≡ Some (n / 2 ^ (8 * place) % 2 ^ (8 * count))
low_number n place zero = let e : 0 ≡ n / 2 ^ (8 * place) % 2 ^ (8 * 0) = omega arith in ap Some e
low_number n place (suc count) =
    let m : ℕ = n / 2 ^ (8 * place) in
    let next : 8 * suc place ≡ 8 * place + 8 = omega arith in
    let high : n / 2 ^ (8 * suc place) ≡ n / 2 ^ (8 * place) / 256 = ap (λ i. n / 2 ^ i) next ∙ sym (shr-shr n (8 * place) 8) in
    let e : 8 * suc count ≡ 8 * count + 8 = omega arith in
    let f : n / 2 ^ (8 * place) % 2 ^ (8 * count + 8) ≡ (n / 2 ^ (8 * place) / 256 % 2 ^ (8 * count)) * 256 + n / 2 ^ (8 * place) % 256 = mod-pow-add (n / 2 ^ (8 * place)) (8 * count) 8 in
    let g : n / 2 ^ (8 * place) % 256 + 256 * (n / 2 ^ (8 * place) / 256 % 2 ^ (8 * count)) ≡ n / 2 ^ (8 * place) % 2 ^ (8 * count + 8) = omega arith in
    ap (with_low (n / 2 ^ (8 * place) % 256)) (low_number n (suc place) count ∙ ap (λ i. Some (i % 2 ^ (8 * count))) high)
    ∙ ap Some (g ∙ ap (λ i. n / 2 ^ (8 * place) % 2 ^ i) (sym e))

pub number_again : (n count : ℕ) → n < 2 ^ (8 * count) → number_of (bytes_of count (value.Num n)) ≡ Some n
number_again n count below =
    let e : n / 2 ^ (8 * 0) ≡ n = omega arith in
    low_number n 0 count ∙ ap (λ i. Some (i % 2 ^ (8 * count))) e ∙ ap Some (mod-eq_of_lt below)

bare_bytes : (n place count : ℕ) → bytes_from (value.Bare n) place count ≡ bytes_from (value.Num n) place count
bare_bytes n place zero = refl
bare_bytes n place (suc count) = ap (λ xs. byte.Num (n / 2 ^ (8 * place) % 256) ∷ xs) (bare_bytes n (suc place) count)

pub fragments_again : (b : ℕ) (o : ℤ) (place count : ℕ) → are_fragments b o place (bytes_from (value.Ptr b o) place count) ≡ true
fragments_again b o place zero = refl
fragments_again b o place (suc count) = and_from (nat_eq b b && (int_eq o o && nat_eq place place)) (are_fragments b o (suc place) (bytes_from (value.Ptr b o) (suc place) count))
    (and_from (nat_eq b b) (int_eq o o && nat_eq place place) (nat_same b) (and_from (int_eq o o) (nat_eq place place) (int_same o) (nat_same place)))
    (fragments_again b o (suc place) count)

room : (width : ℕ) → 2 ^ width ≤ 2 ^ (8 * ((width + 7) / 8))
room width =
    let k : width ≤ 8 * ((width + 7) / 8) = omega arith in
    let two : 0 < 2 = omega arith in
    pow-le-pow_right two k

-- bytes that are neither poison nor undef
pub defined : (k : Kind) (xs : List Byte) → list_any is_poison_byte xs ≡ false → list_any is_undef_byte xs ≡ false → value_of k xs ≡ defined_value k xs (number_of xs)
defined k xs p u =
    ap (λ t. cond t value.Poison (cond (list_any is_undef_byte xs) value.Undef (defined_value k xs (number_of xs)))) p
    ∙ ap (λ t. cond t value.Undef (defined_value k xs (number_of xs))) u

undef_value : (k : Kind) (count : ℕ) → 1 ≤ count → value_of k (bytes_of count value.Undef) ≡ value.Undef
undef_value k zero h = absurd (omega arith)
undef_value k (suc count) h =
    ap (λ t. cond t value.Poison (cond (list_any is_undef_byte (bytes_of (suc count) value.Undef)) value.Undef (defined_value k (bytes_of (suc count) value.Undef) (number_of (bytes_of (suc count) value.Undef)))))
    (none_of is_poison_byte value.Undef (λ place. refl) 0 (suc count))

poison_value : (k : Kind) (count : ℕ) → 1 ≤ count → value_of k (bytes_of count value.Poison) ≡ value.Poison
poison_value k zero h = absurd (omega arith)
poison_value k (suc count) h = refl

-- so many bytes of a number that fits them, at any kind
pub numbers_value : (k : Kind) (count n : ℕ) → n < 2 ^ (8 * count) → value_of k (bytes_of count (value.Num n)) ≡ defined_value k (bytes_of count (value.Num n)) (Some n)
numbers_value k count n below =
    defined k (bytes_of count (value.Num n)) (none_of is_poison_byte (value.Num n) (λ place. refl) 0 count) (none_of is_undef_byte (value.Num n) (λ place. refl) 0 count)
    ∙ ap (defined_value k (bytes_of count (value.Num n))) (number_again n count below)

-- THE VALUE OF ITS BYTES IS A VALUE OF THE KIND
pub value_again : (k : Kind) (v : Value) → IsWide k → IsInKind k v → value_of k (bytes_of (byte_count k) v) ≡ v
value_again (kind.Int width) (value.Num n) h is =
    let k : 2 ^ width ≤ 2 ^ (8 * ((width + 7) / 8)) = room width in
    let below : n < 2 ^ (8 * ((width + 7) / 8)) = omega arith in
    numbers_value (kind.Int width) ((width + 7) / 8) n below ∙ ap (λ t. cond t (value.Num n) value.Undef) (lt-ltb n (2 ^ width) is)
value_again (kind.Int width) (value.Ptr b o) h is = absurd is
value_again (kind.Int width) (value.Bare a) h is = absurd is
value_again (kind.Int width) value.Undef h is = undef_value (kind.Int width) ((width + 7) / 8) (omega arith)
value_again (kind.Int width) value.Poison h is = poison_value (kind.Int width) ((width + 7) / 8) (omega arith)
value_again kind.Ptr (value.Num n) h is = absurd is
value_again kind.Ptr (value.Ptr b o) h is =
    defined kind.Ptr (bytes_of 8 (value.Ptr b o)) refl refl ∙ ap (λ t. cond t (value.Ptr b o) value.Undef) (fragments_again b o 0 8)
value_again kind.Ptr (value.Bare a) h is = ap (value_of kind.Ptr) (bare_bytes a 0 8) ∙ numbers_value kind.Ptr 8 a is
value_again kind.Ptr value.Undef h is = refl
value_again kind.Ptr value.Poison h is = refl

-- BYTES OF RELATED VALUES
module _ (ps : Pairing) where
  byte_alike : (v w : Value) → IsRelated ps v w → (place : ℕ) → IsByteRelated ps (byte_at v place) (byte_at w place)
  byte_alike value.Poison w h place = tt
  byte_alike value.Undef (value.Num n) h place = tt
  byte_alike value.Undef (value.Ptr b o) h place = tt
  byte_alike value.Undef (value.Bare n) h place = tt
  byte_alike value.Undef value.Undef h place = tt
  byte_alike value.Undef value.Poison h place = absurd h
  byte_alike (value.Num n) w h place = ap (λ v. byte_at v place) h
  byte_alike (value.Bare n) w h place = ap (λ v. byte_at v place) h
  byte_alike (value.Ptr b o) w h place = (h.0, h.1, ap (λ v. byte_at v place) h.2)

  pub bytes_alike : (v w : Value) → IsRelated ps v w → (place count : ℕ) → AllZip (IsByteRelated ps) (bytes_from v place count) (bytes_from w place count)
  bytes_alike v w h place zero = tt
  bytes_alike v w h place (suc count) = (byte_alike v w h place, bytes_alike v w h (suc place) count)

-- VALUES OF RELATED BYTES
unless_poison : (v : Value) → v ≢ value.Poison → IsNotPoison v
unless_poison value.Poison h = absurd (h refl)
unless_poison value.Undef h = tt
unless_poison (value.Num n) h = tt
unless_poison (value.Ptr b o) h = tt
unless_poison (value.Bare n) h = tt

module _ (ps : Pairing) (one : IsOneToOne ps) where
  -- where no byte of the source is poison, no byte of the target is; and so for undef
  not_poison : (xs ys : List Byte) → AllZip (IsByteRelated ps) xs ys → list_any is_poison_byte xs ≡ false → list_any is_poison_byte ys ≡ false
  not_poison [] [] h none = refl
  not_poison [] (y ∷ ys) h none = absurd h
  not_poison (x ∷ xs) [] h none = absurd h
  not_poison (byte.Num n ∷ xs) (y ∷ ys) h none = or_from (is_poison_byte y) (list_any is_poison_byte ys) (ap is_poison_byte h.0) (not_poison xs ys h.1 none)
  not_poison (byte.Frag b o p ∷ xs) (y ∷ ys) h none = or_from (is_poison_byte y) (list_any is_poison_byte ys) (ap is_poison_byte h.0.2) (not_poison xs ys h.1 none)
  not_poison (byte.Undef ∷ xs) (y ∷ ys) h none = or_from (is_poison_byte y) (list_any is_poison_byte ys) (is y h.0) (not_poison xs ys h.1 none)
    where
      is : (y : Byte) → IsByteNotPoison y → is_poison_byte y ≡ false
      is (byte.Num n) h = refl
      is (byte.Frag b o p) h = refl
      is byte.Undef h = refl
      is byte.Poison h = absurd h
  not_poison (byte.Poison ∷ xs) (y ∷ ys) h none = cc

  not_undef : (xs ys : List Byte) → AllZip (IsByteRelated ps) xs ys → list_any is_poison_byte xs ≡ false → list_any is_undef_byte xs ≡ false → list_any is_undef_byte ys ≡ false
  not_undef [] [] h none clean = refl
  not_undef [] (y ∷ ys) h none clean = absurd h
  not_undef (x ∷ xs) [] h none clean = absurd h
  not_undef (byte.Num n ∷ xs) (y ∷ ys) h none clean = or_from (is_undef_byte y) (list_any is_undef_byte ys) (ap is_undef_byte h.0) (not_undef xs ys h.1 none clean)
  not_undef (byte.Frag b o p ∷ xs) (y ∷ ys) h none clean = or_from (is_undef_byte y) (list_any is_undef_byte ys) (ap is_undef_byte h.0.2) (not_undef xs ys h.1 none clean)
  not_undef (byte.Undef ∷ xs) (y ∷ ys) h none clean = cc
  not_undef (byte.Poison ∷ xs) (y ∷ ys) h none clean = cc

  same_number : (xs ys : List Byte) → AllZip (IsByteRelated ps) xs ys → list_any is_poison_byte xs ≡ false → list_any is_undef_byte xs ≡ false → number_of xs ≡ number_of ys
  same_number [] [] h none clean = refl
  same_number [] (y ∷ ys) h none clean = absurd h
  same_number (x ∷ xs) [] h none clean = absurd h
  same_number (byte.Num n ∷ xs) (y ∷ ys) h none clean =
      subst (λ z. with_low n (number_of xs) ≡ number_of (z ∷ ys)) (sym h.0) (ap (with_low n) (same_number xs ys h.1 none clean))
  same_number (byte.Frag b o p ∷ xs) (y ∷ ys) h none clean = subst (λ z. None ≡ number_of (z ∷ ys)) (sym h.0.2) refl
  same_number (byte.Undef ∷ xs) (y ∷ ys) h none clean = cc
  same_number (byte.Poison ∷ xs) (y ∷ ys) h none clean = cc

  -- the fragments of a pointer are related to those of the pointer to the block's partner
  frags_alike : (b c : ℕ) (o : ℤ) → ArePaired ps b c → (p : ℕ) (xs ys : List Byte) → AllZip (IsByteRelated ps) xs ys → are_fragments b o p xs ≡ true → are_fragments c o p ys ≡ true
  frags_alike b c o pair p [] [] h is = refl
  frags_alike b c o pair p [] (y ∷ ys) h is = absurd h
  frags_alike b c o pair p (x ∷ xs) [] h is = absurd h
  frags_alike b c o pair p (byte.Frag d q r ∷ xs) (y ∷ ys) h is =
      let parts = and_parts (nat_eq d b && (int_eq q o && nat_eq r p)) (are_fragments b o (suc p) xs) is in
      let first = and_parts (nat_eq d b) (int_eq q o && nat_eq r p) parts.0 in
      let partner : nat_eq h.0.0 c ≡ true = sym (one d h.0.0 b c h.0.1 pair) ∙ first.0 in
      and_from (is_fragment c o p y) (are_fragments c o (suc p) ys)
      (ap (is_fragment c o p) h.0.2 ∙ and_from (nat_eq h.0.0 c) (int_eq q o && nat_eq r p) partner first.1)
      (frags_alike b c o pair (suc p) xs ys h.1 parts.1)
  frags_alike b c o pair p (byte.Num n ∷ xs) (y ∷ ys) h is = cc
  frags_alike b c o pair p (byte.Undef ∷ xs) (y ∷ ys) h is = cc
  frags_alike b c o pair p (byte.Poison ∷ xs) (y ∷ ys) h is = cc

  pointer_sound : (ys : List Byte) → pointer_of ys ≢ value.Poison
  pointer_sound [] e = cc
  pointer_sound (byte.Frag b o p ∷ ys) e = at (are_fragments b o 0 (byte.Frag b o p ∷ ys)) e
    where
      at : (t : Bool) → cond t (value.Ptr b o) value.Undef ≢ value.Poison
      at true e = cc
      at false e = cc
  pointer_sound (byte.Num n ∷ ys) e = cc
  pointer_sound (byte.Undef ∷ ys) e = cc
  pointer_sound (byte.Poison ∷ ys) e = cc

  defined_sound : (k : Kind) (ys : List Byte) (n : Option ℕ) → defined_value k ys n ≢ value.Poison
  defined_sound (kind.Int width) ys (Some n) e = at (nat_lt n (2 ^ width)) e
    where
      at : (t : Bool) → cond t (value.Num n) value.Undef ≢ value.Poison
      at true e = cc
      at false e = cc
  defined_sound (kind.Int width) ys None e = cc
  defined_sound kind.Ptr ys (Some n) e = cc
  defined_sound kind.Ptr ys None e = pointer_sound ys e

  pointer_alike : (xs ys : List Byte) → AllZip (IsByteRelated ps) xs ys → IsRelated ps (pointer_of xs) (pointer_of ys)
  pointer_alike [] ys h = unless_poison (pointer_of ys) (pointer_sound ys)
  pointer_alike (x ∷ xs) [] h = absurd h
  pointer_alike (byte.Frag b o p ∷ xs) (y ∷ ys) h = at (are_fragments b o 0 (byte.Frag b o p ∷ xs)) refl
    where
      at : (t : Bool) → are_fragments b o 0 (byte.Frag b o p ∷ xs) ≡ t → IsRelated ps (cond t (value.Ptr b o) value.Undef) (pointer_of (y ∷ ys))
      at true is = (
        h.0.0,
        h.0.1,
        ap (λ z. pointer_of (z ∷ ys)) h.0.2
            ∙ ap (λ t. cond t (value.Ptr h.0.0 o) value.Undef) (
            frags_alike b h.0.0 o h.0.1 0 (byte.Frag b o p ∷ xs) (byte.Frag h.0.0 o p ∷ ys) ((h.0.0, h.0.1, refl), h.1) is),
      )
      at false is = unless_poison (pointer_of (y ∷ ys)) (pointer_sound (y ∷ ys))
  pointer_alike (byte.Num n ∷ xs) (y ∷ ys) h = unless_poison (pointer_of (y ∷ ys)) (pointer_sound (y ∷ ys))
  pointer_alike (byte.Undef ∷ xs) (y ∷ ys) h = unless_poison (pointer_of (y ∷ ys)) (pointer_sound (y ∷ ys))
  pointer_alike (byte.Poison ∷ xs) (y ∷ ys) h = unless_poison (pointer_of (y ∷ ys)) (pointer_sound (y ∷ ys))

  defined_alike : (k : Kind) (xs ys : List Byte) (n : Option ℕ) → AllZip (IsByteRelated ps) xs ys → IsRelated ps (defined_value k xs n) (defined_value k ys n)
  defined_alike (kind.Int width) xs ys (Some n) h = at (nat_lt n (2 ^ width))
    where
      at : (t : Bool) → IsRelated ps (cond t (value.Num n) value.Undef) (cond t (value.Num n) value.Undef)
      at true = refl
      at false = tt
  defined_alike (kind.Int width) xs ys None h = tt
  defined_alike kind.Ptr xs ys (Some n) h = refl
  defined_alike kind.Ptr xs ys None h = pointer_alike xs ys h

  value_sound : (k : Kind) (ys : List Byte) → list_any is_poison_byte ys ≡ false → value_of k ys ≢ value.Poison
  value_sound k ys none e = at (list_any is_undef_byte ys)
      (sym (ap (λ t. cond t value.Poison (cond (list_any is_undef_byte ys) value.Undef (defined_value k ys (number_of ys)))) none) ∙ e)
    where
      at : (t : Bool) → cond t value.Undef (defined_value k ys (number_of ys)) ≢ value.Poison
      at true e = cc
      at false e = defined_sound k ys (number_of ys) e

  pub value_alike : (k : Kind) (xs ys : List Byte) → AllZip (IsByteRelated ps) xs ys → IsRelated ps (value_of k xs) (value_of k ys)
  value_alike k xs ys h = at (list_any is_poison_byte xs) refl (list_any is_undef_byte xs) refl
    where
      at : (p : Bool) → list_any is_poison_byte xs ≡ p → (u : Bool) → list_any is_undef_byte xs ≡ u
          → IsRelated ps (cond p value.Poison (cond u value.Undef (defined_value k xs (number_of xs)))) (value_of k ys)
      at true e u f = tt
      at false e true f = unless_poison (value_of k ys) (value_sound k ys (not_poison xs ys h e))
      at false e false f = subst (IsRelated ps (defined_value k xs (number_of xs)))
          (sym (defined k ys (not_poison xs ys h e) (not_undef xs ys h e f) ∙ ap (defined_value k ys) (sym (same_number xs ys h e f))))
          (defined_alike k xs ys (number_of xs) h)
