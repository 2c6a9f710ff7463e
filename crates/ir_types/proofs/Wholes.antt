-- Sizes are multiples of alignments, which are powers of two; fields lie inside.
use Rattle.std.proofs.Common.{◌≡◌, ◌∙◌, ◌<◌, ◌≤◌, ◌+◌, ◌-◌, ◌*◌, ◌/◌, ℕ, zero, suc, max, List, [], ◌∷◌, length, map, Option, None, Some, refl, sym, ap, subst, inl, inr, arith}
use Rattle.std.proofs.Math.Nat.{max-eq_left, max-eq_right, mul_assoc, one-mul}
use Rattle.std.proofs.Math.Pow.{pow_pos}
use Rattle.std.proofs.lemmas.Bool.{cases_lt}
use Rattle.std.specs.Int.{IsPowerOfTwo}
use Rattle.std.specs.List.{AllByRecursion}
use Rattle.std.specs.Option.{option_map}
use Rattle.ir_types.specs.declared.layout.Layout.{Layout}
use Rattle.ir_types.specs.declared.named.NamedTy.{NamedTy}
use Rattle.ir_types.specs.declared.names.Name.{Name}
use Rattle.ir_types.specs.declared.ty.Ty.{Ty, Int, Ptr, Array, Struct, Named, Void}
use Rattle.ir_types.specs.Layout.{round_up, power_from, of_int, of_ptr, of_array, end_of, align_from, offset_from, of_struct, all_of, layout_by}
use Rattle.ir_types.specs.Named.{Found, layout_of_name, AreFound, found_in, layout_of}
use Rattle.ir_types.specs.Same.{same_name}
use Rattle.ir_types.proofs.Capping.{at_most}
use Rattle.ir_types.proofs.Found.{split, at_own, at_other}
use Rattle.ir_types.proofs.Induction as fold
use Rattle.ir_types.proofs.Monotone.{at_int, at_ptr, at_array, at_struct, at_named, at_void}
use Rattle.ir_types.proofs.Powers.{next_power}
use Rattle.ir_types.proofs.Rounds.{are_found}

-- so many times its alignment, a power of two
pub record IsWhole (l : Layout) : Type 0 where
  pub power : IsPowerOfTwo l.align
  pub count : ℕ
  pub is : l.size ≡ count * l.align

pub positive : (n : ℕ) → IsPowerOfTwo n → 0 < n
positive n power = subst (λ m. 0 < m) (sym power.1) (pow_pos power.0)

int_whole : (width : ℕ) → IsWhole (of_int width)
int_whole width = record { power = (next_power ((width + 7) / 8)).0; count = 1; is = sym (one-mul (power_from ((width + 7) / 8))) }

ptr_whole : IsWhole of_ptr
ptr_whole = record { power = (3, refl); count = 1; is = refl }

array_whole : (n : ℕ) (l : Layout) → IsWhole l → IsWhole (of_array n l)
array_whole n l whole = record { power = whole.power; count = n * whole.count; is = ap (λ s. n * s) whole.is ∙ sym (mul_assoc n whole.count l.align) }

greater_power : (a b : ℕ) → IsPowerOfTwo a → IsPowerOfTwo b → IsPowerOfTwo (max a b)
greater_power a b p q = elim (cases_lt a b) [
  | inl less ↦ subst IsPowerOfTwo (sym (max-eq_right (omega arith))) q
  | inr not ↦ subst IsPowerOfTwo (sym (max-eq_left not)) p
]

pub align_power : (least : ℕ) (ls : List Layout) → IsPowerOfTwo least → AllByRecursion IsWhole ls → IsPowerOfTwo (align_from least ls)
align_power least [] power all = power
align_power least (l ∷ ls) power all = align_power (max least l.align) ls (greater_power least l.align power all.0.power) all.1

struct_whole : (ls : List Layout) → AllByRecursion IsWhole ls → IsWhole (of_struct ls)
struct_whole ls all = record {
  power = align_power 1 ls (0, refl) all;
  count = (end_of 0 ls + (align_from 1 ls - 1)) / align_from 1 ls;
  is = refl;
}

-- ---- types

abbrev AreWhole : Option Layout → Type 0
AreWhole o = (l : Layout) → o ≡ Some l → IsWhole l

abbrev AllAreWhole : Option (List Layout) → Type 0
AllAreWhole o = (ls : List Layout) → o ≡ Some ls → AllByRecursion IsWhole ls

some_is : {A : Type 0} (a b : A) → Some a ≡ Some b → a ≡ b
some_is a b e = cc

of_one : (n : ℕ) (o : Option Layout) → AreWhole o → AreWhole (option_map (of_array n) o)
of_one n None all l e = cc
of_one n (Some m) all l e = subst IsWhole (some_is (of_array n m) l e) (array_whole n m (all m refl))

of_all : (o : Option (List Layout)) → AllAreWhole o → AreWhole (option_map of_struct o)
of_all None all l e = cc
of_all (Some ls) all l e = subst IsWhole (some_is (of_struct ls) l e) (struct_whole ls (all ls refl))

joined : (m : Layout) (o : Option (List Layout)) → IsWhole m → AllAreWhole o → AllAreWhole (option_map (λ ls. m ∷ ls) o)
joined m None whole all ls e = cc
joined m (Some ms) whole all ls e = subst (AllByRecursion IsWhole) (some_is (m ∷ ms) ls e) (whole, all ms refl)

more : (o : Option Layout) (os : List (Option Layout)) → AreWhole o → AllAreWhole (all_of os) → AllAreWhole (all_of (o ∷ os))
more None os whole all ls e = cc
more (Some m) os whole all ls e = joined m (all_of os) (whole m refl) all ls e

module _ (g : Name → Option Layout) (names : (x : Name) → AreWhole (g x)) where
  abbrev IsWholeType : Ty → Type 0
  IsWholeType t = AreWhole (layout_by g t)

  by : (t : Ty) (o : Option Layout) → layout_by g t ≡ o → AreWhole o → IsWholeType t
  by t o e whole l is = whole l (sym e ∙ is)

  fields_whole : (ts : List Ty) → AllByRecursion IsWholeType ts → AllAreWhole (all_of (map (layout_by g) ts))
  fields_whole [] all ls e = subst (AllByRecursion IsWhole) (some_is [] ls e) tt
  fields_whole (t ∷ ts) all ls e = more (layout_by g t) (map (layout_by g) ts) all.0 (fields_whole ts all.1) ls e

  types_whole : (t : Ty) → AreWhole (layout_by g t)
  types_whole = fold.by_parts IsWholeType
      (λ w. by (Int w) (Some (of_int w)) (at_int g w) (λ l e. subst IsWhole (some_is (of_int w) l e) (int_whole w)))
      (λ t whole. by (Ptr t) (Some of_ptr) (at_ptr g t) (λ l e. subst IsWhole (some_is of_ptr l e) ptr_whole))
      (λ n t whole. by (Array n t) (option_map (of_array n) (layout_by g t)) (at_array g n t) (of_one n (layout_by g t) whole))
      (λ ts all. by (Struct ts) (option_map of_struct (all_of (map (layout_by g) ts))) (at_struct g ts) (of_all (all_of (map (layout_by g) ts)) (fields_whole ts all)))
      (λ x. by (Named x) (g x) (at_named g x) (names x))
      (by Void None (at_void g) (λ l e. cc))

found_whole : (types : List NamedTy) (found : Found) → AreFound types found → (x : Name) → AreWhole (layout_of_name found x)
found_whole types [] are x l e = cc
found_whole types (entry ∷ found) are x l e = elim (split (same_name entry.0 x)) [
  | inl same ↦ types_whole (layout_of_name found) (found_whole types found are.1) (Struct are.0.fields) l
      (are.0.by_found ∙ sym (at_own entry found x same) ∙ e)
  | inr other ↦ found_whole types found are.1 x l (sym (at_other entry found x other) ∙ e)
]

-- a layout is whole
pub layouts_are_whole : (types : List NamedTy) (t : Ty) (l : Layout) → layout_of types t ≡ Some l → IsWhole l
layouts_are_whole types = types_whole (layout_of_name (found_in types)) (found_whole types (found_in types) (are_found types))

whole_parts : (types : List NamedTy) (ts : List Ty) → AllByRecursion (λ t. AreWhole (layout_of types t)) ts
whole_parts types [] = tt
whole_parts types (t ∷ ts) = (layouts_are_whole types t, whole_parts types ts)

pub fields_are_whole : (types : List NamedTy) (ts : List Ty) (ls : List Layout) → all_of (map (layout_of types) ts) ≡ Some ls → AllByRecursion IsWhole ls
fields_are_whole types ts =
    fields_whole (layout_of_name (found_in types)) (found_whole types (found_in types) (are_found types)) ts (whole_parts types ts)

-- ---- fields lie inside

pub end_behind : (from : ℕ) (ls : List Layout) → AllByRecursion IsWhole ls → from ≤ end_of from ls
end_behind from [] all = omega arith
end_behind from (l ∷ ls) all =
    omega (arith, at_most from l.align (positive l.align all.0.power), end_behind (round_up from l.align + l.size) ls all.1)

pub field_inside : (from : ℕ) (ls : List Layout) → AllByRecursion IsWhole ls → (k : ℕ) → k < length ls → offset_from from ls k ≤ end_of from ls
field_inside from [] all k inside = absurd (omega arith)
field_inside from (l ∷ ls) all zero inside = omega (arith, end_behind (round_up from l.align + l.size) ls all.1)
field_inside from (l ∷ ls) all (suc k) inside = field_inside (round_up from l.align + l.size) ls all.1 k (omega arith)

pub struct_inside : (ls : List Layout) → AllByRecursion IsWhole ls → (k : ℕ) → k < length ls → offset_from 0 ls k ≤ (of_struct ls).size
struct_inside ls all k inside =
    omega (arith, field_inside 0 ls all k inside, at_most (end_of 0 ls) (align_from 1 ls) (positive (align_from 1 ls) (align_power 1 ls (0, refl) all)))
