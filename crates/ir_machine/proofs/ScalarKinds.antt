-- What has no bytes has no scalars, and each scalar is of a kind that there is.
use Rattle.std.proofs.Common.{◌≡◌, ◌∙◌, ◌<◌, ◌≤◌, ◌+◌, ◌*◌, ◌/◌, ℕ, zero, suc, max, Bool, true, false, cond, List, [], ◌∷◌, ◌++◌, map, Option, None, Some, refl, sym, ap, subst, inl, inr, arith}
use Rattle.std.specs.List.{AllByRecursion}
use Rattle.std.specs.Option.{option_map, is_some}
use Rattle.std.proofs.Math.Nat.{add-mul, one-mul, max-eq_left, max-eq_right}
use Rattle.std.proofs.Math.Pow.{pow_pos}
use Rattle.std.proofs.lemmas.Bool.{cases_lt}
use Rattle.ir_types.specs.declared.layout.Layout.{Layout}
use Rattle.ir_types.specs.declared.named.NamedTy.{NamedTy}
use Rattle.ir_types.specs.declared.names.Name.{Name}
use Rattle.ir_types.specs.declared.ty.Ty.{Ty, Int, Struct}
use Rattle.ir_types.specs.declared.ty.Ty.TheOpen as ty
use Rattle.ir_types.specs.Layout.{align_from, all_of, end_of, of_array, of_int, of_ptr, of_struct, power_from, round_up}
use Rattle.ir_types.specs.Named.{Found, align_in, fields_of, fields_or_none, found_in, is_sized, layout_of, size_in, size_of}
use Rattle.ir_types.specs.Same.{same_name}
use Rattle.ir_types.proofs.Capping.{at_most}
use Rattle.ir_types.proofs.Found.{split}
use Rattle.ir_types.proofs.Induction as fold
use Rattle.ir_types.proofs.Powers.{next_power}
use Rattle.ir_core.specs.declared.values.Kind.{Kind}
use Rattle.ir_core.specs.Types.{kind_of}
use Rattle.ir_values.specs.Values.{HasWidth}
use Rattle.ir_values.proofs.KindLaws.{kind_has_width}
use Rattle.ir_machine.specs.declared.scalars.Scalar.{Scalar}
use Rattle.ir_machine.specs.Scalars.{Part, alone, behind, in_array, in_struct, part_at, part_by, part_level, part_of_name, scalars_of}
use Rattle.ir_machine.specs.Walks.{IsWide, elements_in}
use Rattle.ir_machine.proofs.ScalarParts.{at_array, at_int, at_named, at_ptr, at_struct, at_void, layout_in, part_layout}
use Rattle.ir_machine.proofs.Walking.{array_of_none}

abbrev AreWide : List Scalar → Type 0
AreWide = AllByRecursion IsWide

abbrev IsBare : Layout → List Scalar → Type 0
IsBare l ss = (0 < l.align) × (l.size ≡ 0 → ss ≡ [])

abbrev IsSound : Part → Type 0
IsSound p = ((l : Layout) → p.layout ≡ Some l → IsBare l p.scalars) × AreWide p.scalars

-- ---- lists of scalars

wide_behind : (by : ℕ) (ss : List Scalar) → AreWide ss → AreWide (behind by ss)
wide_behind by [] all = tt
wide_behind by (s ∷ ss) all = (all.0, wide_behind by ss all.1)

wide_both : (ss ts : List Scalar) → AreWide ss → AreWide ts → AreWide (ss ++ ts)
wide_both [] ts all more = more
wide_both (s ∷ ss) ts all more = (all.0, wide_both ss ts all.1 more)

wide_array : (count from size : ℕ) (ss : List Scalar) → AreWide ss → AreWide (in_array count from size ss)
wide_array zero from size ss all = tt
wide_array (suc count) from size ss all =
    wide_both (behind from ss) (in_array count (from + size) size ss) (wide_behind from ss all) (wide_array count (from + size) size ss all)

wide_struct : (from : ℕ) (ps : List Part) → AllByRecursion IsSound ps → AreWide (in_struct from ps)
wide_struct from [] all = tt
wide_struct from (p ∷ ps) all =
    let at = round_up from (align_in p.layout) in
    wide_both (behind at p.scalars) (in_struct (at + size_in p.layout) ps) (wide_behind at p.scalars all.0.1) (wide_struct (at + size_in p.layout) ps all.1)

wide_alone : (o : Option Kind) → ((k : Kind) → o ≡ Some k → HasWidth k) → AreWide (alone o)
wide_alone None wide = tt
wide_alone (Some k) wide = (wide k refl, tt)

-- ---- types

some_is : {A : Type 0} {a b : A} → Some a ≡ Some b → a ≡ b
some_is e = cc

power_positive : (n : ℕ) → 0 < power_from n
power_positive n = let is = next_power n in subst (λ p. 0 < p) (sym is.0.1) (pow_pos is.0.0)

no_product : (n m : ℕ) → suc n * m ≡ 0 → m ≡ 0
no_product n m e =
    let one : 1 + n ≡ suc n = omega arith in
    let also : (1 + n) * m ≡ 0 = ap (λ k. k * m) one ∙ e in
    omega (arith, add-mul 1 n m, one-mul m)

int_sound : (width : ℕ) (ss : List Scalar) (l : Layout) → Some (of_int width) ≡ Some l → IsBare l ss
int_sound width ss l e =
    subst (λ m. IsBare m ss) (some_is e) (power_positive ((width + 7) / 8), λ none. absurd (omega (arith, power_positive ((width + 7) / 8))))

ptr_sound : (ss : List Scalar) (l : Layout) → Some of_ptr ≡ Some l → IsBare l ss
ptr_sound ss l e = subst (λ m. IsBare m ss) (some_is e) (omega arith, λ none. absurd (omega arith))

array_bare : (n : ℕ) (m : Layout) (ss : List Scalar) → IsBare m ss → IsBare (of_array n m) (in_array n 0 m.size ss)
array_bare zero m ss bare = (bare.0, λ none. refl)
array_bare (suc n) m ss bare =
    (bare.0, λ none. ap (in_array (suc n) 0 m.size) (bare.1 (no_product n m.size none)) ∙ array_of_none (suc n) 0 m.size)

array_sound : (n : ℕ) (o : Option Layout) (ss : List Scalar) → ((m : Layout) → o ≡ Some m → IsBare m ss) → (l : Layout) → option_map (of_array n) o ≡ Some l
    → IsBare l (in_array n 0 (size_in o) ss)
array_sound n None ss bare l e = cc
array_sound n (Some m) ss bare l e = subst (λ k. IsBare k (in_array n 0 m.size ss)) (some_is e) (array_bare n m ss (bare m refl))

-- the first layout and the others
abbrev Parted : Part → List Part → List Layout → Type 0
Parted p ps ls = (m : Layout) × (ms : List Layout) × (p.layout ≡ Some m) × (all_of (map layout_in ps) ≡ Some ms) × (ls ≡ m ∷ ms)

parted : (p : Part) (ps : List Part) (o : Option Layout) (os : Option (List Layout)) (ls : List Layout) → p.layout ≡ o → all_of (map layout_in ps) ≡ os
    → all_of (o ∷ map layout_in ps) ≡ Some ls → Parted p ps ls
parted p ps None os ls is more e = cc
parted p ps (Some m) None ls is more e = let no : option_map (λ ms. m ∷ ms) None ≡ Some ls = sym (ap (option_map (λ ms. m ∷ ms)) more) ∙ e in cc
parted p ps (Some m) (Some ms) ls is more e =
    let all : Some (m ∷ ms) ≡ Some ls = sym (ap (option_map (λ ns. m ∷ ns)) more) ∙ e in (m, ms, is, more, sym (some_is all))

-- fields end behind where they begin
ends_behind : (ps : List Part) → AllByRecursion IsSound ps → (from : ℕ) (ls : List Layout) → all_of (map layout_in ps) ≡ Some ls → from ≤ end_of from ls
ends_behind [] all from ls e = let none : [] ≡ ls = some_is e in subst (λ ms. from ≤ end_of from ms) none (omega arith)
ends_behind (p ∷ ps) all from ls e =
    let there = parted p ps p.layout (all_of (map layout_in ps)) ls refl refl e in
    let m = there.0 in
    let here = (all.0.0 m there.2).0 in
    subst (λ ms. from ≤ end_of from ms) (sym there.4)
    (omega (arith, at_most from m.align here, ends_behind ps all.1 (round_up from m.align + m.size) there.1 there.3))

no_fields : (ps : List Part) → AllByRecursion IsSound ps → (from : ℕ) (ls : List Layout) → all_of (map layout_in ps) ≡ Some ls → end_of from ls ≡ 0 → in_struct from ps ≡ []
no_fields [] all from ls e none = refl
no_fields (p ∷ ps) all from ls e none =
    let there = parted p ps p.layout (all_of (map layout_in ps)) ls refl refl e in
    let m = there.0 in
    let ends : end_of (round_up from m.align + m.size) there.1 ≡ 0 = ap (end_of from) (sym there.4) ∙ none in
    let size : m.size ≡ 0 = omega (arith, ends, ends_behind ps all.1 (round_up from m.align + m.size) there.1 there.3) in
    let own : p.scalars ≡ [] = (all.0.0 m there.2).1 size in
    let begins : round_up from (align_in p.layout) + size_in p.layout ≡ round_up from m.align + m.size = ap (λ o. round_up from (align_in o) + size_in o) there.2 in
    ap (λ ss. behind (round_up from (align_in p.layout)) ss ++ in_struct (round_up from (align_in p.layout) + size_in p.layout) ps) own
    ∙ ap (λ n. in_struct n ps) begins ∙ no_fields ps all.1 (round_up from m.align + m.size) there.1 there.3 ends

least_align : (least : ℕ) (ls : List Layout) → least ≤ align_from least ls
least_align least [] = omega arith
least_align least (l ∷ ls) = elim (cases_lt least l.align) [
  | inl less ↦ (let is : max least l.align ≡ l.align = max-eq_right (omega arith) in omega (arith, is, least_align (max least l.align) ls))
  | inr not ↦ (let is : max least l.align ≡ least = max-eq_left not in omega (arith, is, least_align (max least l.align) ls))
]

struct_sound : (ps : List Part) → AllByRecursion IsSound ps → (o : Option (List Layout)) → all_of (map layout_in ps) ≡ o → (l : Layout) → option_map of_struct o ≡ Some l
    → IsBare l (in_struct 0 ps)
struct_sound ps all None is l e = cc
struct_sound ps all (Some ls) is l e =
    let align : 0 < align_from 1 ls = omega (arith, least_align 1 ls) in
    subst (λ m. IsBare m (in_struct 0 ps)) (some_is e)
    (align, λ none. no_fields ps all 0 ls is (omega (arith, at_most (end_of 0 ls) (align_from 1 ls) align)))

module _ (f : Name → Part) (names : (x : Name) → IsSound (f x)) where
  abbrev Sound : Ty → Type 0
  Sound t = IsSound (part_by f t)

  each_sound : (ts : List Ty) → AllByRecursion Sound ts → AllByRecursion IsSound (map (part_by f) ts)
  each_sound [] all = tt
  each_sound (t ∷ ts) all = (all.0, each_sound ts all.1)

  pub all_sound : (t : Ty) → Sound t
  all_sound = fold.by_parts Sound
      (λ w. subst IsSound (sym (at_int f w)) (int_sound w (alone (kind_of (Int w))), wide_alone (kind_of (Int w)) (kind_has_width (Int w))))
      (λ t law. subst IsSound (sym (at_ptr f t)) (ptr_sound (part_level f (ty.Ptr (part_by f t))).scalars, (tt, tt)))
      (λ n t law. subst IsSound (sym (at_array f n t))
      (array_sound n (part_by f t).layout (part_by f t).scalars law.0, wide_array n 0 (size_in (part_by f t).layout) (part_by f t).scalars law.1))
      (λ ts all.
      let each = each_sound ts all in
      subst IsSound (sym (at_struct f ts)) (struct_sound (map (part_by f) ts) each (all_of (map layout_in (map (part_by f) ts))) refl, wide_struct 0 (map (part_by f) ts) each))
      (λ x. subst IsSound (sym (at_named f x)) (names x))
      (subst IsSound (sym (at_void f)) (λ l e. cc, tt))

module _ (types : List NamedTy) where
  names_sound : (found : Found) (x : Name) → IsSound (part_of_name types found x)
  names_sound [] x = (λ l e. cc, tt)
  names_sound (entry ∷ found) x = elim (split (same_name entry.0 x)) [
    | inl same ↦ rw same (all_sound (part_of_name types found) (names_sound found) (Struct (fields_or_none (fields_of types x))))
    | inr other ↦ rw other (names_sound found x)
  ]

  part_sound : (t : Ty) → IsSound (part_at types t)
  part_sound = all_sound (part_of_name types (found_in types)) (names_sound (found_in types))

  by_layout : (t : Ty) (at count : ℕ) (o : Option Layout) → layout_of types t ≡ o → is_some o ≡ true → size_in o ≡ 0 → elements_in types at t count ≡ []
  by_layout t at count None e sized none = cc
  by_layout t at count (Some l) e sized none =
      ap (in_array count at (size_of types t)) (((part_sound t).0 l (part_layout types t ∙ e)).1 none) ∙ array_of_none count at (size_of types t)

  pub none_there : (at count : ℕ) (t : Ty) → is_sized types t ≡ true → size_of types t ≡ 0 → elements_in types at t count ≡ []
  none_there at count t sized none = by_layout t at count (layout_of types t) refl sized none

  wide_if : (b : Bool) (ss : List Scalar) → AreWide ss → AreWide (cond b ss [])
  wide_if true ss all = all
  wide_if false ss all = tt

  pub scalars_are_wide : (t : Ty) → AreWide (scalars_of types t)
  scalars_are_wide t = wide_if (is_sized types t) (part_at types t).scalars (part_sound t).1
