-- The rounds find each name that can be: one that finds none is the last that could, and each other leaves fewer to find.
use Rattle.std.proofs.Common.{◌≡◌, ◌∙◌, ◌<◌, ◌≤◌, ◌+◌, ◌⊎◌, ◌↔◌, ℕ, zero, suc, true, cond, List, [], ◌∷◌, length, Option, None, Some, refl, sym, ap, subst, inl, inr, arith}
use Rattle.std.specs.List.{AllByRecursion}
use Rattle.std.specs.Option.{option_and_then}
use Rattle.ir_types.specs.declared.layout.Layout.{Layout}
use Rattle.ir_types.specs.declared.named.NamedTy.{NamedTy}
use Rattle.ir_types.specs.declared.names.Name.{Name}
use Rattle.ir_types.specs.declared.ty.Ty.{Ty, Struct}
use Rattle.ir_types.specs.Layout.{layout_by}
use Rattle.ir_types.specs.Named.{fields_of, Found, layout_of_name, IsNext, AreFound, HasLayout, layout_of_struct, and_name, with_name, with_names, with_rounds, found_in, layout_of}
use Rattle.ir_types.specs.Laws.{LayoutsAreOne, NamesAreStructs, PointersHaveLayouts}
use Rattle.ir_types.specs.NameLaws.{same_name_true, same_name_refl}
use Rattle.ir_types.specs.Same.{same_name}
use Rattle.ir_types.proofs.Monotone.{layouts_below, at_named, at_ptr}
use Rattle.ir_types.proofs.Found.{struct_is, split, at_own, at_other, found_is_struct, all_found}

-- ---- the names are found one after the other

module _ (types : List NamedTy) where
  next_of : (found : Found) (x : Name) (l : Layout) → layout_of_name found x ≡ None → (fs : Option (List Ty)) → fields_of types x ≡ fs →
      option_and_then (λ fields. layout_by (layout_of_name found) (Struct fields)) fs ≡ Some l → IsNext types found x l
  next_of found x l new None e q = cc
  next_of found x l new (Some fields) e q = record { fields = fields; is_new = new; is_struct = e; by_found = q }

  name_found : (found : Found) → AreFound types found → (x : Name) (known : Option Layout) → layout_of_name found x ≡ known →
      (layout : Option Layout) → layout_of_struct types found x ≡ layout → AreFound types (and_name x found known layout)
  name_found found are x (Some k) p layout q = are
  name_found found are x None p None q = are
  name_found found are x None p (Some l) q = (next_of found x l p (fields_of types x) refl q, are)

  names_found : (ts : List NamedTy) (found : Found) → AreFound types found → AreFound types (with_names types ts found)
  names_found [] found are = are
  names_found (t ∷ ts) found are =
      names_found ts (with_name types found t.name) (name_found found are t.name (layout_of_name found t.name) refl (layout_of_struct types found t.name) refl)

  rounds_found : (n : ℕ) (found : Found) → AreFound types found → AreFound types (with_rounds n types found)
  rounds_found zero found are = are
  rounds_found (suc n) found are = rounds_found n (with_names types types found) (names_found types found are)

  pub are_found : AreFound types (found_in types)
  are_found = rounds_found (length types) [] tt

-- ---- how many are still to find

abbrev pub one_where_none : Option Layout → ℕ
one_where_none None = 1
one_where_none (Some l) = 0

abbrev pub missing : List NamedTy → Found → ℕ
missing [] found = 0
missing (t ∷ ts) found = one_where_none (layout_of_name found t.name) + missing ts found

abbrev pub Occurs : List NamedTy → Name → Type 0
Occurs [] x = ⊥
Occurs (t ∷ ts) x = (t.name ≡ x) ⊎ Occurs ts x

one_is_less : (entry : Name × Layout) (found : Found) (y : Name) → one_where_none (layout_of_name (entry ∷ found) y) ≤ one_where_none (layout_of_name found y)
one_is_less entry found y = elim (split (same_name entry.0 y)) [
  | inl same ↦ (let none : one_where_none (layout_of_name (entry ∷ found) y) ≡ 0 = ap one_where_none (at_own entry found y same) in omega arith)
  | inr other ↦ (let kept : one_where_none (layout_of_name (entry ∷ found) y) ≡ one_where_none (layout_of_name found y) =
      ap one_where_none (at_other entry found y other) in omega arith)
]

none_more : (entry : Name × Layout) (found : Found) (ts : List NamedTy) → missing ts (entry ∷ found) ≤ missing ts found
none_more entry found [] = omega arith
none_more entry found (t ∷ ts) = omega (arith, one_is_less entry found t.name, none_more entry found ts)

pub one_less : (entry : Name × Layout) (found : Found) → layout_of_name found entry.0 ≡ None → (ts : List NamedTy) → Occurs ts entry.0 →
    missing ts (entry ∷ found) < missing ts found
one_less entry found new [] occurs = absurd occurs
one_less entry found new (t ∷ ts) (inl own) =
    let same : same_name entry.0 t.name ≡ true = subst (λ z. same_name entry.0 z ≡ true) (sym own) (same_name_refl entry.0) in
    let now : one_where_none (layout_of_name (entry ∷ found) t.name) ≡ 0 = ap one_where_none (at_own entry found t.name same) in
    let none : layout_of_name found t.name ≡ None = subst (λ z. layout_of_name found z ≡ None) (sym own) new in
    let before : one_where_none (layout_of_name found t.name) ≡ 1 = ap one_where_none none in
    omega (arith, none_more entry found ts)
one_less entry found new (t ∷ ts) (inr later) = omega (arith, one_is_less entry found t.name, one_less entry found new ts later)

pub missing_at_first : (ts : List NamedTy) → missing ts [] ≡ length ts
missing_at_first [] = refl
missing_at_first (t ∷ ts) = omega (arith, missing_at_first ts)

-- ---- a round

module _ (types : List NamedTy) where
  abbrev pub IsClosed : Found → Name → Type 0
  IsClosed found x = layout_of_name found x ≡ None → layout_of_struct types found x ≡ None

  abbrev AreClosed : List NamedTy → Found → Type 0
  AreClosed ts found = AllByRecursion (λ t. IsClosed found t.name) ts

  abbrev Outcome : List NamedTy → Found → Found → Type 0
  Outcome ts found after = ((after ≡ found) × AreClosed ts found) ⊎ (missing types after < missing types found)

  fewer : (found : Found) (x : Name) (known layout : Option Layout) → layout_of_name found x ≡ known → missing types (and_name x found known layout) ≤ missing types found
  fewer found x (Some k) layout p = omega arith
  fewer found x None None p = omega arith
  fewer found x None (Some l) p = none_more (x, l) found types

  fewer_after : (ts : List NamedTy) (found : Found) → missing types (with_names types ts found) ≤ missing types found
  fewer_after [] found = omega arith
  fewer_after (t ∷ ts) found =
      omega (
        arith,
        fewer_after ts (with_name types found t.name),
        fewer found t.name (layout_of_name found t.name) (layout_of_struct types found t.name) refl,
      )

  also : (t : NamedTy) (ts : List NamedTy) (found after : Found) → IsClosed found t.name → Outcome ts found after → Outcome (t ∷ ts) found after
  also t ts found after closed (inl r) = inl (r.0, (closed, r.1))
  also t ts found after closed (inr less) = inr less

  turn : (t : NamedTy) (ts : List NamedTy) (found : Found) → Occurs types t.name → Outcome ts found (with_names types ts found) →
      (known : Option Layout) → layout_of_name found t.name ≡ known → (layout : Option Layout) → layout_of_struct types found t.name ≡ layout →
      Outcome (t ∷ ts) found (with_names types ts (and_name t.name found known layout))
  turn t ts found occurs rest (Some k) p layout q = also t ts found (with_names types ts found) (λ none. cc) rest
  turn t ts found occurs rest None p None q = also t ts found (with_names types ts found) (λ none. q) rest
  turn t ts found occurs rest None p (Some l) q =
      inr (omega (arith, one_less (t.name, l) found p types occurs, fewer_after ts ((t.name, l) ∷ found)))

  sweep : (ts : List NamedTy) (found : Found) → AllByRecursion (λ t. Occurs types t.name) ts → Outcome ts found (with_names types ts found)
  sweep [] found occur = inl (refl, tt)
  sweep (t ∷ ts) found occur =
      turn t ts found occur.0 (sweep ts found occur.1) (layout_of_name found t.name) refl (layout_of_struct types found t.name) refl

  at_rest : (n : ℕ) (found : Found) → with_names types types found ≡ found → with_rounds n types found ≡ found
  at_rest zero found e = refl
  at_rest (suc n) found e = ap (with_rounds n types) e ∙ at_rest n found e

  is_there : (known : Option Layout) → one_where_none known ≡ 0 → known ≡ None → ⊥
  is_there None e h = absurd (omega arith)
  is_there (Some l) e h = cc

  none_missing : (ts : List NamedTy) (found : Found) → missing ts found ≡ 0 → AreClosed ts found
  none_missing [] found e = tt
  none_missing (t ∷ ts) found e =
      (λ none. absurd (is_there (layout_of_name found t.name) (omega arith) none), none_missing ts found (omega arith))

  module _ (occur : AllByRecursion (λ t. Occurs types t.name) types) where
    rounds : (n : ℕ) (found : Found) → missing types found ≤ n → AreClosed types (with_rounds n types found)
    rounds zero found few = none_missing types found (omega arith)
    rounds (suc n) found few = elim (sweep types found occur) [
      | inl r ↦ subst (AreClosed types) (sym (at_rest (suc n) found r.0)) r.1
      | inr less ↦ rounds n (with_names types types found) (omega arith)
    ]

later : (t : NamedTy) (ts us : List NamedTy) → AllByRecursion (λ u. Occurs ts u.name) us → AllByRecursion (λ u. Occurs (t ∷ ts) u.name) us
later t ts [] all = tt
later t ts (u ∷ us) all = (inr all.0, later t ts us all.1)

occur_all : (ts : List NamedTy) → AllByRecursion (λ t. Occurs ts t.name) ts
occur_all [] = tt
occur_all (t ∷ ts) = (inl refl, later t ts ts (occur_all ts))

-- ---- all names

no_fields : (types : List NamedTy) (found : Found) (x : Name) (ts : List NamedTy) → AreClosed types ts found → (fields_of ts x ≡ None) ⊎ IsClosed types found x
no_fields types found x [] closed = inl refl
no_fields types found x (t ∷ ts) closed = elim (split (same_name t.name x)) [
  | inl same ↦ inr (subst (IsClosed types found) (same_name_true t.name x same) closed.0)
  | inr other ↦ elim (no_fields types found x ts closed.1) [
    | inl none ↦ inl (ap (λ b. cond b t.fields (fields_of ts x)) other ∙ none)
    | inr is ↦ inr is
  ]
]

pub closed_in : (types : List NamedTy) (x : Name) → IsClosed types (found_in types) x
closed_in types x =
    let all : AreClosed types types (found_in types) = rounds types (occur_all types) (length types) [] (omega (arith, missing_at_first types)) in
    elim (no_fields types (found_in types) x types all) [
      | inl none ↦ (λ missing. ap (option_and_then (λ fields. layout_by (layout_of_name (found_in types)) (Struct fields))) none)
      | inr is ↦ is
    ]

found_or_not : (types : List NamedTy) (x : Name) (known : Option Layout) → layout_of_name (found_in types) x ≡ known → known ≡ layout_of_struct types (found_in types) x
found_or_not types x None e = sym (closed_in types x e)
found_or_not types x (Some l) e = sym (found_is_struct types (found_in types) (are_found types) x l e)

-- a name has the layout of its struct
pub names_are_structs : (types : List NamedTy) (x : Name) → layout_of_name (found_in types) x ≡ layout_of_struct types (found_in types) x
names_are_structs types x = found_or_not types x (layout_of_name (found_in types) x) refl

-- ---- the two forms of the definition are one

pub has_layout : (types : List NamedTy) (t : Ty) (l : Layout) → HasLayout types t l ↔ (layout_of types t ≡ Some l)
has_layout types t l = (
  λ has. layouts_below (layout_of_name has.0) (layout_of_name (found_in types))
      (all_found types (layout_of_name (found_in types)) (layout_of_name (found_in types)) (λ x m e. e) (names_are_structs types) (closed_in types) has.0 has.1)
      t l has.2,
  λ e. (found_in types, are_found types, e),
)

pub layouts_are_one : LayoutsAreOne
layouts_are_one types t one other has also =
    let first : layout_of types t ≡ Some one = (has_layout types t one).0 has in
    let second : layout_of types t ≡ Some other = (has_layout types t other).0 also in
    cc

pub named_layouts : NamesAreStructs
named_layouts types x = (
  λ fields e. at_named (layout_of_name (found_in types)) x ∙ names_are_structs types x ∙ struct_is types (layout_of_name (found_in types)) x fields e,
  λ e. at_named (layout_of_name (found_in types)) x ∙ names_are_structs types x
      ∙ ap (option_and_then (λ fields. layout_by (layout_of_name (found_in types)) (Struct fields))) e,
)

pub pointers_have_layouts : PointersHaveLayouts
pointers_have_layouts types t = ([], tt, at_ptr (layout_of_name []) t)
