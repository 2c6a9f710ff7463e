-- A type that has a layout doesn't hold itself: one part after the other leads to an end.
use Rattle.std.proofs.Common.{◌≡◌, ◌∙◌, ℕ, zero, suc, true, List, [], ◌∷◌, map, Option, None, Some, refl, sym, ap, subst, inl, inr}
use Rattle.std.specs.List.{AllByRecursion}
use Rattle.std.specs.Option.{option_map, is_some}
use Rattle.ir_types.specs.declared.layout.Layout.{Layout}
use Rattle.ir_types.specs.declared.named.NamedTy.{NamedTy}
use Rattle.ir_types.specs.declared.names.Name.{Name}
use Rattle.ir_types.specs.declared.ty.Ty.{Ty, Int, Ptr, Array, Struct, Named, Void, out-Ty}
use Rattle.ir_types.specs.declared.ty.Ty.TheOpen.{Ty-F}
use Rattle.ir_types.specs.declared.ty.Ty.TheOpen as ty
use Rattle.ir_types.specs.declared.ty.Ty.TheViews.{outs-Int, outs-Ptr, outs-Array, outs-Struct, outs-Named, outs-Void}
use Rattle.ir_types.specs.Held.{IsPartOf, IsPart, Holds, part, within, NoneHoldsItself, HeldTypesAreSized}
use Rattle.ir_types.specs.Laws.{IsAt}
use Rattle.ir_types.specs.Layout.{of_array, of_struct, all_of, layout_by}
use Rattle.ir_types.specs.Named.{Found, fields_of, found_in, layout_of_name, AreFound, layout_of}
use Rattle.ir_types.specs.NameLaws.{same_name_true}
use Rattle.ir_types.specs.Same.{same_name}
use Rattle.ir_types.proofs.Found.{split, at_other}
use Rattle.ir_types.proofs.Induction as fold
use Rattle.ir_types.proofs.Monotone.{at_array, at_struct, at_named, at_void}
use Rattle.ir_types.proofs.Rounds.{are_found, named_layouts}

-- each way from part to part ends
data Ends (types : List NamedTy) : Ty → Type 0 where
  ends : {t : Ty} → ((u : Ty) → IsPart types t u → Ends types u) → Ends types t

module _ (types : List NamedTy) where
  by_level : (t : Ty) (level : Ty-F Ty) → out-Ty t ≡ level → ((u : Ty) → IsPartOf types u level → Ends types u) → Ends types t
  by_level t level e law = ends (λ u p. law u (subst (IsPartOf types u) e p))

  element_has : (n : ℕ) (o : Option Layout) (l : Layout) → option_map (of_array n) o ≡ Some l → (m : Layout) × (o ≡ Some m)
  element_has n None l e = cc
  element_has n (Some m) l e = (m, refl)

  fields_have : (o : Option (List Layout)) (l : Layout) → option_map of_struct o ≡ Some l → (ls : List Layout) × (o ≡ Some ls)
  fields_have None l e = cc
  fields_have (Some ls) l e = (ls, refl)

  first_has : (o : Option Layout) (os : List (Option Layout)) (ls : List Layout) → all_of (o ∷ os) ≡ Some ls → (m : Layout) × (o ≡ Some m)
  first_has None os ls e = cc
  first_has (Some m) os ls e = (m, refl)

  tail_of : (m : Layout) (o : Option (List Layout)) (ls : List Layout) → option_map (λ ms. m ∷ ms) o ≡ Some ls → (ms : List Layout) × (o ≡ Some ms)
  tail_of m None ls e = cc
  tail_of m (Some ms) ls e = (ms, refl)

  rest_have : (o : Option Layout) (os : List (Option Layout)) (ls : List Layout) → all_of (o ∷ os) ≡ Some ls → (ms : List Layout) × (all_of os ≡ Some ms)
  rest_have None os ls e = cc
  rest_have (Some m) os ls e = tail_of m (all_of os) ls e

  module _ (g : Name → Option Layout) (names : (x : Name) (l : Layout) → g x ≡ Some l → Ends types (Named x)) where
    abbrev HasEnd : Ty → Type 0
    HasEnd t = (l : Layout) → layout_by g t ≡ Some l → Ends types t

    fields_end : (ts : List Ty) → AllByRecursion HasEnd ts → (ls : List Layout) → all_of (map (layout_by g) ts) ≡ Some ls → (u : Ty) (k : ℕ) → IsAt ts k u → Ends types u
    fields_end [] all ls e u k at = absurd at
    fields_end (t ∷ ts) all ls e u zero at =
        let has = first_has (layout_by g t) (map (layout_by g) ts) ls e in subst (Ends types) at (all.0 has.0 has.1)
    fields_end (t ∷ ts) all ls e u (suc k) at =
        let rest = rest_have (layout_by g t) (map (layout_by g) ts) ls e in fields_end ts all.1 rest.0 rest.1 u k at

    types_end : (t : Ty) → HasEnd t
    types_end = fold.by_parts HasEnd
        (λ w l e. by_level (Int w) (ty.Int w) (outs-Int w) (λ u p. absurd p))
        (λ t law l e. by_level (Ptr t) (ty.Ptr t) (outs-Ptr t) (λ u p. absurd p))
        (λ n t law l e. by_level (Array n t) (ty.Array n t) (outs-Array n t)
        (λ u p. let has = element_has n (layout_by g t) l (sym (at_array g n t) ∙ e) in subst (Ends types) p (law has.0 has.1)))
        (λ ts law l e. by_level (Struct ts) (ty.Struct ts) (outs-Struct ts)
        (λ u p. let have = fields_have (all_of (map (layout_by g) ts)) l (sym (at_struct g ts) ∙ e) in fields_end ts law have.0 have.1 u p.0 p.1))
        (λ x l e. names x l (sym (at_named g x) ∙ e))
        (λ l e. let none : layout_by g Void ≡ None = at_void g in cc)

  names_end : (found : Found) → AreFound types found → (x : Name) (l : Layout) → layout_of_name found x ≡ Some l → Ends types (Named x)
  names_end [] are x l e = cc
  names_end (entry ∷ found) are x l e = elim (split (same_name entry.0 x)) [
    | inl same ↦ (let own : entry.0 ≡ x = same_name_true entry.0 x same in
        let struct : Ends types (Struct are.0.fields) = types_end (layout_of_name found) (names_end found are.1) (Struct are.0.fields) entry.1 are.0.by_found in
        by_level (Named x) (ty.Named x) (outs-Named x)
        (λ u p. let fields : fields_of types x ≡ Some are.0.fields = subst (λ z. fields_of types z ≡ Some are.0.fields) own are.0.is_struct in
        let equal : are.0.fields ≡ p.0 = cc (fields, p.1) in
        subst (Ends types) (ap Struct equal ∙ p.2) struct))
    | inr other ↦ names_end found are.1 x l (sym (at_other entry found x other) ∙ e)
  ]

  pub behind : {t u v : Ty} → Holds types t u → IsPart types u v → Holds types t v
  behind {u = u} (part p) q = within u p (part q)
  behind (within w p h) q = within w p (behind h q)

  no_circle : {t : Ty} → Ends types t → Holds types t t → ⊥
  no_circle {t} (ends law) (part p) = no_circle (law t p) (part p)
  no_circle (ends law) (within u p h) = no_circle (law u p) (behind h p)

  has_none : (t : Ty) (o : Option Layout) → layout_of types t ≡ o → Holds types t t → o ≡ None
  has_none t None e h = refl
  has_none t (Some l) e h =
      absurd (no_circle (types_end (layout_of_name (found_in types)) (names_end (found_in types) (are_found types)) t l e) h)

pub none_holds_itself : NoneHoldsItself
none_holds_itself types t h = has_none types t (layout_of types t) refl h

-- ---- what a type holds has a layout where it has one

abbrev HasOne : List NamedTy → Ty → Type 0
HasOne types u = (m : Layout) × (layout_of types u ≡ Some m)

has_one : (o : Option Layout) → is_some o ≡ true → (m : Layout) × (o ≡ Some m)
has_one None e = cc
has_one (Some m) e = (m, refl)

module _ (types : List NamedTy) where
  abbrev g : Name → Option Layout
  g = layout_of_name (found_in types)

  fields_sized : (ts : List Ty) (ls : List Layout) → all_of (map (layout_of types) ts) ≡ Some ls → (u : Ty) (k : ℕ) → IsAt ts k u → HasOne types u
  fields_sized [] ls e u k at = absurd at
  fields_sized (t ∷ ts) ls e u zero at = subst (HasOne types) at (first_has types (layout_of types t) (map (layout_of types) ts) ls e)
  fields_sized (t ∷ ts) ls e u (suc k) at =
      let rest = rest_have types (layout_of types t) (map (layout_of types) ts) ls e in fields_sized ts rest.0 rest.1 u k at

  abbrev PartsHave : Ty → Type 0
  PartsHave t = (l : Layout) → layout_of types t ≡ Some l → (u : Ty) → IsPart types t u → HasOne types u

  at_kind : (t : Ty) (level : Ty-F Ty) → out-Ty t ≡ level → ((l : Layout) → layout_of types t ≡ Some l → (u : Ty) → IsPartOf types u level → HasOne types u) → PartsHave t
  at_kind t level e law l is u p = law l is u (subst (IsPartOf types u) e p)

  parts_have : (t : Ty) → PartsHave t
  parts_have = fold.by_parts PartsHave
      (λ w. at_kind (Int w) (ty.Int w) (outs-Int w) (λ l e u p. absurd p))
      (λ t law. at_kind (Ptr t) (ty.Ptr t) (outs-Ptr t) (λ l e u p. absurd p))
      (λ n t law. at_kind (Array n t) (ty.Array n t) (outs-Array n t)
      (λ l e u p. subst (HasOne types) p (element_has types n (layout_of types t) l (sym (at_array g n t) ∙ e))))
      (λ ts law. at_kind (Struct ts) (ty.Struct ts) (outs-Struct ts)
      (λ l e u p. let have = fields_have types (all_of (map (layout_of types) ts)) l (sym (at_struct g ts) ∙ e) in
      fields_sized ts have.0 have.1 u p.0 p.1))
      (λ x. at_kind (Named x) (ty.Named x) (outs-Named x)
      (λ l e u p. subst (HasOne types) p.2 (l, sym ((named_layouts types x).0 p.0 p.1) ∙ e)))
      (at_kind Void ty.Void outs-Void (λ l e u p. absurd p))

  held_has : {t u : Ty} (l : Layout) → layout_of types t ≡ Some l → Holds types t u → HasOne types u
  held_has {t} {u} l e (part p) = parts_have t l e u p
  held_has {t} l e (within u p h) = let one = parts_have t l e u p in held_has one.0 one.1 h

pub held_types_are_sized : HeldTypesAreSized
held_types_are_sized types t u sized h =
    let own = has_one (layout_of types t) sized in
    let one = held_has types own.0 own.1 h in
    ap is_some one.1
