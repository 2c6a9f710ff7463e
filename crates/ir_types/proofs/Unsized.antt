-- A type without a layout holds one that has none by itself: from part to part a name comes again, or the way ends at such a type.
use Rattle.std.proofs.Common.{◌≡◌, ◌∙◌, ◌≤◌, ◌⊎◌, ℕ, zero, suc, Bool, true, false, cond, List, [], ◌∷◌, length, map, Option, None, Some, refl, sym, subst, inl, inr, arith}
use Rattle.std.specs.List.{AllByRecursion}
use Rattle.std.specs.Option.{option_map}
use Rattle.ir_types.specs.declared.layout.Layout.{Layout}
use Rattle.ir_types.specs.declared.named.NamedTy.{NamedTy}
use Rattle.ir_types.specs.declared.names.Name.{Name}
use Rattle.ir_types.specs.declared.ty.Ty.{Ty, Int, Ptr, Array, Struct, Named, Void}
use Rattle.ir_types.specs.declared.ty.Ty.TheViews.{outs-Array, outs-Struct, outs-Named}
use Rattle.ir_types.specs.Held.{IsPartOf, IsPart, Holds, part, HasNoLayoutAlone, UnsizedTypesHoldOne}
use Rattle.ir_types.specs.Laws.{IsAt}
use Rattle.ir_types.specs.Layout.{of_int, of_ptr, of_array, of_struct, all_of}
use Rattle.ir_types.specs.Named.{Found, fields_of, found_in, layout_of_name, layout_of}
use Rattle.ir_types.specs.NameLaws.{same_name_true}
use Rattle.ir_types.specs.Same.{same_name}
use Rattle.ir_types.proofs.Found.{split, at_other}
use Rattle.ir_types.proofs.Held.{behind}
use Rattle.ir_types.proofs.Induction as fold
use Rattle.ir_types.proofs.Monotone.{at_int, at_ptr, at_array, at_struct}
use Rattle.ir_types.proofs.Rounds.{missing, Occurs, one_less, missing_at_first, named_layouts}

not_some : {A : Type 0} (o : Option A) (a : A) → o ≡ Some a → o ≡ None → ⊥
not_some o a e none = let p : Some a ≡ None = sym e ∙ none in cc

element_none : (n : ℕ) (o : Option Layout) → option_map (of_array n) o ≡ None → o ≡ None
element_none n None e = refl
element_none n (Some l) e = cc

struct_none : (o : Option (List Layout)) → option_map of_struct o ≡ None → o ≡ None
struct_none None e = refl
struct_none (Some ls) e = cc

rest_none : (l : Layout) (o : Option (List Layout)) → option_map (λ ls. l ∷ ls) o ≡ None → o ≡ None
rest_none l None e = refl
rest_none l (Some ls) e = cc

own_fields : (b : Bool) (own rest : Option (List Ty)) (fields : List Ty) → cond b own rest ≡ Some fields → (b ≡ true) ⊎ (rest ≡ Some fields)
own_fields true own rest fields e = inl refl
own_fields false own rest fields e = inr e

occurs : (ts : List NamedTy) (x : Name) (fields : List Ty) → fields_of ts x ≡ Some fields → Occurs ts x
occurs [] x fields e = cc
occurs (t ∷ ts) x fields e = elim (own_fields (same_name t.name x) t.fields (fields_of ts x) fields e) [
  | inl same ↦ inl (same_name_true t.name x same)
  | inr later ↦ inr (occurs ts x fields later)
]

module _ (types : List NamedTy) (whole : Ty) where
  abbrev Reaches : Ty → Type 0
  Reaches t = (whole ≡ t) ⊎ Holds types whole t

  abbrev Reason : Type 0
  Reason = (u : Ty) × Reaches u × HasNoLayoutAlone types u

  -- each name on the way holds the type to which it led
  abbrev Lead : Found → Ty → Type 0
  Lead way t = (x : Name) (l : Layout) → layout_of_name way x ≡ Some l → Holds types (Named x) t

  abbrev Walks : Found → Ty → Type 0
  Walks way t = layout_of types t ≡ None → Reaches t → Lead way t → Reason

  on : (t u : Ty) → IsPart types t u → Reaches t → Reaches u
  on t u p (inl same) = inr (part (subst (λ v. IsPart types v u) (sym same) p))
  on t u p (inr holds) = inr (behind types holds p)

  lead_on : (way : Found) (t u : Ty) → IsPart types t u → Lead way t → Lead way u
  lead_on way t u p lead x l e = behind types (lead x l e) p

  abbrev FirstNone : (Ty → Type 0) → List Ty → Type 0
  FirstNone P ts = (u : Ty) × ((k : ℕ) × IsAt ts k u) × (layout_of types u ≡ None) × P u

  by_first : (P : Ty → Type 0) (t : Ty) (ts : List Ty) → AllByRecursion P (t ∷ ts) → (o : Option Layout) → layout_of types t ≡ o →
      all_of (o ∷ map (layout_of types) ts) ≡ None → (all_of (map (layout_of types) ts) ≡ None → FirstNone P ts) → FirstNone P (t ∷ ts)
  by_first P t ts all None is e rest = (t, (0, refl), is, all.0)
  by_first P t ts all (Some l) is e rest =
      let found = rest (rest_none l (all_of (map (layout_of types) ts)) e) in (found.0, (suc found.1.0, found.1.1), found.2, found.3)

  first_none : (P : Ty → Type 0) (ts : List Ty) → AllByRecursion P ts → all_of (map (layout_of types) ts) ≡ None → FirstNone P ts
  first_none P [] all e = cc
  first_none P (t ∷ ts) all e = by_first P t ts all (layout_of types t) refl e (λ h. first_none P ts all.1 h)

  further : (way : Found) (t u : Ty) → IsPart types t u → layout_of types u ≡ None → Walks way u → Reaches t → Lead way t → Reason
  further way t u p none walk reach lead = walk none (on t u p reach) (lead_on way t u p lead)

  array_walks : (way : Found) (n : ℕ) (t : Ty) → Walks way t → Walks way (Array n t)
  array_walks way n t walk none reach lead =
      further way (Array n t) t (subst (IsPartOf types t) (sym (outs-Array n t)) refl)
      (element_none n (layout_of types t) (sym (at_array (layout_of_name (found_in types)) n t) ∙ none)) walk reach lead

  struct_walks : (way : Found) (ts : List Ty) → AllByRecursion (Walks way) ts → Walks way (Struct ts)
  struct_walks way ts all none reach lead =
      let found = first_none (Walks way) ts all
      (struct_none (all_of (map (layout_of types) ts)) (sym (at_struct (layout_of_name (found_in types)) ts) ∙ none)) in
      further way (Struct ts) found.0 (subst (IsPartOf types found.0) (sym (outs-Struct ts)) found.1) found.2 found.3 reach lead

  to_struct : (x : Name) (fields : List Ty) → fields_of types x ≡ Some fields → IsPart types (Named x) (Struct fields)
  to_struct x fields e = subst (IsPartOf types (Struct fields)) (sym (outs-Named x)) (fields, e, refl)

  led : (way : Found) (x : Name) (fields : List Ty) → fields_of types x ≡ Some fields → Lead way (Named x) → Lead ((x, of_ptr) ∷ way) (Struct fields)
  led way x fields e lead y l is = elim (split (same_name x y)) [
    | inl same ↦ subst (λ z. Holds types (Named z) (Struct fields)) (same_name_true x y same) (part (to_struct x fields e))
    | inr other ↦ behind types (lead y l (sym (at_other (x, of_ptr) way y other) ∙ is)) (to_struct x fields e)
  ]

  -- a name: met again, without a struct, or a new one
  name_walks : (way : Found) (x : Name) (seen : Option Layout) → layout_of_name way x ≡ seen → (fs : Option (List Ty)) → fields_of types x ≡ fs →
      (layout_of_name way x ≡ None → (fields : List Ty) → fields_of types x ≡ Some fields → Walks ((x, of_ptr) ∷ way) (Struct fields)) → Walks way (Named x)
  name_walks way x (Some l) met fs e go none reach lead = (Named x, reach, inr (inr (lead x l met)))
  name_walks way x None new None e go none reach lead = (Named x, reach, inr (inl (x, refl, e)))
  name_walks way x None new (Some fields) e go none reach lead =
      go new fields e (sym ((named_layouts types x).0 fields e) ∙ none) (on (Named x) (Struct fields) (to_struct x fields e) reach) (led way x fields e lead)

  round : (way : Found) →
      ((x : Name) → layout_of_name way x ≡ None → (fields : List Ty) → fields_of types x ≡ Some fields → Walks ((x, of_ptr) ∷ way) (Struct fields)) →
      (t : Ty) → Walks way t
  round way go = fold.by_parts (Walks way)
      (λ w none. absurd (not_some (layout_of types (Int w)) (of_int w) (at_int (layout_of_name (found_in types)) w) none))
      (λ t law none. absurd (not_some (layout_of types (Ptr t)) of_ptr (at_ptr (layout_of_name (found_in types)) t) none))
      (λ m t law. array_walks way m t law)
      (λ ts law. struct_walks way ts law)
      (λ x. name_walks way x (layout_of_name way x) refl (fields_of types x) refl (go x))
      (λ none reach lead. (Void, reach, inl refl))

  walk : (n : ℕ) (way : Found) → missing types way ≤ n → (t : Ty) → Walks way t
  walk zero way few = round way
      (λ x new fields e. absurd (let less = one_less (x, of_ptr) way new types (occurs types x fields e) in omega arith))
  walk (suc n) way few = round way
      (λ x new fields e. let less = one_less (x, of_ptr) way new types (occurs types x fields e) in
      walk n ((x, of_ptr) ∷ way) (omega arith) (Struct fields))

pub unsized_types_hold_one : UnsizedTypesHoldOne
unsized_types_hold_one types t none =
    walk types t (length types) [] (omega (arith, missing_at_first types)) t none (inl refl) (λ x l e. cc)
