-- The parts of types: their layouts are those that types have, and more names that are found change none that has one.
use Rattle.std.proofs.Common.{◌≡◌, ◌∙◌, ℕ, List, [], ◌∷◌, map, Option, None, Some, refl, sym, ap, ap₂, subst, inl, inr}
use Rattle.std.specs.List.{AllByRecursion}
use Rattle.std.specs.Option.{option_map}
use Rattle.ir_types.specs.declared.layout.Layout.{Layout}
use Rattle.ir_types.specs.declared.named.NamedTy.{NamedTy}
use Rattle.ir_types.specs.declared.names.Name.{Name}
use Rattle.ir_types.specs.declared.ty.Ty.{Ty, Int, Ptr, Array, Struct, Named, Void}
use Rattle.ir_types.specs.declared.ty.Ty.TheOpen as ty
use Rattle.ir_types.specs.Layout.{all_of, layout_by, of_array, of_struct}
use Rattle.ir_types.specs.NameLaws.{same_name_true}
use Rattle.ir_types.specs.Named.{AreFound, Found, fields_of, fields_or_none, found_in, layout_of, layout_of_name}
use Rattle.ir_types.specs.Same.{same_name}
use Rattle.ir_types.proofs.Found.{split}
use Rattle.ir_types.proofs.Induction as fold
use Rattle.ir_types.proofs.Monotone as lies
use Rattle.ir_types.proofs.Rounds.{are_found}
use Rattle.ir_machine.specs.Scalars.{Part, part_at, part_by, part_level, part_of_name}

-- ---- at each kind of type

module _ (f : Name → Part) where
  pub at_int : (width : ℕ) → part_by f (Int width) ≡ part_level f (ty.Int width)
  at_int = fold.at_int Part (part_level f)

  pub at_ptr : (t : Ty) → part_by f (Ptr t) ≡ part_level f (ty.Ptr (part_by f t))
  at_ptr = fold.at_ptr Part (part_level f)

  pub at_array : (n : ℕ) (t : Ty) → part_by f (Array n t) ≡ part_level f (ty.Array n (part_by f t))
  at_array = fold.at_array Part (part_level f)

  pub at_struct : (ts : List Ty) → part_by f (Struct ts) ≡ part_level f (ty.Struct (map (part_by f) ts))
  at_struct = fold.at_struct Part (part_level f)

  pub at_named : (x : Name) → part_by f (Named x) ≡ f x
  at_named = fold.at_named Part (part_level f)

  pub at_void : part_by f Void ≡ part_level f ty.Void
  at_void = fold.at_void Part (part_level f)

-- ---- layouts

abbrev pub layout_in : Part → Option Layout
layout_in p = p.layout

module _ (f : Name → Part) (g : Name → Option Layout) (names : (x : Name) → (f x).layout ≡ g x) where
  abbrev Agrees : Ty → Type 0
  Agrees t = (part_by f t).layout ≡ layout_by g t

  each_agrees : (ts : List Ty) → AllByRecursion Agrees ts → map layout_in (map (part_by f) ts) ≡ map (layout_by g) ts
  each_agrees [] all = refl
  each_agrees (t ∷ ts) all = ap₂ (λ l ls. l ∷ ls) all.0 (each_agrees ts all.1)

  pub layouts_agree : (t : Ty) → Agrees t
  layouts_agree = fold.by_parts Agrees
      (λ w. ap layout_in (at_int f w) ∙ sym (lies.at_int g w))
      (λ t law. ap layout_in (at_ptr f t) ∙ sym (lies.at_ptr g t))
      (λ n t law. ap layout_in (at_array f n t) ∙ ap (option_map (of_array n)) law ∙ sym (lies.at_array g n t))
      (λ ts all. ap layout_in (at_struct f ts) ∙ ap (λ ls. option_map of_struct (all_of ls)) (each_agrees ts all) ∙ sym (lies.at_struct g ts))
      (λ x. ap layout_in (at_named f x) ∙ names x ∙ sym (lies.at_named g x))
      (ap layout_in (at_void f) ∙ sym (lies.at_void g))

module _ (types : List NamedTy) where
  struct_at : Found → Name → Part
  struct_at found x = part_by (part_of_name types found) (Struct (fields_or_none (fields_of types x)))

  names_agree : (found : Found) → AreFound types found → (x : Name) → (part_of_name types found x).layout ≡ layout_of_name found x
  names_agree [] are x = refl
  names_agree (entry ∷ found) are x = elim (split (same_name entry.0 x)) [
    | inl same ↦ (let own : entry.0 ≡ x = same_name_true entry.0 x same in
        let fields : fields_of types x ≡ Some are.0.fields = subst (λ z. fields_of types z ≡ Some are.0.fields) own are.0.is_struct in
        rw same
        (layouts_agree (part_of_name types found) (layout_of_name found) (names_agree found are.1) (Struct (fields_or_none (fields_of types x)))
        ∙ ap (λ fs. layout_by (layout_of_name found) (Struct (fields_or_none fs))) fields ∙ are.0.by_found))
    | inr other ↦ rw other (names_agree found are.1 x)
  ]

  pub part_layout : (t : Ty) → (part_at types t).layout ≡ layout_of types t
  part_layout = layouts_agree (part_of_name types (found_in types)) (layout_of_name (found_in types)) (names_agree (found_in types) (are_found types))

-- ---- more names

abbrev ArePartsBelow : (Name → Part) → (Name → Part) → Type 0
ArePartsBelow f g = (x : Name) (l : Layout) → (f x).layout ≡ Some l → f x ≡ g x

module _ (f g : Name → Part) (below : ArePartsBelow f g) where
  abbrev Below : Ty → Type 0
  Below t = (l : Layout) → (part_by f t).layout ≡ Some l → part_by f t ≡ part_by g t

  of_element : (n : ℕ) (o : Option Layout) (l : Layout) → option_map (of_array n) o ≡ Some l → (m : Layout) × (o ≡ Some m)
  of_element n None l e = cc
  of_element n (Some m) l e = (m, refl)

  first_below : (t : Ty) (ts : List Ty) (o : Option Layout) → (part_by f t).layout ≡ o → Below t → (ls : List Layout) (os : Option (List Layout))
      → all_of (map layout_in (map (part_by f) ts)) ≡ os → ((ms : List Layout) → os ≡ Some ms → map (part_by f) ts ≡ map (part_by g) ts)
      → all_of (o ∷ map layout_in (map (part_by f) ts)) ≡ Some ls → map (part_by f) (t ∷ ts) ≡ map (part_by g) (t ∷ ts)
  first_below t ts None is law ls os more rest e = cc
  first_below t ts (Some l) is law ls None more rest e = let no : option_map (λ ms. l ∷ ms) None ≡ Some ls = sym (ap (option_map (λ ms. l ∷ ms)) more) ∙ e in cc
  first_below t ts (Some l) is law ls (Some ms) more rest e = ap₂ (λ p ps. p ∷ ps) (law l is) (rest ms refl)

  all_below : (ts : List Ty) → AllByRecursion Below ts → (ls : List Layout) → all_of (map layout_in (map (part_by f) ts)) ≡ Some ls → map (part_by f) ts ≡ map (part_by g) ts
  all_below [] all ls e = refl
  all_below (t ∷ ts) all ls e =
      first_below t ts (part_by f t).layout refl all.0 ls (all_of (map layout_in (map (part_by f) ts))) refl (λ ms is. all_below ts all.1 ms is) e

  of_fields : (o : Option (List Layout)) (l : Layout) → option_map of_struct o ≡ Some l → (ms : List Layout) × (o ≡ Some ms)
  of_fields None l e = cc
  of_fields (Some ms) l e = (ms, refl)

  pub parts_below : (t : Ty) → Below t
  parts_below = fold.by_parts Below
      (λ w l e. at_int f w ∙ sym (at_int g w))
      (λ t law l e. at_ptr f t ∙ sym (at_ptr g t))
      (λ n t law l e.
      let there = of_element n (part_by f t).layout l (sym (ap layout_in (at_array f n t)) ∙ e) in
      at_array f n t ∙ ap (λ p. part_level f (ty.Array n p)) (law there.0 there.1) ∙ sym (at_array g n t))
      (λ ts all l e.
      let there = of_fields (all_of (map layout_in (map (part_by f) ts))) l (sym (ap layout_in (at_struct f ts)) ∙ e) in
      at_struct f ts ∙ ap (λ ps. part_level f (ty.Struct ps)) (all_below ts all there.0 there.1) ∙ sym (at_struct g ts))
      (λ x l e. at_named f x ∙ below x l (sym (ap layout_in (at_named f x)) ∙ e) ∙ sym (at_named g x))
      (λ l e. at_void f ∙ sym (at_void g))

module _ (types : List NamedTy) where
  grown : (entry : Name × Layout) (found : Found) → AreFound types (entry ∷ found) → ArePartsBelow (part_of_name types found) (part_of_name types (entry ∷ found))
  grown entry found are y l e = elim (split (same_name entry.0 y)) [
    | inl same ↦ (let own : entry.0 ≡ y = same_name_true entry.0 y same in
        let none : layout_of_name found y ≡ None = subst (λ z. layout_of_name found z ≡ None) own are.0.is_new in
        let some : layout_of_name found y ≡ Some l = sym (names_agree types found are.1 y) ∙ e in cc)
    | inr other ↦ rw other refl
  ]

  named_in : (found : Found) → AreFound types found → (x : Name) (l : Layout) (fields : List Ty) → fields_of types x ≡ Some fields
      → (part_of_name types found x).layout ≡ Some l → part_of_name types found x ≡ part_by (part_of_name types found) (Struct fields)
  named_in [] are x l fields is e = cc
  named_in (entry ∷ found) are x l fields is e = elim (split (same_name entry.0 x)) [
    | inl same ↦ (let own : entry.0 ≡ x = same_name_true entry.0 x same in
        let those : Some fields ≡ Some are.0.fields = sym is ∙ subst (λ z. fields_of types z ≡ Some are.0.fields) own are.0.is_struct in
        let they : fields ≡ are.0.fields = cc in
        let has : (part_by (part_of_name types found) (Struct fields)).layout ≡ Some entry.1 =
        layouts_agree (part_of_name types found) (layout_of_name found) (names_agree types found are.1) (Struct fields)
        ∙ ap (λ fs. layout_by (layout_of_name found) (Struct fs)) they ∙ are.0.by_found in
        let here : part_of_name types (entry ∷ found) x ≡ part_by (part_of_name types found) (Struct fields) =
        rw same (ap (λ fs. part_by (part_of_name types found) (Struct (fields_or_none fs))) is) in
        here ∙ parts_below (part_of_name types found) (part_of_name types (entry ∷ found)) (grown entry found are) (Struct fields) entry.1 has)
    | inr other ↦ (let there : part_of_name types (entry ∷ found) x ≡ part_of_name types found x = rw other refl in
        let has : (part_of_name types found x).layout ≡ Some l = sym (ap layout_in there) ∙ e in
        let before : part_of_name types found x ≡ part_by (part_of_name types found) (Struct fields) = named_in found are.1 x l fields is has in
        there ∙ before
        ∙ parts_below (part_of_name types found) (part_of_name types (entry ∷ found)) (grown entry found are) (Struct fields) l (sym (ap layout_in before) ∙ has))
  ]

  -- a named type that has a layout has the scalars of its struct
  pub part_of_named : (x : Name) (l : Layout) (fields : List Ty) → fields_of types x ≡ Some fields → layout_of types (Named x) ≡ Some l
      → part_at types (Named x) ≡ part_at types (Struct fields)
  part_of_named x l fields is e =
      let f = part_of_name types (found_in types) in
      at_named f x ∙ named_in (found_in types) (are_found types) x l fields is (sym (ap layout_in (at_named f x)) ∙ part_layout types (Named x) ∙ e)
