-- The names that are found: that they are all that can be, and that there is one way.
use Rattle.std.proofs.Common.{◌≡◌, ◌∙◌, ◌⊎◌, Bool, true, false, cond, List, [], ◌∷◌, Option, None, Some, refl, sym, ap, subst, inl, inr}
use Rattle.std.specs.Option.{option_and_then}
use Rattle.ir_types.specs.declared.layout.Layout.{Layout}
use Rattle.ir_types.specs.declared.named.NamedTy.{NamedTy}
use Rattle.ir_types.specs.declared.names.Name.{Name}
use Rattle.ir_types.specs.declared.ty.Ty.{Ty, Struct}
use Rattle.ir_types.specs.Layout.{layout_by}
use Rattle.ir_types.specs.Named.{fields_of, Found, layout_of_name, AreFound, layout_of_struct}
use Rattle.ir_types.specs.NameLaws.{same_name_true}
use Rattle.ir_types.specs.Same.{same_name}
use Rattle.ir_types.proofs.Monotone.{IsBelow, AreBelow, layouts_below}

-- the layout of a name's struct, by the layouts of names
abbrev pub struct_by : List NamedTy → (Name → Option Layout) → Name → Option Layout
struct_by types g x = option_and_then (λ fields. layout_by g (Struct fields)) (fields_of types x)

chain_below : (types : List NamedTy) (f g : Name → Option Layout) → AreBelow f g → (fs : Option (List Ty)) →
    IsBelow (option_and_then (λ fields. layout_by f (Struct fields)) fs) (option_and_then (λ fields. layout_by g (Struct fields)) fs)
chain_below types f g below None l e = e
chain_below types f g below (Some fields) l e = layouts_below f g below (Struct fields) l e

pub struct_below : (types : List NamedTy) (f g : Name → Option Layout) → AreBelow f g → AreBelow (struct_by types f) (struct_by types g)
struct_below types f g below x = chain_below types f g below (fields_of types x)

pub struct_is : (types : List NamedTy) (g : Name → Option Layout) (x : Name) (fields : List Ty) → fields_of types x ≡ Some fields →
    struct_by types g x ≡ layout_by g (Struct fields)
struct_is types g x fields e = ap (option_and_then (λ fs. layout_by g (Struct fs))) e

-- ---- one name more

pub split : (b : Bool) → (b ≡ true) ⊎ (b ≡ false)
split true = inl refl
split false = inr refl

pub at_own : (entry : Name × Layout) (found : Found) (y : Name) → same_name entry.0 y ≡ true → layout_of_name (entry ∷ found) y ≡ Some entry.1
at_own entry found y e = ap (λ b. cond b (Some entry.1) (layout_of_name found y)) e

pub at_other : (entry : Name × Layout) (found : Found) (y : Name) → same_name entry.0 y ≡ false → layout_of_name (entry ∷ found) y ≡ layout_of_name found y
at_other entry found y e = ap (λ b. cond b (Some entry.1) (layout_of_name found y)) e

-- a name that was not found hides none
pub grows : (found : Found) (entry : Name × Layout) → layout_of_name found entry.0 ≡ None → AreBelow (layout_of_name found) (layout_of_name (entry ∷ found))
grows found entry new y m e = elim (split (same_name entry.0 y)) [
  | inl same ↦ (let own : entry.0 ≡ y = same_name_true entry.0 y same in
      let none : layout_of_name found y ≡ None = subst (λ z. layout_of_name found z ≡ None) own new in cc)
  | inr other ↦ at_other entry found y other ∙ e
]

-- ---- what is found is the layout of the name's struct

pub found_is_struct : (types : List NamedTy) (found : Found) → AreFound types found → AreBelow (layout_of_name found) (layout_of_struct types found)
found_is_struct types [] are x l e = cc
found_is_struct types (entry ∷ found) are x l e =
    let more : AreBelow (layout_of_name found) (layout_of_name (entry ∷ found)) = grows found entry are.0.is_new in
    elim (split (same_name entry.0 x)) [
      | inl same ↦ (let own : entry.0 ≡ x = same_name_true entry.0 x same in
          let is : entry.1 ≡ l = cc (at_own entry found x same) in
          let fields : fields_of types x ≡ Some are.0.fields = subst (λ z. fields_of types z ≡ Some are.0.fields) own are.0.is_struct in
          struct_is types (layout_of_name (entry ∷ found)) x are.0.fields fields
          ∙ layouts_below (layout_of_name found) (layout_of_name (entry ∷ found)) more (Struct are.0.fields) entry.1 are.0.by_found
          ∙ ap Some is)
      | inr other ↦ struct_below types (layout_of_name found) (layout_of_name (entry ∷ found)) more x l
          (found_is_struct types found are.1 x l (sym (at_other entry found x other) ∙ e))
    ]

-- ---- all that can be found

-- `h` has no layout but those of `g`, which are those of structs, and has each that it can
module _ (types : List NamedTy) (g h : Name → Option Layout) (below : AreBelow h g) (fixed : (x : Name) → g x ≡ struct_by types g x)
    (closed : (x : Name) → h x ≡ None → struct_by types h x ≡ None) where
  given : (x : Name) (m : Layout) (known : Option Layout) → h x ≡ known → struct_by types h x ≡ Some m → h x ≡ Some m
  given x m None e by_h = let none : struct_by types h x ≡ None = closed x e in cc
  given x m (Some k) e by_h =
      let by_g : g x ≡ Some m = fixed x ∙ struct_below types h g below x m by_h in
      let also : g x ≡ Some k = below x k e in
      cc

  pub all_found : (found : Found) → AreFound types found → AreBelow (layout_of_name found) h
  all_found [] are x l e = cc
  all_found (entry ∷ found) are x l e =
      let before : AreBelow (layout_of_name found) h = all_found found are.1 in
      elim (split (same_name entry.0 x)) [
        | inl same ↦ (let own : entry.0 ≡ x = same_name_true entry.0 x same in
            let is : entry.1 ≡ l = cc (at_own entry found x same) in
            let fields : fields_of types x ≡ Some are.0.fields = subst (λ z. fields_of types z ≡ Some are.0.fields) own are.0.is_struct in
            let by_h : struct_by types h x ≡ Some entry.1 =
            struct_is types h x are.0.fields fields ∙ layouts_below (layout_of_name found) h before (Struct are.0.fields) entry.1 are.0.by_found in
            given x entry.1 (h x) refl by_h ∙ ap Some is)
        | inr other ↦ before x l (sym (at_other entry found x other) ∙ e)
      ]
