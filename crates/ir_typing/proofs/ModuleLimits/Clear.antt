-- What indices enter in types that are judged once makes blocks, or has no size.
use Rattle.std.proofs.Common.{◌≡◌, ◌∙◌, ◌⊎◌, ◌&&◌, ℕ, zero, suc, Bool, false, true, cond, List, [], ◌∷◌, Option, None, Some, slice_get, refl, sym, ap, subst, inl, inr}
use Rattle.std.specs.List.{AllByRecursion}
use Rattle.std.specs.Option.{option_and_then}
use Rattle.ir_types.specs.declared.named.NamedTy.{NamedTy}
use Rattle.ir_types.specs.declared.names.Name.{Name}
use Rattle.ir_types.specs.declared.ty.Ty.{Ty, Int, Ptr, Array, Struct, Named, Void, out-Ty}
use Rattle.ir_types.specs.declared.ty.Ty.TheVariants as variant
use Rattle.ir_types.specs.declared.ty.Ty.TheOpen.{Ty-F}
use Rattle.ir_types.specs.declared.ty.Ty.TheOpen as ty
use Rattle.ir_types.specs.declared.ty.Ty.TheViews.{outs-Int, outs-Ptr, outs-Array, outs-Struct, outs-Named, outs-Void}
use Rattle.ir_types.specs.Held.{Holds, IsPart, IsPartOf, part, within}
use Rattle.ir_types.specs.Laws.{IsAt}
use Rattle.ir_types.specs.declared.layout.Layout.{Layout}
use Rattle.ir_types.specs.Layout.{layout_level}
use Rattle.ir_types.specs.Named.{block_in, fields_of, fields_or_none, found_in, layout_of, layout_of_name}
use Rattle.ir_types.proofs.Induction as fold
use Rattle.ir_types.proofs.Rounds.{names_are_structs}
use Rattle.ir_types.specs.Same.{same_name, same_ty}
use Rattle.ir_core.specs.Sizes.{entered_along, entered_behind, one_of_each}
use Rattle.ir_core.specs.Types.{is_integer}
use Rattle.ir_core.specs.Typing.{Index, entered, entered_at_level, field_at}
use Rattle.ir_typing.specs.ModuleLimits.Small.{AreClear, IsClear, IsNamedClear, are_small, is_none_larger, is_small, stepped_small}

some_is : {A : Type 0} (a b : A) → Some a ≡ Some b → a ≡ b
some_is a b e = cc

none_is : {A B : Type 0} (a : A) → None ≡ Some a → B
none_is a e = cc

both : (a b : Bool) → a ≡ true → b ≡ true → (a && b) ≡ true
both a b e f = subst (λ c. (c && b) ≡ true) (sym e) f

-- ---- what stands at a place

at_place : (ts : List Ty) (k : ℕ) (u : Ty) → slice_get ts k ≡ Some u → IsAt ts k u
at_place [] k u e = none_is u e
at_place (t ∷ ts) zero u e = some_is t u e
at_place (t ∷ ts) (suc k) u e = at_place ts k u e

told : (ts : List Ty) (number : Option ℕ) (u : Ty) → option_and_then (slice_get ts) number ≡ Some u → (k : ℕ) × IsAt ts k u
told ts None u e = none_is u e
told ts (Some k) u e = (k, at_place ts k u e)

told_by : (ts : List Ty) (number : Option ℕ) (is : Bool) (u : Ty) → cond is (option_and_then (slice_get ts) number) None ≡ Some u → (k : ℕ) × IsAt ts k u
told_by ts number false u e = none_is u e
told_by ts number true u e = told ts number u e

field_is : (ts : List Ty) (i : Index) (u : Ty) → field_at ts i ≡ Some u → (k : ℕ) × IsAt ts k u
field_is ts i u e = told_by ts i.number (same_ty i.ty (variant.Int 32)) u e

element_is : (is : Bool) (t u : Ty) → cond is (Some t) None ≡ Some u → t ≡ u
element_is false t u e = none_is u e
element_is true t u e = some_is t u e

module _ (types : List NamedTy) where
  all_at : (ts : List Ty) → AllByRecursion (IsClear types) ts → (k : ℕ) (u : Ty) → IsAt ts k u → IsClear types u
  all_at [] all k u at = absurd at
  all_at (t ∷ ts) all zero u at = subst (IsClear types) at all.0
  all_at (t ∷ ts) all (suc k) u at = all_at ts all.1 k u at

  -- ---- each kind of type

  held_small : (t u : Ty) → ((v : Ty) → IsPart [] t v → IsClear types v) → Holds [] t u → is_small types (u, 1) ≡ true
  held_small t u law (part p) = (law u p).0
  held_small t u law (within v p h) = (law v p).1 u h

  by_level : (t : Ty) (level : Ty-F Ty) → out-Ty t ≡ level → is_small types (t, 1) ≡ true → ((u : Ty) → IsPartOf [] u level → IsClear types u) → IsClear types t
  by_level t level e small law = (small, λ u h. held_small t u (λ v p. law v (subst (IsPartOf [] v) e p)) h)

  -- a type without parts, but for what stands behind its name
  pub leaf_clear : (t : Ty) → ((width : ℕ) × (t ≡ Int width)) ⊎ ((u : Ty) × (t ≡ Ptr u)) ⊎ ((x : Name) × (t ≡ Named x)) ⊎ (t ≡ Void) → is_small types (t, 1) ≡ true → IsClear types t
  leaf_clear t (inl int) small = by_level t (ty.Int int.0) (ap out-Ty int.1 ∙ outs-Int int.0) small (λ u p. absurd p)
  leaf_clear t (inr (inl ptr)) small = by_level t (ty.Ptr ptr.0) (ap out-Ty ptr.1 ∙ outs-Ptr ptr.0) small (λ u p. absurd p)
  leaf_clear t (inr (inr (inl named))) small = by_level t (ty.Named named.0) (ap out-Ty named.1 ∙ outs-Named named.0) small (λ u p. none_is p.0 p.1)
  leaf_clear t (inr (inr (inr void))) small = by_level t ty.Void (ap out-Ty void ∙ outs-Void) small (λ u p. absurd p)

  pub array_clear : (n : ℕ) (t : Ty) → is_small types (Array n t, 1) ≡ true → IsClear types t → IsClear types (Array n t)
  array_clear n t small clear = by_level (Array n t) (ty.Array n t) (outs-Array n t) small (λ u p. subst (IsClear types) p clear)

  pub struct_clear : (ts : List Ty) → is_small types (Struct ts, 1) ≡ true → AllByRecursion (IsClear types) ts → IsClear types (Struct ts)
  struct_clear ts small all = by_level (Struct ts) (ty.Struct ts) (outs-Struct ts) small (λ u p. all_at ts all p.0 u p.1)

  -- ---- what is entered

  or_fields : (is : Bool) (a b : Option (List Ty)) → IsNamedClear types a → IsNamedClear types b → IsNamedClear types (cond is a b)
  or_fields false a b one other = other
  or_fields true a b one other = one

  one_clear : (named : List NamedTy) → AreClear types named → (x : Name) → IsNamedClear types (fields_of named x)
  one_clear [] all x = tt
  one_clear (n ∷ named) all x = or_fields (same_name n.name x) n.fields (fields_of named x) all.0 (one_clear named all.1 x)

  its_fields : (o : Option (List Ty)) → IsNamedClear types o → AllByRecursion (IsClear types) (fields_or_none o)
  its_fields None clear = tt
  its_fields (Some fields) clear = clear.0

  fields_clear : (named : List NamedTy) → AreClear types named → (x : Name) → AllByRecursion (IsClear types) (fields_or_none (fields_of named x))
  fields_clear named all x = its_fields (fields_of named x) (one_clear named all x)

  -- a name lies as its struct does
  name_is : (x : Name) → layout_of types (Named x) ≡ option_and_then (λ fields. layout_of types (Struct fields)) (fields_of types x)
  name_is x = fold.at_named (Option Layout) (layout_level (layout_of_name (found_in types))) x ∙ names_are_structs types x

  struct_small : (o : Option (List Ty)) → IsNamedClear types o → is_none_larger (block_in (option_and_then (λ fields. layout_of types (Struct fields)) o) 1) ≡ true
  struct_small None clear = refl
  struct_small (Some fields) clear = clear.1

  pub name_clear : AreClear types types → (x : Name) → IsClear types (Named x)
  name_clear all x =
      leaf_clear (Named x) (inr (inr (inl (x, refl)))) (ap (λ o. is_none_larger (block_in o 1)) (name_is x) ∙ struct_small (fields_of types x) (one_clear types all x))

  module _ (named : AreClear types types) where
    level_clear : (level : Ty-F Ty) → ((u : Ty) → IsPartOf [] u level → IsClear types u) → (i : Index) (u : Ty) → entered_at_level types level i ≡ Some u → IsClear types u
    level_clear (ty.Int width) law i u e = none_is u e
    level_clear (ty.Ptr t) law i u e = none_is u e
    level_clear (ty.Array n t) law i u e = law u (element_is (is_integer i.ty) t u e)
    level_clear (ty.Struct ts) law i u e = law u (field_is ts i u e)
    level_clear (ty.Named x) law i u e =
        let at = field_is (fields_or_none (fields_of types x)) i u e in
        all_at (fields_or_none (fields_of types x)) (fields_clear types named x) at.0 u at.1
    level_clear ty.Void law i u e = none_is u e

    entered_clear : (t : Ty) → IsClear types t → (i : Index) (u : Ty) → entered types t i ≡ Some u → IsClear types u
    entered_clear t clear i u e = level_clear (out-Ty t) (λ v p. (clear.1 v (part p), λ w h. clear.1 w (within v p h))) i u e

    abbrev IsSmallAlong : List Index → Ty → Type 0
    IsSmallAlong is t = are_small types (one_of_each (entered_along types t is)) ≡ true

    behind : (is : List Index) → ((u : Ty) → IsClear types u → IsSmallAlong is u) → (entered : Option Ty) → ((u : Ty) → entered ≡ Some u → IsClear types u)
        → are_small types (one_of_each (entered_behind (λ u. entered_along types u is) entered)) ≡ true
    behind is further None law = refl
    behind is further (Some u) law =
        let clear = law u refl in
        both (is_small types (u, 1)) (are_small types (one_of_each (entered_along types u is))) clear.0 (further u clear)

    along : (is : List Index) (t : Ty) → IsClear types t → IsSmallAlong is t
    along [] t clear = refl
    along (i ∷ is) t clear = behind is (along is) (entered types t i) (entered_clear t clear i)

    pub stepped_clear : (t : Ty) → IsClear types t → (is : List Index) → stepped_small types t is ≡ true
    stepped_clear t clear [] = both (is_small types (t, 1)) true clear.0 refl
    stepped_clear t clear (i ∷ is) = both (is_small types (t, 1)) (are_small types (one_of_each (entered_along types t is))) clear.0 (along is t clear)
