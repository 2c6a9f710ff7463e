-- What an index of a width and a value enters in each kind of type.
use Rattle.std.proofs.Common.{◌≡◌, ◌∙◌, ℕ, Bool, true, false, cond, List, ◌∷◌, map, slice_get, Option, None, Some, refl, sym, ap}
use Rattle.std.specs.Option.{is_some, option_and_then, option_map}
use Rattle.ir_core.specs.Typing.{Index, entered, entered_at_level, field_at, led_to}
use Rattle.ir_types.specs.declared.named.NamedTy.{NamedTy}
use Rattle.ir_types.specs.declared.names.Name.{Name}
use Rattle.ir_types.specs.declared.ty.Ty.{Ty, Int, Ptr, Array, Struct, Named, Void}
use Rattle.ir_types.specs.declared.ty.Ty.TheOpen.{Ty-F}
use Rattle.ir_types.specs.declared.ty.Ty.TheViews.{outs-Int, outs-Ptr, outs-Array, outs-Struct, outs-Named, outs-Void}
use Rattle.ir_types.specs.Same.{same_ty}
use Rattle.ir_types.proofs.SameLaws.{same_ty_true}
use Rattle.ir_types.specs.Named.{fields_of, fields_or_none}
use Rattle.ir_values.specs.Addresses.{GivenIndex, distance, distances, distances_inside, over, told_index}
use Rattle.ir_values.specs.Constants.{width_of}
use Rattle.ir_values.specs.Values.{as_number}
use Rattle.ir_values.proofs.Moved.{inside_follows}

module _ (types : List NamedTy) where
  pub of_int : (width : ℕ) (i : Index) → entered types (Int width) i ≡ None
  of_int width i = ap (λ (level : Ty-F Ty). entered_at_level types level i) (outs-Int width)

  pub of_ptr : (t : Ty) (i : Index) → entered types (Ptr t) i ≡ None
  of_ptr t i = ap (λ (level : Ty-F Ty). entered_at_level types level i) (outs-Ptr t)

  pub of_array : (n : ℕ) (t : Ty) (i : GivenIndex) → entered types (Array n t) (told_index i) ≡ Some t
  of_array n t i = ap (λ (level : Ty-F Ty). entered_at_level types level (told_index i)) (outs-Array n t)

  pub of_struct : (ts : List Ty) (i : Index) → entered types (Struct ts) i ≡ field_at ts i
  of_struct ts i = ap (λ (level : Ty-F Ty). entered_at_level types level i) (outs-Struct ts)

  pub of_named : (x : Name) (i : Index) → entered types (Named x) i ≡ field_at (fields_or_none (fields_of types x)) i
  of_named x i = ap (λ (level : Ty-F Ty). entered_at_level types level i) (outs-Named x)

  pub of_void : (i : Index) → entered types Void i ≡ None
  of_void i = ap (λ (level : Ty-F Ty). entered_at_level types level i) outs-Void

-- what indices do one after the other, by what the first enters
module _ (types : List NamedTy) (t : Ty) (i : GivenIndex) (is : List GivenIndex) where
  pub enters : (u : Ty) → entered types t (told_index i) ≡ Some u
      → distances_inside types t (i ∷ is) ≡ option_map (λ ds. distance types t i ∷ ds) (distances_inside types u is)
  enters u e = ap (option_and_then (λ u. option_map (λ ds. distance types t i ∷ ds) (distances_inside types u is))) e

  pub enters_none : entered types t (told_index i) ≡ None → distances_inside types t (i ∷ is) ≡ None
  enters_none e = ap (option_and_then (λ u. option_map (λ ds. distance types t i ∷ ds) (distances_inside types u is))) e

some_mapped : {A B : Type 0} (f : A → B) (o : Option A) → is_some (option_map f o) ≡ is_some o
some_mapped f None = refl
some_mapped f (Some x) = refl

pub leads_on : (types : List NamedTy) (of : Ty) (i : GivenIndex) (is : List GivenIndex) → is_some (distances types of (i ∷ is)) ≡ is_some (led_to types of (map told_index is))
leads_on types of i is = some_mapped (λ ds. over types of i ∷ ds) (distances_inside types of is) ∙ inside_follows types of is

-- ---- fields, by a number of i32

pub by_number : (fields : List Ty) (i : GivenIndex) (n : ℕ) (field : Option Ty) → i.0 ≡ 32 → as_number i.1 ≡ Some n → field ≡ slice_get fields n
    → field ≡ field_at fields (told_index i)
by_number fields i n field wide is got =
    got
    ∙ sym (ap (λ (o : Option ℕ). option_and_then (slice_get fields) o) is)
    ∙ sym (ap (λ w. cond (same_ty (Int w) (Int 32)) (option_and_then (slice_get fields) (as_number i.1)) None) wide)

no_field : (b : Bool) (o : Option Ty) → o ≡ None → cond b o None ≡ None
no_field true o e = e
no_field false o e = refl

pub no_number : (fields : List Ty) (i : GivenIndex) → as_number i.1 ≡ None → field_at fields (told_index i) ≡ None
no_number fields i is =
    ap (λ (o : Option ℕ). cond (same_ty (Int i.0) (Int 32)) (option_and_then (slice_get fields) o) None) is ∙ no_field (same_ty (Int i.0) (Int 32)) None refl

pub other_width : (fields : List Ty) (i : GivenIndex) → (i.0 ≡ 32 → ⊥) → field_at fields (told_index i) ≡ None
other_width fields i other = at (same_ty (Int i.0) (Int 32)) refl
  where
    at : (b : Bool) → same_ty (Int i.0) (Int 32) ≡ b → cond b (option_and_then (slice_get fields) (as_number i.1)) None ≡ None
    at true e = absurd (other (ap width_of (same_ty_true (Int i.0) (Int 32) e)))
    at false e = refl
