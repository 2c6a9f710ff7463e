-- A constant's type is one of values.
use Rattle.std.proofs.Common.{◌≡◌, ◌∙◌, Bool, true, false, ◌&&◌, cond, List, [], ◌∷◌, map, Option, Some, None, refl, sym, ap, subst}
use Rattle.std.specs.Option.{option_map}
use Rattle.ir_core.specs.declared.modules.Module.{Module}
use Rattle.ir_core.specs.declared.operands.Const.{Const, Element, Cast}
use Rattle.ir_core.specs.Types.{is_first_class, is_integer, is_pointer, is_recast}
use Rattle.ir_core.specs.Typing.{Fitting, Index, are_typed, contents_of, element_type, fitting_at_level, index_at, is_address, is_cast, is_constant_of, is_due, led_to}
use Rattle.ir_core.proofs.Constants as constants
use Rattle.ir_core.proofs.Typing.{at_ptr}
use Rattle.ir_types.specs.declared.named.NamedTy.{NamedTy}
use Rattle.ir_types.specs.declared.ty.Ty.{Ty, Ptr}
use Rattle.ir_types.specs.declared.ty.Ty.TheVariants as ty
use Rattle.ir_types.specs.Named.{is_sized}
use Rattle.ir_types.specs.NameLaws.{right_true}
use Rattle.ir_types.specs.Same.{same_ty}
use Rattle.ir_types.proofs.SameLaws.{same_ty_true}

abbrev HasValues : Ty → Type 0
HasValues t = is_first_class t ≡ true

integer_values : (t : Ty) → is_integer t ≡ true → HasValues t
integer_values (ty.Int width) e = refl
integer_values t e = absurd cc

pointer_values : (t : Ty) → is_pointer t ≡ true → HasValues t
pointer_values (ty.Int width) e = refl
pointer_values t e = e

-- ---- addresses

pointer_to : (target t : Ty) → same_ty (Ptr target) t ≡ true → HasValues t
pointer_to target t e = subst HasValues (same_ty_true (Ptr target) t e) (at_ptr target)

due_values : (o : Option Ty) (t : Ty) → is_due (option_map Ptr o) t ≡ true → HasValues t
due_values None t e = absurd cc
due_values (Some target) t e = pointer_to target t e

element_values : (types : List NamedTy) (of : Ty) (is : List Index) (t : Ty) → is_due (element_type types of is) t ≡ true → HasValues t
element_values types of [] t e = pointer_to of t e
element_values types of (i ∷ is) t e = by (is_integer i.ty) e
  where
    by : (b : Bool) → is_due (cond b (option_map Ptr (led_to types of is)) None) t ≡ true → HasValues t
    by true e = due_values (led_to types of is) t e
    by false e = absurd cc

address_values : (types : List NamedTy) (of : Ty) (ps : List (Ty × Fitting)) (t : Ty) → is_address types of ps t ≡ true → HasValues t
address_values types of [] t e = absurd cc
address_values types of (base ∷ indices) t e =
    let indexed = map index_at indices in
    element_values types of indexed t (right_true (same_ty base.0 (Ptr of) && is_sized types of) (is_due (element_type types of indexed) t) e)

-- ---- casts

recast_values : (from to : Ty) → is_recast from to ≡ true → HasValues to
recast_values (ty.Int width) (ty.Int same) e = refl
recast_values from to e = pointer_values to (right_true (is_pointer from) (is_pointer to) e)

cast_values : (to : Ty) (ps : List (Ty × Fitting)) → is_cast to ps ≡ true → HasValues to
cast_values to [] e = absurd cc
cast_values to (from ∷ []) e = recast_values from.0 to e
cast_values to (from ∷ other ∷ ps) e = absurd cc

-- ---- constants

module _ (m : Module) where
  abbrev GivesValues : Const → Type 0
  GivesValues c = (t : Ty) → is_constant_of m t c ≡ true → HasValues t

  -- what is asked of the constants behind their types
  abbrev fitted : List (Ty × Const) → List (Ty × Fitting)
  fitted = constants.folded_parts Fitting (fitting_at_level m.types m.globals)

  of_element : (inbounds : Bool) (of : Ty) (cs : List (Ty × Const)) → GivesValues (Element (inbounds, of, cs))
  of_element inbounds of cs t e =
      let same : is_constant_of m t (Element (inbounds, of, cs)) ≡ (are_typed (fitted cs) && is_address m.types of (fitted cs) t) =
      ap (λ (k : Fitting). k.is_of t) (constants.at_element Fitting (fitting_at_level m.types m.globals) inbounds of cs) in
      address_values m.types of (fitted cs) t (right_true (are_typed (fitted cs)) (is_address m.types of (fitted cs) t) (sym same ∙ e))

  of_cast : (to : Ty) (cs : List (Ty × Const)) → GivesValues (Cast (to, cs))
  of_cast to cs t e =
      let same : is_constant_of m t (Cast (to, cs)) ≡ (are_typed (fitted cs) && is_cast to (fitted cs) && same_ty to t) =
      ap (λ (k : Fitting). k.is_of t) (constants.at_cast Fitting (fitting_at_level m.types m.globals) to cs) in
      let both = sym same ∙ e in
      let casts : is_cast to (fitted cs) ≡ true =
      right_true (are_typed (fitted cs)) (is_cast to (fitted cs)) (left_of (are_typed (fitted cs) && is_cast to (fitted cs)) (same_ty to t) both) in
      subst HasValues (same_ty_true to t (right_true (are_typed (fitted cs) && is_cast to (fitted cs)) (same_ty to t) both)) (cast_values to (fitted cs) casts)
    where
      left_of : (a b : Bool) → (a && b) ≡ true → a ≡ true
      left_of true b h = refl
      left_of false b h = h

  pub constant_values : (c : Const) (t : Ty) → is_constant_of m t c ≡ true → is_first_class t ≡ true
  constant_values = constants.by_parts GivesValues
      (λ n t e. integer_values t (sym (ap (λ (k : Fitting). k.is_of t) (constants.at_number Fitting (fitting_at_level m.types m.globals) n)) ∙ e))
      (λ t e. sym (ap (λ (k : Fitting). k.is_of t) (constants.at_undef Fitting (fitting_at_level m.types m.globals))) ∙ e)
      (λ t e. pointer_values t (sym (ap (λ (k : Fitting). k.is_of t) (constants.at_null Fitting (fitting_at_level m.types m.globals))) ∙ e))
      (λ x t e. due_values (contents_of m.globals x) t (sym (ap (λ (k : Fitting). k.is_of t) (constants.at_global Fitting (fitting_at_level m.types m.globals) x)) ∙ e))
      (λ inbounds of cs all. of_element inbounds of cs)
      (λ to cs all. of_cast to cs)
