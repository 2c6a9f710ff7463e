-- A constant that is one of a type is one of a type of values.
use Rattle.std.proofs.Common.{◌≡◌, ◌∙◌, ℕ, ◌&&◌, Bool, true, List, [], ◌∷◌, map, Option, Some, None, refl, ap, sym}
use Rattle.std.specs.Option.{option_map}
use Rattle.std.proofs.lemmas.Bool.{and_parts, cond_both}
use Rattle.ir_types.specs.declared.named.NamedTy.{NamedTy}
use Rattle.ir_types.specs.declared.names.Name.{Name}
use Rattle.ir_types.specs.declared.ty.Ty.{Ty, Int, Ptr}
use Rattle.ir_types.specs.Same.{same_ty}
use Rattle.ir_types.proofs.SameLaws.{same_ty_true}
use Rattle.ir_core.specs.declared.modules.Module.{Module}
use Rattle.ir_core.specs.declared.operands.Const.{Const, Number, Undef, Null, Global, Element, Cast, fold-Const}
use Rattle.ir_core.specs.declared.operands.Const.TheOpen.{Const-F}
use Rattle.ir_core.specs.Types.{is_first_class, is_integer, is_pointer, is_recast}
use Rattle.ir_core.specs.Typing.{Fitting, Index, are_typed, contents_of, element_type, fitting_at_level, index_at, is_address, is_cast, is_constant_of, is_due, led_to}
use Rattle.ir_core.proofs.Constants as fold
use Rattle.ir_core.proofs.Typing as typing

pub integer_is : (t : Ty) → is_integer t ≡ true → is_first_class t ≡ true
integer_is (Int width) is = refl
integer_is t is = absurd (cc)

pub pointer_is : (t : Ty) → is_pointer t ≡ true → is_first_class t ≡ true
pointer_is (Int width) is = refl
pointer_is t is = is

pub due_is : (o : Option Ty) (t : Ty) → is_due (option_map Ptr o) t ≡ true → is_first_class t ≡ true
due_is None t is = absurd (cc)
due_is (Some u) t is = ap is_first_class (sym (same_ty_true (Ptr u) t is)) ∙ typing.at_ptr u

address_is : (types : List NamedTy) (of : Ty) (is : List Index) (t : Ty) → is_due (element_type types of is) t ≡ true → is_first_class t ≡ true
address_is types of [] t = due_is (Some of) t
address_is types of (i ∷ is) t =
    cond_both (is_integer i.ty) (option_map Ptr (led_to types of is)) None (λ o. is_due o t ≡ true → is_first_class t ≡ true)
    (λ integer due. due_is (led_to types of is) t due) (λ other due. due_is None t due)

recast_is : (from to : Ty) → is_recast from to ≡ true → is_first_class to ≡ true
recast_is (Int many) (Int few) is = refl
recast_is from to is = pointer_is to (and_parts (is_pointer from) (is_pointer to) is).1

cast_is : (to : Ty) (cs : List (Ty × Fitting)) → is_cast to cs ≡ true → is_first_class to ≡ true
cast_is to [] is = absurd (cc)
cast_is to (from ∷ []) is = recast_is from.0 to is
cast_is to (from ∷ more ∷ others) is = absurd (cc)

element_is : (types : List NamedTy) (of : Ty) (cs : List (Ty × Fitting)) (t : Ty) → is_address types of cs t ≡ true → is_first_class t ≡ true
element_is types of [] t is = absurd (cc)
element_is types of (base ∷ indices) t is = address_is types of (map index_at indices) t (and_parts _ _ is).1

module _ (m : Module) where
  -- what is asked of a constant beside the module
  abbrev pub fitted : Const → Fitting
  fitted = fold-Const Fitting (fitting_at_level m.types m.globals)

  -- the same of those behind their types
  abbrev pub fitted_parts : List (Ty × Const) → List (Ty × Fitting)
  fitted_parts = fold.folded_parts Fitting (fitting_at_level m.types m.globals)

  abbrev step : Const-F Fitting → Fitting
  step = fitting_at_level m.types m.globals

  pub number_typed : (t : Ty) (n : ℕ) → is_constant_of m t (Number n) ≡ is_integer t
  number_typed t n = ap (λ (f : Fitting). f.is_of t) (fold.at_number Fitting step n)

  pub undef_typed : (t : Ty) → is_constant_of m t Undef ≡ is_first_class t
  undef_typed t = ap (λ (f : Fitting). f.is_of t) (fold.at_undef Fitting step)

  pub null_typed : (t : Ty) → is_constant_of m t Null ≡ is_pointer t
  null_typed t = ap (λ (f : Fitting). f.is_of t) (fold.at_null Fitting step)

  pub global_typed : (t : Ty) (x : Name) → is_constant_of m t (Global x) ≡ is_due (option_map Ptr (contents_of m.globals x)) t
  global_typed t x = ap (λ (f : Fitting). f.is_of t) (fold.at_global Fitting step x)

  pub element_typed : (t : Ty) (inbounds : Bool) (of : Ty) (cs : List (Ty × Const))
      → is_constant_of m t (Element (inbounds, of, cs)) ≡ (are_typed (fitted_parts cs) && is_address m.types of (fitted_parts cs) t)
  element_typed t inbounds of cs = ap (λ (f : Fitting). f.is_of t) (fold.at_element Fitting step inbounds of cs)

  pub cast_typed : (t to : Ty) (cs : List (Ty × Const)) → is_constant_of m t (Cast (to, cs)) ≡ (are_typed (fitted_parts cs) && is_cast to (fitted_parts cs) && same_ty to t)
  cast_typed t to cs = ap (λ (f : Fitting). f.is_of t) (fold.at_cast Fitting step to cs)

  abbrev IsOfValues : Const → Type 0
  IsOfValues c = (t : Ty) → is_constant_of m t c ≡ true → is_first_class t ≡ true

  cast_of_values : (to : Ty) (cs : List (Ty × Const)) → IsOfValues (Cast (to, cs))
  cast_of_values to cs t is =
      let parts = and_parts (are_typed (fitted_parts cs) && is_cast to (fitted_parts cs)) (same_ty to t) (sym (cast_typed t to cs) ∙ is) in
      ap is_first_class (sym (same_ty_true to t parts.1)) ∙ cast_is to (fitted_parts cs) (and_parts (are_typed (fitted_parts cs)) _ parts.0).1

  pub of_values : (c : Const) → IsOfValues c
  of_values =
      fold.by_parts IsOfValues
      (λ n t is. integer_is t (sym (number_typed t n) ∙ is))
      (λ t is. sym (undef_typed t) ∙ is)
      (λ t is. pointer_is t (sym (null_typed t) ∙ is))
      (λ x t is. due_is (contents_of m.globals x) t (sym (global_typed t x) ∙ is))
      (λ inbounds of cs each t is. element_is m.types of (fitted_parts cs) t (and_parts (are_typed (fitted_parts cs)) _ (sym (element_typed t inbounds of cs) ∙ is)).1)
      (λ to cs each. cast_of_values to cs)
