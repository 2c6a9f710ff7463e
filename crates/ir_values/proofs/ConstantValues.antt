-- Constants are worth values of the kinds of their stated types.
use Rattle.std.proofs.Common.{◌≡◌, ℕ, ◌^◌, suc, Bool, true, false, ◌&&◌, cond, List, [], ◌∷◌, map, Option, None, Some, refl, sym, ap, subst, ◌∙◌, arith}
use Rattle.std.specs.Prelude.{pos}
use Rattle.std.specs.Option.{option_map}
use Rattle.std.proofs.lemmas.Bool.{false≢true, ltb-true}
use Rattle.ir_types.specs.declared.names.Name.{Name}
use Rattle.ir_types.specs.declared.ty.Ty.{Ty, Int, Ptr}
use Rattle.ir_types.specs.declared.ty.Ty.TheViews.{outs-Int, outs-Ptr}
use Rattle.ir_types.specs.declared.named.NamedTy.{NamedTy}
use Rattle.ir_types.specs.NameLaws.{left_true, right_true, same_nat_true}
use Rattle.ir_types.specs.Named.{is_sized}
use Rattle.ir_types.specs.Same.{same_name, same_ty}
use Rattle.ir_types.proofs.SameLaws.{same_ty_true}
use Rattle.ir_core.proofs.Constants as constants
use Rattle.ir_core.proofs.Constants.{EachOf}
use Rattle.ir_core.specs.declared.modules.GlobalVar.{GlobalVar}
use Rattle.ir_core.specs.declared.operands.CastOp.TheVariants as conversion
use Rattle.ir_core.specs.declared.operands.Const.{Const, Cast, Element, Global, Null, Number, Undef as UndefConst, fold-Const}
use Rattle.ir_core.specs.declared.operands.Const.TheOpen.{Const-F}
use Rattle.ir_core.specs.declared.operands.Const.TheOpen as part
use Rattle.ir_core.specs.declared.values.Kind.{Kind}
use Rattle.ir_core.specs.declared.values.Kind.TheVariants as kind
use Rattle.ir_core.specs.declared.values.Value.{Value}
use Rattle.ir_core.specs.declared.values.Value.TheVariants as value
use Rattle.ir_core.specs.Types.{converts, fits, is_integer, is_pointer, is_width, is_pointer_at_level, kind_of}
use Rattle.ir_core.specs.Typing.{Fitting, Index, are_typed, contents_of, element_type, fitting_at_level, index_at, is_address, is_cast, is_due, led_to}
use Rattle.ir_values.specs.Constants.{Part, Scope, address_of_part, global_at, index_in, is_of_type, number_value, part_value, recast_part, size_behind, worth, worth_at_level}
use Rattle.ir_values.specs.ConstantLaws.{ConstantsAreInKind}
use Rattle.ir_values.specs.Values.{IsInKind, IsInKindOf}
use Rattle.ir_values.proofs.KindLaws.{poison_in_kind, undef_in_kind}
use Rattle.ir_values.proofs.Moved.{gep_in_kind}

-- ---- kinds of types

pub no_pointer_int : (w : ℕ) → is_pointer (Int w) ≡ false
no_pointer_int w = ap is_pointer_at_level (outs-Int w)

pub pointer_kind : (t : Ty) → is_pointer t ≡ true → kind_of t ≡ Some kind.Ptr
pointer_kind (Int w) h = cc (no_pointer_int w)
pointer_kind t h = ap (λ b. cond b (Some kind.Ptr) None) h

pub is_pointer_to : (t : Ty) → is_pointer (Ptr t) ≡ true
is_pointer_to t = ap is_pointer_at_level (outs-Ptr t)

same_kinds : (from to : Ty) → converts conversion.BitCast from to ≡ true → kind_of from ≡ kind_of to
same_kinds (Int v) (Int w) h = ap (λ n. kind_of (Int n)) (same_nat_true v w h)
same_kinds (Int v) to h = cc (no_pointer_int v, left_true (is_pointer (Int v)) (is_pointer to) h)
same_kinds from to h = pointer_kind from (left_true (is_pointer from) (is_pointer to) h) ∙ sym (pointer_kind to (right_true (is_pointer from) (is_pointer to) h))

-- a value of addresses at a pointer type
at_pointer : (t : Ty) (k : Kind) (v : Value) → kind_of t ≡ Some k → is_pointer t ≡ true → IsInKind kind.Ptr v → IsInKind k v
at_pointer t k v h pointer is = let e : kind.Ptr ≡ k = cc (pointer_kind t pointer) in subst (λ j. IsInKind j v) e is

-- ---- constants

number_in_kind : (n : ℕ) (t : Ty) (k : Kind) → kind_of t ≡ Some k → IsInKind k (number_value n t)
number_in_kind n (Int w) k h = at (fits n w) refl (of k h)
  where
    of : (j : Kind) → kind_of (Int w) ≡ Some j → j ≡ kind.Int w
    of j e = found (is_width w) e
      where
        found : (b : Bool) → cond b (Some (kind.Int w)) None ≡ Some j → j ≡ kind.Int w
        found true e = cc
        found false e = cc

    at : (b : Bool) → fits n w ≡ b → k ≡ kind.Int w → IsInKind k (cond b (value.Num n) value.Poison)
    at true e is = subst (λ j. IsInKind j (value.Num n)) (sym is) (ltb-true n (2 ^ w) e)
    at false e is = poison_in_kind k
number_in_kind n t k h = poison_in_kind k

global_in_kind : (place : ℕ) (globals : List GlobalVar) (x : Name) → IsInKind kind.Ptr (global_at place globals x)
global_in_kind place [] x = tt
global_in_kind place (g ∷ gs) x = at (global_in_kind (suc place) gs x) (same_name g.name x)
  where
    at : IsInKind kind.Ptr (global_at (suc place) gs x) → (b : Bool) → IsInKind kind.Ptr (cond b (value.Ptr place (pos 0)) (global_at (suc place) gs x))
    at rest true = record { sfits = omega arith }
    at rest false = rest

part_in_kind : (scope : Scope) (inbounds : Bool) (of : Ty) (parts : List Part) → IsInKind kind.Ptr (address_of_part scope inbounds of parts)
part_in_kind scope inbounds of [] = tt
part_in_kind scope inbounds of (base ∷ indices) = gep_in_kind inbounds scope.types of (part_value base) (size_behind scope (part_value base)) (map index_in indices)

-- what is due is a pointer
pub due_pointer : (o : Option Ty) (t : Ty) → is_due (option_map Ptr o) t ≡ true → is_pointer t ≡ true
due_pointer None t h = cc
due_pointer (Some u) t h = subst (λ v. is_pointer v ≡ true) (same_ty_true (Ptr u) t h) (is_pointer_to u)

pub element_pointer : (types : List NamedTy) (of : Ty) (is : List Index) (t : Ty) → is_due (element_type types of is) t ≡ true → is_pointer t ≡ true
element_pointer types of [] t h = due_pointer (Some of) t h
element_pointer types of (i ∷ is) t h = at (is_integer i.ty) h
  where
    at : (b : Bool) → is_due (cond b (option_map Ptr (led_to types of is)) None) t ≡ true → is_pointer t ≡ true
    at true h = due_pointer (led_to types of is) t h
    at false h = cc

module _ (scope : Scope) where
  abbrev fitting : Const → Fitting
  fitting c = fold-Const Fitting (fitting_at_level scope.types scope.globals) c

  -- of a constant that is of its type
  abbrev Fine : Const → Type 0
  Fine c = (t : Ty) (k : Kind) → kind_of t ≡ Some k → is_of_type scope t c ≡ true → IsInKind k (worth scope c t)

  -- the same, by what a constant's level tells
  abbrev Told : (Ty → Bool) → (Ty → Value) → Type 0
  Told is_of value_at = (t : Ty) (k : Kind) → kind_of t ≡ Some k → is_of t ≡ true → IsInKind k (value_at t)

  by_level : (c : Const) (level : Fitting) (value_at : Ty → Value) → fitting c ≡ level → worth scope c ≡ value_at → Told level.is_of value_at → Fine c
  by_level c level value_at fits is told t k h e =
      subst (λ (f : Ty → Value). IsInKind k (f t)) (sym is) (told t k h (ap (λ (f : Fitting). f.is_of t) (sym fits) ∙ e))

  abbrev step : Const-F Fitting → Fitting
  step = fitting_at_level scope.types scope.globals

  abbrev value_step : Const-F (Ty → Value) → Ty → Value
  value_step = worth_at_level scope

  fine_number : (n : ℕ) → Fine (Number n)
  fine_number n = by_level (Number n) (step (part.Number n)) (value_step (part.Number n))
      (constants.at_number Fitting step n) (constants.at_number (Ty → Value) value_step n) (λ t k h e. number_in_kind n t k h)

  fine_undef : Fine UndefConst
  fine_undef = by_level UndefConst (step part.Undef) (value_step part.Undef)
      (constants.at_undef Fitting step) (constants.at_undef (Ty → Value) value_step) (λ t k h e. undef_in_kind k)

  fine_null : Fine Null
  fine_null = by_level Null (step part.Null) (value_step part.Null)
      (constants.at_null Fitting step) (constants.at_null (Ty → Value) value_step) (λ t k h e. at_pointer t k (value.Bare 0) h e (omega arith))

  fine_global : (x : Name) → Fine (Global x)
  fine_global x = by_level (Global x) (step (part.Global x)) (value_step (part.Global x))
      (constants.at_global Fitting step x) (constants.at_global (Ty → Value) value_step x)
      (λ t k h e. at_pointer t k (global_at 0 scope.globals x) h (due_pointer (contents_of scope.globals x) t e) (global_in_kind 0 scope.globals x))

  address_pointer : (of : Ty) (parts : List (Ty × Fitting)) (t : Ty) → is_address scope.types of parts t ≡ true → is_pointer t ≡ true
  address_pointer of [] t h = cc
  address_pointer of (base ∷ indices) t h =
      let due = is_due (element_type scope.types of (map index_at indices)) t in
      element_pointer scope.types of (map index_at indices) t (right_true (same_ty base.0 (Ptr of) && is_sized scope.types of) due h)

  fine_element : (inbounds : Bool) (of : Ty) (cs : List (Ty × Const)) → EachOf Fine cs → Fine (Element (inbounds, of, cs))
  fine_element inbounds of cs each =
      let told = constants.folded_parts Fitting step cs in
      let values = constants.folded_parts (Ty → Value) value_step cs in
      by_level (Element (inbounds, of, cs)) (step (part.Element (inbounds, of, told))) (value_step (part.Element (inbounds, of, values)))
      (constants.at_element Fitting step inbounds of cs) (constants.at_element (Ty → Value) value_step inbounds of cs)
      (λ t k h e. at_pointer t k (address_of_part scope inbounds of values) h
      (address_pointer of told t (right_true (are_typed told) (is_address scope.types of told t) e)) (part_in_kind scope inbounds of values))

  recast_fine : (to : Ty) (cs : List (Ty × Const)) → EachOf Fine cs
      → Told (λ t. are_typed (constants.folded_parts Fitting step cs) && is_cast to (constants.folded_parts Fitting step cs) && same_ty to t)
      (λ t. recast_part (constants.folded_parts (Ty → Value) value_step cs))
  recast_fine to [] each t k h e = cc
  recast_fine to (c ∷ []) each t k h e =
      let typed = are_typed (constants.folded_parts Fitting step (c ∷ [])) in
      let cast = is_cast to (constants.folded_parts Fitting step (c ∷ [])) in
      let both = left_true (typed && cast) (same_ty to t) e in
      let one : to ≡ t = same_ty_true to t (right_true (typed && cast) (same_ty to t) e) in
      let kinds : kind_of c.0 ≡ kind_of t = same_kinds c.0 to (right_true typed cast both) ∙ ap kind_of one in
      each.0 c.0 k (kinds ∙ h) (left_true ((fitting c.1).is_of c.0) true (left_true typed cast both))
  recast_fine to (c ∷ d ∷ cs) each t k h e =
      let typed = are_typed (constants.folded_parts Fitting step (c ∷ d ∷ cs)) in
      let no : false ≡ true = right_true typed false (left_true (typed && false) (same_ty to t) e) in
      absurd (false≢true no)

  fine_cast : (to : Ty) (cs : List (Ty × Const)) → EachOf Fine cs → Fine (Cast (to, cs))
  fine_cast to cs each =
      let told = constants.folded_parts Fitting step cs in
      let values = constants.folded_parts (Ty → Value) value_step cs in
      by_level (Cast (to, cs)) (step (part.Cast (to, told))) (value_step (part.Cast (to, values)))
      (constants.at_cast Fitting step to cs) (constants.at_cast (Ty → Value) value_step to cs) (recast_fine to cs each)

  pub all_fine : (c : Const) → Fine c
  all_fine = constants.by_parts Fine fine_number fine_undef fine_null fine_global fine_element fine_cast

pub constants_in_kind : ConstantsAreInKind
constants_in_kind scope t c k h = at (is_of_type scope t c) refl
  where
    at : (b : Bool) → is_of_type scope t c ≡ b → IsInKind k (cond b (worth scope c t) value.Poison)
    at true e = all_fine scope c t k h e
    at false e = poison_in_kind k

pub worth_in_kind : (scope : Scope) (t : Ty) (c : Const) (v : Value) → is_of_type scope t c ≡ true → v ≡ worth scope c t → IsInKindOf (kind_of t) v
worth_in_kind scope t c v typed is = subst (IsInKindOf (kind_of t)) (sym is) (at (kind_of t) refl)
  where
    at : (o : Option Kind) → kind_of t ≡ o → IsInKindOf o (worth scope c t)
    at None e = tt
    at (Some k) e = all_fine scope c t k e typed
