-- What constants are of and worth, by the constants behind their types.
use Rattle.std.proofs.Common.{◌≡◌, ◌∙◌, ◌^◌, ◌<◌, ℕ, Bool, true, false, ◌&&◌, cond, List, [], ◌∷◌, get_or, length, map, slice_get, Option, None, Some, refl, sym, ap, subst, arith}
use Rattle.std.specs.List.{AllByRecursion, list_all}
use Rattle.std.specs.Option.{option_and_then, option_map}
use Rattle.std.proofs.lemmas.Bool.{false≢true, ltb-true}
use Rattle.ir_types.specs.declared.named.NamedTy.{NamedTy}
use Rattle.ir_types.specs.declared.names.Name.{Name}
use Rattle.ir_types.specs.declared.ty.Ty.{Ty, Int, Ptr, out-Ty}
use Rattle.ir_types.specs.declared.ty.Ty.TheOpen.{Ty-F}
use Rattle.ir_types.specs.declared.ty.Ty.TheOpen as level
use Rattle.ir_types.specs.NameLaws.{left_true, right_true, same_nat_true}
use Rattle.ir_types.specs.Named.{fields_of, fields_or_none, is_sized}
use Rattle.ir_types.specs.Same.{same_ty}
use Rattle.ir_types.proofs.SameLaws.{same_ty_true}
use Rattle.ir_core.proofs.Constants as constants
use Rattle.ir_core.proofs.Constants.{EachOf}
use Rattle.ir_core.specs.declared.operands.CastOp.TheVariants as conversion
use Rattle.ir_core.specs.declared.operands.Const.{Const, Cast, Element, Global, Null, Number, Undef as UndefConst, fold-Const}
use Rattle.ir_core.specs.declared.operands.Const.TheOpen.{Const-F}
use Rattle.ir_core.specs.declared.values.Kind.TheVariants as kind
use Rattle.ir_core.specs.declared.values.Value.{Value}
use Rattle.ir_core.specs.declared.values.Value.TheVariants as value
use Rattle.ir_core.specs.Types.{converts, fits, is_first_class, is_integer, is_pointer, kind_of}
use Rattle.ir_core.specs.Typing.{Fitting, Index, are_typed, contents_of, element_type, entered, entered_at_level, field_at, fitting_at_level, index_at, is_address, is_cast, is_due, led_to}
use Rattle.ir_typing.proofs.OperandTests.Measures.{in_cast, in_constants, in_element, of_constant, of_constants}
use Rattle.ir_typing.specs.OperandTests.Addresses.{index_told, number_of}
use Rattle.ir_values.specs.Addresses.{GivenIndex, IsIndex, gep_value}
use Rattle.ir_values.specs.ConstantParts.{are_of_types, is_recast, leads_to, number_at_level, number_worth, only_part, told_part}
use Rattle.ir_values.specs.Constants.{Part, Scope, address_of_part, global_at, index_in, is_of_type, number_value, recast_part, size_behind, width_of, worth, worth_at_level}
use Rattle.ir_values.specs.Values.{IsInKind}
use Rattle.ir_values.proofs.ConstantValues.{all_fine, due_pointer, element_pointer, is_pointer_to, no_pointer_int, pointer_kind}

-- ---- measures

pub in_first : (c : Const) (e : Bool × Ty × List (Ty × Const)) (p : Ty × Const) (ps : List (Ty × Const)) → c ≡ Element e → e.2 ≡ p ∷ ps → of_constant p.1 < of_constant c
in_first c e p ps is whole =
    let inside : of_constant p.1 < of_constants e.2 = in_constants e.2 0 p (subst (λ (qs : List (Ty × Const)). 0 < length qs) (sym whole) (omega arith)) (sym (ap (λ (qs : List (Ty × Const)). get_or qs 0 p) whole)) in
    subst (λ (d : Const). of_constant p.1 < of_constant d) (sym is) (omega (arith, inside, in_element e))

pub in_only : (c : Const) (k : Ty × List (Ty × Const)) (p : Ty × Const) → c ≡ Cast k → k.1 ≡ p ∷ [] → of_constant p.1 < of_constant c
in_only c k p is whole =
    let inside : of_constant p.1 < of_constants k.1 = in_constants k.1 0 p (subst (λ (qs : List (Ty × Const)). 0 < length qs) (sym whole) (omega arith)) (sym (ap (λ (qs : List (Ty × Const)). get_or qs 0 p) whole)) in
    subst (λ (d : Const). of_constant p.1 < of_constant d) (sym is) (omega (arith, inside, in_cast k))

-- ---- numbers, beside whatever module

abbrev IsTold : Const → Type 0
IsTold c = (t : Ty) → IsInKind (kind.Int (width_of t)) (number_worth c t)

number_is_told : (n : ℕ) (t : Ty) → IsInKind (kind.Int (width_of t)) (number_value n t)
number_is_told n (Int w) = at (fits n w) refl
  where
    at : (b : Bool) → fits n w ≡ b → IsInKind (kind.Int w) (cond b (value.Num n) value.Poison)
    at true e = ltb-true n (2 ^ w) e
    at false e = tt
number_is_told n t = tt

told_by : (c : Const) (f : Ty → Value) → number_worth c ≡ f → ((t : Ty) → IsInKind (kind.Int (width_of t)) (f t)) → IsTold c
told_by c f is each t = subst (λ (g : Ty → Value). IsInKind (kind.Int (width_of t)) (g t)) (sym is) (each t)

only_is_told : (cs : List (Ty × Const)) → EachOf IsTold cs → (t : Ty) → IsInKind (kind.Int (width_of t)) (only_part (constants.folded_parts (Ty → Value) number_at_level cs) t)
only_is_told [] each t = tt
only_is_told (c ∷ []) each t = each.0 t
only_is_told (c ∷ d ∷ cs) each t = tt

all_told : (c : Const) → IsTold c
all_told = constants.by_parts IsTold
    (λ n. told_by (Number n) _ (constants.at_number (Ty → Value) number_at_level n) (number_is_told n))
    (told_by UndefConst _ (constants.at_undef (Ty → Value) number_at_level) (λ t. tt))
    (told_by Null _ (constants.at_null (Ty → Value) number_at_level) (λ t. tt))
    (λ x. told_by (Global x) _ (constants.at_global (Ty → Value) number_at_level x) (λ t. tt))
    (λ inbounds of cs each. told_by (Element (inbounds, of, cs)) _ (constants.at_element (Ty → Value) number_at_level inbounds of cs) (λ t. tt))
    (λ to cs each. told_by (Cast (to, cs)) _ (constants.at_cast (Ty → Value) number_at_level to cs) (only_is_told cs each))

pub told_are_indices : (ps : List (Ty × Const)) → AllByRecursion IsIndex (map told_part ps)
told_are_indices [] = tt
told_are_indices (p ∷ ps) = (all_told p.1 p.0, told_are_indices ps)

-- ---- types

module _ (scope : Scope) where
  abbrev fitting : Const → Fitting
  fitting c = fold-Const Fitting (fitting_at_level scope.types scope.globals) c

  abbrev step : Const-F Fitting → Fitting
  step = fitting_at_level scope.types scope.globals

  number_is : (c : Const) → (fitting c).number ≡ number_of c
  number_is = constants.by_parts (λ c. (fitting c).number ≡ number_of c)
      (λ n. ap (λ (f : Fitting). f.number) (constants.at_number Fitting step n))
      (ap (λ (f : Fitting). f.number) (constants.at_undef Fitting step))
      (ap (λ (f : Fitting). f.number) (constants.at_null Fitting step))
      (λ x. ap (λ (f : Fitting). f.number) (constants.at_global Fitting step x))
      (λ inbounds of cs all. ap (λ (f : Fitting). f.number) (constants.at_element Fitting step inbounds of cs))
      (λ to cs all. ap (λ (f : Fitting). f.number) (constants.at_cast Fitting step to cs))

  index_is : (p : Ty × Const) → index_at (p.0, fitting p.1) ≡ index_told p
  index_is p = ap (λ (n : Option ℕ). record { ty = p.0; number = n }) (number_is p.1)

  indices_are : (ps : List (Ty × Const)) → map index_at (constants.folded_parts Fitting step ps) ≡ map index_told ps
  indices_are [] = refl
  indices_are (p ∷ ps) = λ i. index_is p i ∷ indices_are ps i

  typed_are : (ps : List (Ty × Const)) → are_typed (constants.folded_parts Fitting step ps) ≡ are_of_types scope ps
  typed_are [] = refl
  typed_are (p ∷ ps) = ap (λ b. is_of_type scope p.0 p.1 && b) (typed_are ps)

  address_is : (of : Ty) (ps : List (Ty × Const)) (t : Ty) → is_address scope.types of (constants.folded_parts Fitting step ps) t ≡ leads_to scope.types of ps t
  address_is of [] t = refl
  address_is of (base ∷ indices) t =
      ap (λ (is : List Index). same_ty base.0 (Ptr of) && is_sized scope.types of && is_due (element_type scope.types of is) t) (indices_are indices)

  recast_is : (typed : Bool) (to : Ty) (ps : List (Ty × Const)) (t : Ty) → (typed && is_cast to (constants.folded_parts Fitting step ps) && same_ty to t) ≡ (typed && is_recast to ps t)
  recast_is true to [] t = refl
  recast_is true to (from ∷ []) t = refl
  recast_is true to (from ∷ other ∷ ps) t = refl
  recast_is false to ps t = refl

  pub of_number : (t : Ty) (n : ℕ) → is_of_type scope t (Number n) ≡ is_integer t
  of_number t n = ap (λ (f : Fitting). f.is_of t) (constants.at_number Fitting step n)

  pub of_undef : (t : Ty) → is_of_type scope t UndefConst ≡ is_first_class t
  of_undef t = ap (λ (f : Fitting). f.is_of t) (constants.at_undef Fitting step)

  pub of_null : (t : Ty) → is_of_type scope t Null ≡ is_pointer t
  of_null t = ap (λ (f : Fitting). f.is_of t) (constants.at_null Fitting step)

  pub of_global : (t : Ty) (x : Name) → is_of_type scope t (Global x) ≡ is_due (option_map Ptr (contents_of scope.globals x)) t
  of_global t x = ap (λ (f : Fitting). f.is_of t) (constants.at_global Fitting step x)

  pub of_element : (t : Ty) (e : Bool × Ty × List (Ty × Const)) → is_of_type scope t (Element e) ≡ (are_of_types scope e.2 && leads_to scope.types e.1 e.2 t)
  of_element t e =
      ap (λ (f : Fitting). f.is_of t) (constants.at_element Fitting step e.0 e.1 e.2)
      ∙ ap (λ b. b && is_address scope.types e.1 (constants.folded_parts Fitting step e.2) t) (typed_are e.2)
      ∙ ap (λ b. are_of_types scope e.2 && b) (address_is e.1 e.2 t)

  pub of_cast : (t : Ty) (c : Ty × List (Ty × Const)) → is_of_type scope t (Cast c) ≡ (are_of_types scope c.1 && is_recast c.0 c.1 t)
  of_cast t c =
      ap (λ (f : Fitting). f.is_of t) (constants.at_cast Fitting step c.0 c.1)
      ∙ ap (λ b. b && is_cast c.0 (constants.folded_parts Fitting step c.1) && same_ty c.0 t) (typed_are c.1)
      ∙ recast_is (are_of_types scope c.1) c.0 c.1 t

  -- as it is found of what is lent
  pub element_found : (t : Ty) (e f : Bool × Ty × List (Ty × Const)) (ps : List (Ty × Const)) (typed leads : Bool) → f ≡ e → ps ≡ f.2
      → typed ≡ are_of_types scope ps → leads ≡ leads_to scope.types f.1 ps t → (typed && leads) ≡ is_of_type scope t (Element e)
  element_found t e f ps typed leads lent parts each at =
      let all = parts ∙ ap (λ (g : Bool × Ty × List (Ty × Const)). g.2) lent in
      ap (λ b. b && leads) (each ∙ ap (are_of_types scope) all)
      ∙ ap (λ b. are_of_types scope e.2 && b) (at ∙ ap (λ (g : Bool × Ty × List (Ty × Const)). leads_to scope.types g.1 ps t) lent ∙ ap (λ (qs : List (Ty × Const)). leads_to scope.types e.1 qs t) all)
      ∙ sym (of_element t e)

  pub cast_found : (t : Ty) (c d : Ty × List (Ty × Const)) (ps : List (Ty × Const)) (typed recast : Bool) → d ≡ c → ps ≡ d.1
      → typed ≡ are_of_types scope ps → recast ≡ is_recast d.0 ps t → (typed && recast) ≡ is_of_type scope t (Cast c)
  cast_found t c d ps typed recast lent parts each by =
      let all = parts ∙ ap (λ (g : Ty × List (Ty × Const)). g.1) lent in
      let to = ap (λ (g : Ty × List (Ty × Const)). g.0) lent in
      ap (λ b. b && recast) (each ∙ ap (are_of_types scope) all)
      ∙ ap (λ b. are_of_types scope c.1 && b) (by ∙ ap (λ (s : Ty). is_recast s ps t) to ∙ ap (λ (qs : List (Ty × Const)). is_recast c.0 qs t) all)
      ∙ sym (of_cast t c)

-- ---- indices of an address are integers

entered_integer : (types : List NamedTy) (t : Ty) (i : Index) (u : Ty) → entered types t i ≡ Some u → is_integer i.ty ≡ true
entered_integer types t i u h = at (out-Ty t) h
  where
    of_field : (fields : List Ty) → field_at fields i ≡ Some u → is_integer i.ty ≡ true
    of_field fields h = told (same_ty i.ty (Int 32)) refl h
      where
        told : (b : Bool) → same_ty i.ty (Int 32) ≡ b → cond b (option_and_then (slice_get fields) i.number) None ≡ Some u → is_integer i.ty ≡ true
        told true e h = ap is_integer (same_ty_true i.ty (Int 32) e)
        told false e h = cc

    of_element_type : (b : Bool) (e : Ty) → is_integer i.ty ≡ b → cond b (Some e) None ≡ Some u → is_integer i.ty ≡ true
    of_element_type true e is h = is
    of_element_type false e is h = cc

    at : (l : Ty-F Ty) → entered_at_level types l i ≡ Some u → is_integer i.ty ≡ true
    at (level.Array count element) h = of_element_type (is_integer i.ty) element refl h
    at (level.Struct fields) h = of_field fields h
    at (level.Named x) h = of_field (fields_or_none (fields_of types x)) h
    at (level.Int w) h = cc
    at (level.Ptr v) h = cc
    at level.Void h = cc

abbrev pub are_integers : List Index → Bool
are_integers is = list_all (λ i. is_integer i.ty) is

both_true : (a b : Bool) → a ≡ true → b ≡ true → (a && b) ≡ true
both_true a b p q = rw (p, q) refl

led_integers : (types : List NamedTy) (t : Ty) (is : List Index) (u : Ty) → led_to types t is ≡ Some u → are_integers is ≡ true
led_integers types t [] u h = refl
led_integers types t (i ∷ is) u h = at (λ v. led_integers types v is u) (entered types t i) refl h
  where
    at : ((v : Ty) → led_to types v is ≡ Some u → are_integers is ≡ true) → (o : Option Ty) → entered types t i ≡ o → option_and_then (λ v. led_to types v is) o ≡ Some u → are_integers (i ∷ is) ≡ true
    at rest None e h = cc
    at rest (Some v) e h = both_true (is_integer i.ty) (are_integers is) (entered_integer types t i v e) (rest v h)

pub element_integers : (types : List NamedTy) (of : Ty) (is : List Index) (t : Ty) → is_due (element_type types of is) t ≡ true → are_integers is ≡ true
element_integers types of [] t h = refl
element_integers types of (i ∷ is) t h = at (is_integer i.ty) refl (led_to types of is) refl h
  where
    at : (b : Bool) → is_integer i.ty ≡ b → (o : Option Ty) → led_to types of is ≡ o → is_due (cond b (option_map Ptr o) None) t ≡ true → are_integers (i ∷ is) ≡ true
    at true e (Some u) f h = both_true (is_integer i.ty) (are_integers is) e (led_integers types of is u f)
    at true e None f h = cc
    at false e o f h = cc

-- ---- values

module _ (scope : Scope) where
  abbrev value_step : Const-F (Ty → Value) → Ty → Value
  value_step = worth_at_level scope

  abbrev values_of : List (Ty × Const) → List Part
  values_of = constants.folded_parts (Ty → Value) value_step

  pub worth_number : (t : Ty) (n : ℕ) → worth scope (Number n) t ≡ number_value n t
  worth_number t n = ap (λ (f : Ty → Value). f t) (constants.at_number (Ty → Value) value_step n)

  pub worth_undef : (t : Ty) → worth scope UndefConst t ≡ value.Undef
  worth_undef t = ap (λ (f : Ty → Value). f t) (constants.at_undef (Ty → Value) value_step)

  pub worth_null : (t : Ty) → worth scope Null t ≡ value.Bare 0
  worth_null t = ap (λ (f : Ty → Value). f t) (constants.at_null (Ty → Value) value_step)

  pub worth_global : (t : Ty) (x : Name) → worth scope (Global x) t ≡ global_at 0 scope.globals x
  worth_global t x = ap (λ (f : Ty → Value). f t) (constants.at_global (Ty → Value) value_step x)

  pub worth_element : (t : Ty) (e : Bool × Ty × List (Ty × Const)) → worth scope (Element e) t ≡ address_of_part scope e.0 e.1 (values_of e.2)
  worth_element t e = ap (λ (f : Ty → Value). f t) (constants.at_element (Ty → Value) value_step e.0 e.1 e.2)

  pub worth_cast : (t : Ty) (c : Ty × List (Ty × Const)) → worth scope (Cast c) t ≡ recast_part (values_of c.1)
  worth_cast t c = ap (λ (f : Ty → Value). f t) (constants.at_cast (Ty → Value) value_step c.0 c.1)

  -- ---- of an integer type

  abbrev IsNumber : Const → Type 0
  IsNumber c = (w : ℕ) → is_of_type scope (Int w) c ≡ true → worth scope c (Int w) ≡ number_worth c (Int w)

  recast_integer : (from : Ty) (w : ℕ) → converts conversion.BitCast from (Int w) ≡ true → from ≡ Int w
  recast_integer (Int v) w h = ap Int (same_nat_true v w h)
  recast_integer from w h = cc (no_pointer_int w, right_true (is_pointer from) (is_pointer (Int w)) h)

  number_of_cast : (to : Ty) (cs : List (Ty × Const)) → EachOf IsNumber cs → (w : ℕ) → (are_of_types scope cs && is_recast to cs (Int w)) ≡ true
      → recast_part (values_of cs) ≡ only_part (constants.folded_parts (Ty → Value) number_at_level cs) (Int w)
  number_of_cast to [] each w h = refl
  number_of_cast to (c ∷ []) each w h =
      let typed = are_of_types scope (c ∷ []) in
      let recast = is_recast to (c ∷ []) (Int w) in
      let leads = converts conversion.BitCast c.0 to in
      let due : to ≡ Int w = same_ty_true to (Int w) (right_true leads (same_ty to (Int w)) (right_true typed recast h)) in
      let from : c.0 ≡ Int w = recast_integer c.0 w (subst (λ t. converts conversion.BitCast c.0 t ≡ true) due (left_true leads (same_ty to (Int w)) (right_true typed recast h))) in
      let is : is_of_type scope c.0 c.1 ≡ true = left_true (is_of_type scope c.0 c.1) true (left_true typed recast h) in
      ap (worth scope c.1) from ∙ each.0 w (subst (λ t. is_of_type scope t c.1 ≡ true) from is)
  number_of_cast to (c ∷ d ∷ cs) each w h = refl

  all_numbers : (c : Const) → IsNumber c
  all_numbers = constants.by_parts IsNumber
      (λ n w h. worth_number (Int w) n ∙ sym (ap (λ (f : Ty → Value). f (Int w)) (constants.at_number (Ty → Value) number_at_level n)))
      (λ w h. worth_undef (Int w) ∙ sym (ap (λ (f : Ty → Value). f (Int w)) (constants.at_undef (Ty → Value) number_at_level)))
      (λ w h. absurd (false≢true (sym (no_pointer_int w) ∙ sym (of_null scope (Int w)) ∙ h)))
      (λ x w h. absurd (false≢true (sym (no_pointer_int w) ∙ due_pointer (contents_of scope.globals x) (Int w) (sym (of_global scope (Int w) x) ∙ h))))
      (λ inbounds of cs each w h. absurd (false≢true (sym (no_pointer_int w) ∙ element_pointer_is of cs (Int w) (right_true (are_of_types scope cs) (leads_to scope.types of cs (Int w)) (sym (of_element scope (Int w) (inbounds, of, cs)) ∙ h)))))
      (λ to cs each w h.
      worth_cast (Int w) (to, cs)
      ∙ number_of_cast to cs each w (sym (of_cast scope (Int w) (to, cs)) ∙ h)
      ∙ sym (ap (λ (f : Ty → Value). f (Int w)) (constants.at_cast (Ty → Value) number_at_level to cs)))
    where
      element_pointer_is : (of : Ty) (cs : List (Ty × Const)) (t : Ty) → leads_to scope.types of cs t ≡ true → is_pointer t ≡ true
      element_pointer_is of [] t h = cc
      element_pointer_is of (base ∷ indices) t h =
          let due = is_due (element_type scope.types of (map index_told indices)) t in
          element_pointer scope.types of (map index_told indices) t (right_true (same_ty base.0 (Ptr of) && is_sized scope.types of) due h)

  integer_is : (p : Ty × Const) → is_integer p.0 ≡ true → is_of_type scope p.0 p.1 ≡ true → worth scope p.1 p.0 ≡ number_worth p.1 p.0
  integer_is (Int w, c) e h = all_numbers c w h
  integer_is (t, c) e h = cc

  abbrev before : ℕ → List GivenIndex → Value → List GivenIndex
  before w is v = (w, v) ∷ is

  told_is : (ps : List (Ty × Const)) → are_of_types scope ps ≡ true → are_integers (map index_told ps) ≡ true → map index_in (values_of ps) ≡ map told_part ps
  told_is [] h e = refl
  told_is (p ∷ ps) h e =
      let one = ap (before (width_of p.0) (map index_in (values_of ps)))
      (integer_is p (left_true (is_integer p.0) (are_integers (map index_told ps)) e) (left_true (is_of_type scope p.0 p.1) (are_of_types scope ps) h)) in
      one ∙ ap (λ (is : List GivenIndex). told_part p ∷ is) (told_is ps (right_true (is_of_type scope p.0 p.1) (are_of_types scope ps) h) (right_true (is_integer p.0) (are_integers (map index_told ps)) e))

  -- ---- addresses, from a base on

  module _ (c : Const) (t : Ty) (e : Bool × Ty × List (Ty × Const)) (is : c ≡ Element e) where
    pub no_base : e.2 ≡ [] → value.Poison ≡ worth scope c t
    no_base none = sym (ap (λ (d : Const). worth scope d t) is ∙ worth_element t e ∙ ap (λ (ps : List (Ty × Const)). address_of_part scope e.0 e.1 (values_of ps)) none)

    module _ (base : Ty × Const) (indices : List (Ty × Const)) (whole : e.2 ≡ base ∷ indices) (typed : is_of_type scope t c ≡ true) where
      both : (are_of_types scope (base ∷ indices) && leads_to scope.types e.1 (base ∷ indices) t) ≡ true
      both =
          sym (ap (λ (d : Const). is_of_type scope t d) is ∙ of_element scope t e
          ∙ ap (λ (ps : List (Ty × Const)). are_of_types scope ps && leads_to scope.types e.1 ps t) whole)
          ∙ typed

      each : are_of_types scope (base ∷ indices) ≡ true
      each = left_true (are_of_types scope (base ∷ indices)) (leads_to scope.types e.1 (base ∷ indices) t) both

      leads : leads_to scope.types e.1 (base ∷ indices) t ≡ true
      leads = right_true (are_of_types scope (base ∷ indices)) (leads_to scope.types e.1 (base ∷ indices) t) both

      pub base_typed : is_of_type scope base.0 base.1 ≡ true
      base_typed = left_true (is_of_type scope base.0 base.1) (are_of_types scope indices) each

      pub base_in_kind : (start : Value) → start ≡ worth scope base.1 base.0 → IsInKind kind.Ptr start
      base_in_kind start found =
          let sized = is_sized scope.types e.1 in
          let due = is_due (element_type scope.types e.1 (map index_told indices)) t in
          let points : base.0 ≡ Ptr e.1 = same_ty_true base.0 (Ptr e.1) (left_true (same_ty base.0 (Ptr e.1)) sized (left_true (same_ty base.0 (Ptr e.1) && sized) due leads)) in
          let kinds : kind_of base.0 ≡ Some kind.Ptr = ap kind_of points ∙ pointer_kind (Ptr e.1) (is_pointer_to e.1) in
          subst (IsInKind kind.Ptr) (sym found) (all_fine scope base.1 base.0 kind.Ptr kinds base_typed)

      address_worth : gep_value e.0 scope.types e.1 (worth scope base.1 base.0) (size_behind scope (worth scope base.1 base.0)) (map told_part indices) ≡ worth scope c t
      address_worth =
          let start = worth scope base.1 base.0 in
          let due = is_due (element_type scope.types e.1 (map index_told indices)) t in
          let integers = element_integers scope.types e.1 (map index_told indices) t (right_true (same_ty base.0 (Ptr e.1) && is_sized scope.types e.1) due leads) in
          ap (gep_value e.0 scope.types e.1 start (size_behind scope start))
          (sym (told_is indices (right_true (is_of_type scope base.0 base.1) (are_of_types scope indices) each) integers))
          ∙ sym (ap (λ (d : Const). worth scope d t) is ∙ worth_element t e ∙ ap (λ (ps : List (Ty × Const)). address_of_part scope e.0 e.1 (values_of ps)) whole)

      -- as it is found of what is lent
      pub address_found : (start : Value) → start ≡ worth scope base.1 base.0 → (f : Bool × Ty × List (Ty × Const)) → f ≡ e
          → (found : Value) → found ≡ gep_value f.0 scope.types f.1 start (size_behind scope start) (map told_part indices) → found ≡ worth scope c t
      address_found start begun f lent found by =
          by
          ∙ ap (λ (g : Bool × Ty × List (Ty × Const)). gep_value g.0 scope.types g.1 start (size_behind scope start) (map told_part indices)) lent
          ∙ ap (λ (v : Value). gep_value e.0 scope.types e.1 v (size_behind scope v) (map told_part indices)) begun
          ∙ address_worth

  module _ (c : Const) (t : Ty) (k : Ty × List (Ty × Const)) (is : c ≡ Cast k) where
    pub only_worth : (p : Ty × Const) → k.1 ≡ p ∷ [] → worth scope p.1 p.0 ≡ worth scope c t
    only_worth p whole = sym (ap (λ (d : Const). worth scope d t) is ∙ worth_cast t k ∙ ap (λ (ps : List (Ty × Const)). recast_part (values_of ps)) whole)

    pub only_typed : (p : Ty × Const) → k.1 ≡ p ∷ [] → is_of_type scope t c ≡ true → is_of_type scope p.0 p.1 ≡ true
    only_typed p whole typed =
        let parts = ap (λ (ps : List (Ty × Const)). are_of_types scope ps && is_recast k.0 ps t) whole in
        let all = sym (ap (λ (d : Const). is_of_type scope t d) is ∙ of_cast scope t k ∙ parts) ∙ typed in
        left_true (is_of_type scope p.0 p.1) true (left_true (are_of_types scope (p ∷ [])) (is_recast k.0 (p ∷ []) t) all)

    pub other_worth : ((p : Ty × Const) → k.1 ≡ p ∷ [] → ⊥) → value.Poison ≡ worth scope c t
    other_worth none = sym (ap (λ (d : Const). worth scope d t) is ∙ worth_cast t k ∙ at k.1 none)
      where
        at : (ps : List (Ty × Const)) → ((p : Ty × Const) → ps ≡ p ∷ [] → ⊥) → recast_part (values_of ps) ≡ value.Poison
        at [] none = refl
        at (p ∷ []) none = absurd (none p refl)
        at (p ∷ q ∷ ps) none = refl

pub not_one : (ps : List (Ty × Const)) → (length ps ≡ 1 → ⊥) → (p : Ty × Const) → ps ≡ p ∷ [] → ⊥
not_one ps none p e = none (ap length e)
