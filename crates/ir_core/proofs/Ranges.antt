-- Each kind of type, constant and initialiser: whether it is in range.
use Rattle.std.proofs.Common.{◌≡◌, ℕ, ◌^◌, Bool, true, false, ◌&&◌, nat_lt, List, [], ◌∷◌, map, refl, ap, arith}
use Rattle.std.specs.List.{list_all}
use Rattle.ir_types.specs.declared.names.Name.{Name}
use Rattle.ir_types.specs.declared.ty.Ty.{Ty, Int, Ptr, Array, Struct, Named, Void}
use Rattle.ir_types.proofs.Induction as fold
use Rattle.ir_core.specs.declared.modules.Init.{Init, Bytes, Zero}
use Rattle.ir_core.specs.declared.modules.Init as init
use Rattle.ir_core.specs.declared.operands.Const.{Const, Number, Undef, Null, Global, Element, Cast}
use Rattle.ir_core.specs.Ranges.{IsTypeInRange, are_written, constant_at_level, constant_written, init_at_level, init_written, is_written, written_at_level}
use Rattle.ir_core.specs.Types.{constant_fits, is_width}
use Rattle.ir_core.proofs.Constants as constants
use Rattle.ir_core.proofs.Inits as inits

-- ---- types

pub at_int : (width : ℕ) → is_written (Int width) ≡ is_width width
at_int = fold.at_int Bool written_at_level

pub at_ptr : (t : Ty) → is_written (Ptr t) ≡ is_written t
at_ptr = fold.at_ptr Bool written_at_level

pub at_array : (n : ℕ) (t : Ty) → is_written (Array n t) ≡ (nat_lt n (2 ^ 64) && is_written t)
at_array = fold.at_array Bool written_at_level

pub at_struct : (ts : List Ty) → is_written (Struct ts) ≡ list_all (λ t. t) (map is_written ts)
at_struct = fold.at_struct Bool written_at_level

pub at_named : (x : Name) → is_written (Named x) ≡ true
at_named = fold.at_named Bool written_at_level

pub at_void : is_written Void ≡ false
at_void = fold.at_void Bool written_at_level

pub no_void : IsTypeInRange Void → ⊥
no_void range = let none : is_written Void ≡ false = at_void in cc

-- ---- constants

abbrev Of : Type 0
Of = Ty → Bool

-- what is asked of the constants behind their types
abbrev parts_of : List (Ty × Const) → List (Ty × Of)
parts_of = constants.folded_parts Of constant_at_level

module _ (t : Ty) where
  pub of_number : (n : ℕ) → constant_written t (Number n) ≡ constant_fits t (Number n)
  of_number n = ap (λ (of : Of). of t) (constants.at_number Of constant_at_level n)

  pub of_undef : constant_written t Undef ≡ true
  of_undef = ap (λ (of : Of). of t) (constants.at_undef Of constant_at_level)

  pub of_null : constant_written t Null ≡ true
  of_null = ap (λ (of : Of). of t) (constants.at_null Of constant_at_level)

  pub of_global : (x : Name) → constant_written t (Global x) ≡ true
  of_global x = ap (λ (of : Of). of t) (constants.at_global Of constant_at_level x)

  pub of_element : (inbounds : Bool) (of : Ty) (cs : List (Ty × Const)) → constant_written t (Element (inbounds, of, cs)) ≡ (is_written of && are_written (parts_of cs))
  of_element inbounds of cs = ap (λ (of : Of). of t) (constants.at_element Of constant_at_level inbounds of cs)

  pub of_cast : (to : Ty) (cs : List (Ty × Const)) → constant_written t (Cast (to, cs)) ≡ (is_written to && are_written (parts_of cs))
  of_cast to cs = ap (λ (of : Of). of t) (constants.at_cast Of constant_at_level to cs)

-- ---- initialisers

module _ (t : Ty) where
  pub by_const : (c : Const) → init_written t (init.Const c) ≡ constant_written t c
  by_const c = ap (λ (of : Of). of t) (inits.at_const Of init_at_level c)

  pub by_zero : init_written t Zero ≡ true
  by_zero = ap (λ (of : Of). of t) (inits.at_zero Of init_at_level)

  pub by_bytes : (bytes : List ℕ) → init_written t (Bytes bytes) ≡ list_all (λ b. nat_lt b (2 ^ 8)) bytes
  by_bytes bytes = ap (λ (of : Of). of t) (inits.at_bytes Of init_at_level bytes)

  pub by_array : (parts : List (Ty × Init)) → init_written t (init.Array parts) ≡ are_written (inits.folded_parts Of init_at_level parts)
  by_array parts = ap (λ (of : Of). of t) (inits.at_array Of init_at_level parts)
