-- What constants are worth, worked out by hand from the LangRef: an example of each case.
use Rattle.std.specs.Prelude.{◌≡◌, ℕ, Bool, true, false, pos, [], ◌∷◌, None}
use Rattle.ir_types.specs.declared.names.Name.TheVariants as name
use Rattle.ir_types.specs.declared.ty.Ty.{Ty, Array, Int, Ptr, Struct}
use Rattle.ir_core.specs.declared.modules.GlobalVar.{GlobalVar}
use Rattle.ir_core.specs.declared.modules.Linkage.TheVariants as linkage
use Rattle.ir_core.specs.declared.operands.Const.{Const, Cast, Element, Global, Null, Number, Undef}
use Rattle.ir_core.specs.declared.values.Value.{Value}
use Rattle.ir_core.specs.declared.values.Value.TheVariants as value
use Rattle.ir_values.specs.Constants.{Scope, constant_value}

-- @n = external global ty
abbrev pub global : ℕ → Ty → GlobalVar
global n ty = record { name = name.Number n; linkage = linkage.External; constant = false; ty = ty; init = None; align = None }

-- a byte in 4 bytes, and a number
abbrev pub pair : Ty
pair = Struct (Int 8 ∷ Int 32 ∷ [])

-- 2^40 bytes
abbrev pub large : Ty
large = Array 1099511627776 (Int 8)

-- @0 = external global i32  @1 = external global { i8, i32 }  @2 = external global [2^40 x i8]
abbrev pub scope : Scope
scope = record { types = []; globals = global 0 (Int 32) ∷ global 1 pair ∷ global 2 large ∷ [] }

abbrev pub at : Ty → Const → Value
at t c = constant_value scope t c

abbrev pub named : ℕ → Const
named n = Global (name.Number n)

-- getelementptr (i32, base @0, i64 n)
abbrev pub number_behind : Bool → Ty → ℕ → Const
number_behind inbounds base n = Element (inbounds, Int 32, (base, named 0) ∷ (Int 64, Number n) ∷ [])

-- getelementptr inbounds ({ i8, i32 }, { i8, i32 }* @1, i32 0, i32 1)
abbrev pub second : Const
second = Element (true, pair, (Ptr pair, named 1) ∷ (Int 32, Number 0) ∷ (Int 32, Number 1) ∷ [])

-- bitcast (from @n to i8*)
abbrev pub bytes : Ty → ℕ → Const
bytes from n = Cast (Ptr (Int 8), (from, named n) ∷ [])

-- getelementptr (i8, i8* bitcast ([2^40 x i8]* @2 to i8*), i64 n)
abbrev pub byte_of_large : Bool → ℕ → Const
byte_of_large inbounds n = Element (inbounds, Int 8, (Ptr (Int 8), bytes (Ptr large) 2) ∷ (Int 64, Number n) ∷ [])

-- getelementptr ([2^40 x i8], [2^40 x i8]* @2, i64 0, i64 5)
abbrev pub inside_large : Const
inside_large = Element (false, large, (Ptr large, named 2) ∷ (Int 64, Number 0) ∷ (Int 64, Number 5) ∷ [])

-- A block is the global's place. What isn't of its stated type is poison, and so is an address past a type that isn't small.
pub record ConstantsAreWorth : Type 0 where
  pub number : at (Int 8) (Number 200) ≡ value.Num 200
  pub wide_number : at (Int 8) (Number 256) ≡ value.Poison
  pub number_at_pointer : at (Ptr (Int 8)) (Number 0) ≡ value.Poison
  pub undef : at (Int 8) Undef ≡ value.Undef
  pub undef_at_struct : at pair Undef ≡ value.Poison
  pub null : at (Ptr (Int 8)) Null ≡ value.Bare 0
  pub null_at_integer : at (Int 64) Null ≡ value.Poison
  pub first_global : at (Ptr (Int 32)) (named 0) ≡ value.Ptr 0 (pos 0)
  pub second_global : at (Ptr pair) (named 1) ≡ value.Ptr 1 (pos 0)
  pub no_global : at (Ptr (Int 32)) (named 7) ≡ value.Poison
  pub at_other_type : at (Ptr (Int 8)) (named 0) ≡ value.Poison
  pub recast : at (Ptr (Int 8)) (bytes (Ptr (Int 32)) 0) ≡ value.Ptr 0 (pos 0)
  pub recast_of_other : at (Ptr (Int 8)) (bytes (Ptr (Int 64)) 0) ≡ value.Poison
  pub to_the_end : at (Ptr (Int 32)) (number_behind true (Ptr (Int 32)) 1) ≡ value.Ptr 0 (pos 4)
  pub past_the_end : at (Ptr (Int 32)) (number_behind true (Ptr (Int 32)) 2) ≡ value.Poison
  pub past_the_end_without : at (Ptr (Int 32)) (number_behind false (Ptr (Int 32)) 2) ≡ value.Ptr 0 (pos 8)
  pub base_of_other : at (Ptr (Int 32)) (number_behind false (Ptr (Int 8)) 2) ≡ value.Poison
  pub field : at (Ptr (Int 32)) second ≡ value.Ptr 1 (pos 4)
  pub into_large : at (Ptr (Int 8)) inside_large ≡ value.Poison
  pub in_large : at (Ptr (Int 8)) (byte_of_large true 1) ≡ value.Poison
  pub in_large_without : at (Ptr (Int 8)) (byte_of_large false 1) ≡ value.Ptr 2 (pos 1)
