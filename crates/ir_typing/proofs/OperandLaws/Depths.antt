-- How deep the examples are, by the equations of depths.
use Rattle.std.proofs.Common.{◌≡◌, ◌+◌, ℕ, zero, suc, max, true, false, List, [], ◌∷◌, map, refl, ap, ◌∙◌, arith}
use Rattle.ir_types.specs.declared.names.Name.{Name}
use Rattle.ir_types.specs.declared.ty.Ty.{Ty, Int, Ptr, Array, Struct, Named, Void}
use Rattle.ir_types.proofs.Induction as types
use Rattle.ir_core.specs.declared.modules.Init as init
use Rattle.ir_core.specs.declared.modules.Module.{Module}
use Rattle.ir_core.specs.declared.operands.Const.{Const, Number}
use Rattle.ir_core.specs.Depths.{deepest, depth_at_level, depth_at_part, depth_of, depth_of_constant, depth_of_init, depth_of_init_at, depths_in}
use Rattle.ir_core.proofs.Constants as constants
use Rattle.ir_core.proofs.Inits as inits
use Rattle.ir_typing.specs.ModuleLimits.Within.{are_shallow}
use Rattle.ir_typing.proofs.ModuleLimits.Decided.{shallow_by, shallow_not}
use Rattle.ir_typing.specs.OperandLaws.Depths.{CountsConstant, CountsType, DeclaredPartsCount, DepthsAreCounted, EndsCount, LinesCount, pointers, recasts}

-- ---- depths

of_int : (width : ℕ) → depth_of (Int width) ≡ 1
of_int = types.at_int ℕ depth_at_level

of_ptr : (t : Ty) → depth_of (Ptr t) ≡ depth_of t + 1
of_ptr = types.at_ptr ℕ depth_at_level

pub of_array : (n : ℕ) (t : Ty) → depth_of (Array n t) ≡ depth_of t + 1
of_array = types.at_array ℕ depth_at_level

of_struct : (ts : List Ty) → depth_of (Struct ts) ≡ deepest (map depth_of ts) + 1
of_struct = types.at_struct ℕ depth_at_level

of_named : (x : Name) → depth_of (Named x) ≡ 1
of_named = types.at_named ℕ depth_at_level

pub of_pointers : (n : ℕ) → depth_of (pointers n) ≡ n + 1
of_pointers zero = of_int 8
of_pointers (suc n) = omega (arith, of_ptr (pointers n), of_pointers n)

of_void : depth_of Void ≡ 1
of_void = types.at_void ℕ depth_at_level

of_number : (n : ℕ) → depth_of_constant (Number n) ≡ 1
of_number = constants.at_number ℕ depth_at_part

of_recasts : (n : ℕ) → depth_of_constant (recasts n) ≡ n + 1
of_recasts zero = of_number 0
of_recasts (suc n) = omega (arith, constants.at_cast ℕ depth_at_part (Int 8) ((Int 8, recasts n) ∷ []), of_int 8, of_recasts n)

of_start : (c : Const) → depth_of_init (init.Const c) ≡ depth_of_constant c
of_start = inits.at_const ℕ depth_of_init_at

pub depths_are_counted : DepthsAreCounted
depths_are_counted = record {
  pointer = simp (of_int, of_ptr) refl;
  empty = simp (of_struct) refl;
  array = simp (of_int, of_ptr, of_array, of_struct) refl;
  named = λ x. simp (of_ptr, of_named) refl;
  initialiser = simp (inits.at_const ℕ depth_of_init_at, inits.at_array ℕ depth_of_init_at, constants.at_number ℕ depth_at_part, of_int, of_array) refl;
  address = simp (constants.at_element ℕ depth_at_part, constants.at_global ℕ depth_at_part, constants.at_number ℕ depth_at_part, of_int, of_ptr) refl;
  recast = simp (constants.at_cast ℕ depth_at_part, constants.at_global ℕ depth_at_part, of_int, of_ptr) refl;
  at_limit = omega (arith, of_pointers 63);
  beyond = λ low. omega (arith, of_pointers 64);
  field_at_limit = (omega (arith, of_pointers 62), tt);
  field_beyond = λ low. omega (arith, of_pointers 63, low.0);
}

-- ---- where types and constants count

-- the depths of a module, where this depth stands in that place
counts_type : (at : Ty → Module) (depths : ℕ → List ℕ) → ((t : Ty) → depths_in (at t) ≡ depths (depth_of t)) → are_shallow (depths 64) ≡ true
    → are_shallow (depths 65) ≡ false → CountsType at
counts_type at depths are low high = record {
  at_limit = shallow_by (depths_in (at (pointers 63))) (ap are_shallow (are (pointers 63)) ∙ ap (λ d. are_shallow (depths d)) (of_pointers 63) ∙ low);
  beyond = shallow_not (depths_in (at (pointers 64))) (ap are_shallow (are (pointers 64)) ∙ ap (λ d. are_shallow (depths d)) (of_pointers 64) ∙ high);
}

counts_constant : (at : Const → Module) (depths : ℕ → List ℕ) → ((c : Const) → depths_in (at c) ≡ depths (depth_of_constant c)) → are_shallow (depths 64) ≡ true
    → are_shallow (depths 65) ≡ false → CountsConstant at
counts_constant at depths are low high = record {
  at_limit = shallow_by (depths_in (at (recasts 63))) (ap are_shallow (are (recasts 63)) ∙ ap (λ d. are_shallow (depths d)) (of_recasts 63) ∙ low);
  beyond = shallow_not (depths_in (at (recasts 64))) (ap are_shallow (are (recasts 64)) ∙ ap (λ d. are_shallow (depths d)) (of_recasts 64) ∙ high);
}

pub declared_parts_count : DeclaredPartsCount
declared_parts_count = record {
  global = counts_type _ (λ d. d ∷ []) (λ t. refl) refl refl;
  start = counts_constant _ (λ d. 1 ∷ d ∷ []) (λ c. simp (of_int, of_start) refl) refl refl;
  declared_result = counts_type _ (λ d. d ∷ 1 ∷ []) (λ t. simp (of_int) refl) refl refl;
  declared_parameter = counts_type _ (λ d. 1 ∷ d ∷ []) (λ t. simp (of_void) refl) refl refl;
  result = counts_type _ (λ d. d ∷ []) (λ t. refl) refl refl;
  parameter = counts_type _ (λ d. 1 ∷ 1 ∷ d ∷ []) (λ t. simp (of_void, of_int) refl) refl refl;
}

pub lines_count : LinesCount
lines_count = record {
  converted = counts_constant _ (λ d. 1 ∷ 1 ∷ max 1 d ∷ []) (λ c. simp (of_void, of_int) refl) refl refl;
  converted_from = counts_type _ (λ d. 1 ∷ 1 ∷ max d 1 ∷ []) (λ t. simp (of_void, of_int) refl) refl refl;
  converted_to = counts_type _ (λ d. 1 ∷ d ∷ 1 ∷ []) (λ t. simp (of_void, of_int) refl) refl refl;
  stepped = counts_type _ (λ d. 1 ∷ d ∷ 2 ∷ 1 ∷ []) (λ t. simp (of_void, of_int, of_ptr, of_number) refl) refl refl;
  base = counts_constant _ (λ d. 1 ∷ 1 ∷ max 1 d ∷ 1 ∷ []) (λ c. simp (of_void, of_int, of_number) refl) refl refl;
  index = counts_constant _ (λ d. 1 ∷ 1 ∷ 2 ∷ max 1 d ∷ []) (λ c. simp (of_void, of_int, of_ptr) refl) refl refl;
  loaded = counts_type _ (λ d. 1 ∷ d ∷ 2 ∷ []) (λ t. simp (of_void, of_int, of_ptr) refl) refl refl;
  loaded_from = counts_constant _ (λ d. 1 ∷ 1 ∷ max 1 d ∷ []) (λ c. simp (of_void, of_int) refl) refl refl;
  allocated = counts_type _ (λ d. 1 ∷ d ∷ 1 ∷ []) (λ t. simp (of_void, of_int) refl) refl refl;
  count = counts_type _ (λ d. 1 ∷ 1 ∷ d ∷ []) (λ t. simp (of_void, of_int) refl) refl refl;
  stored = counts_constant _ (λ d. 1 ∷ max 1 d ∷ 2 ∷ []) (λ c. simp (of_void, of_int, of_ptr) refl) refl refl;
  stored_type = counts_type _ (λ d. 1 ∷ max d 1 ∷ 2 ∷ []) (λ t. simp (of_void, of_int, of_ptr) refl) refl refl;
  stored_to = counts_constant _ (λ d. 1 ∷ 1 ∷ max 1 d ∷ []) (λ c. simp (of_void, of_int) refl) refl refl;
  stored_to_type = counts_type _ (λ d. 1 ∷ 1 ∷ max d 1 ∷ []) (λ t. simp (of_void, of_int) refl) refl refl;
  call_result = counts_type _ (λ d. 1 ∷ d ∷ 1 ∷ 1 ∷ []) (λ t. simp (of_void, of_int) refl) refl refl;
  argument = counts_constant _ (λ d. 1 ∷ 1 ∷ 1 ∷ max 1 d ∷ []) (λ c. simp (of_void, of_int) refl) refl refl;
  argument_type = counts_type _ (λ d. 1 ∷ 1 ∷ 1 ∷ max d 1 ∷ []) (λ t. simp (of_void, of_int) refl) refl refl;
}

pub ends_count : EndsCount
ends_count = record {
  phi = counts_type _ (λ d. 1 ∷ d ∷ max d 1 ∷ max d 1 ∷ []) (λ t. simp (of_void, of_number) refl) refl refl;
  entry = counts_constant _ (λ d. 1 ∷ 1 ∷ 1 ∷ max 1 d ∷ []) (λ c. simp (of_void, of_int) refl) refl refl;
  returned = counts_constant _ (λ d. 1 ∷ max 1 d ∷ []) (λ c. simp (of_void, of_int) refl) refl refl;
  returned_type = counts_type _ (λ d. 1 ∷ max d 1 ∷ []) (λ t. simp (of_void) refl) refl refl;
  condition = counts_constant _ (λ d. 1 ∷ max 1 d ∷ []) (λ c. simp (of_void, of_int) refl) refl refl;
  switched = counts_constant _ (λ d. 1 ∷ max 1 d ∷ 1 ∷ 1 ∷ []) (λ c. simp (of_void, of_int) refl) refl refl;
  switched_type = counts_type _ (λ d. 1 ∷ max d 1 ∷ 1 ∷ 1 ∷ []) (λ t. simp (of_void, of_int) refl) refl refl;
  case = counts_type _ (λ d. 1 ∷ 1 ∷ 1 ∷ d ∷ []) (λ t. simp (of_void, of_int) refl) refl refl;
}
