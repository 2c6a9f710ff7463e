-- The values of an initialiser, at each kind of it.
use Rattle.std.proofs.Common.{◌≡◌, ◌∙◌, ◌<◌, ◌+◌, ℕ, List, [], ◌∷◌, ◌++◌, length, map, get_or, drop, refl, sym, ap}
use Rattle.std.specs.List.{flat_map}
use Rattle.std.proofs.lemmas.List.{append_assoc}
use Rattle.ir_types.specs.declared.ty.Ty.{Ty}
use Rattle.ir_core.specs.declared.modules.Init.{Init, Zero, Bytes}
use Rattle.ir_core.specs.declared.modules.Init as init
use Rattle.ir_core.specs.declared.operands.Const.{Const}
use Rattle.ir_core.specs.declared.values.Value.{Value}
use Rattle.ir_core.specs.declared.values.Value.TheVariants as value
use Rattle.ir_core.proofs.Inits as inits
use Rattle.ir_values.specs.Constants.{Scope}
use Rattle.ir_machine.specs.declared.scalars.Scalar.{Scalar}
use Rattle.ir_machine.specs.Scalars.{held_value, scalars_of, values_level, values_of, zero_of}
use Rattle.ir_machine.specs.Walks.{values_in}
use Rattle.ir_machine.proofs.Standing.{drop_at}

module _ (scope : Scope) where
  parts_in : (parts : List (Ty × Init)) → flat_map (λ (p : Ty × (Ty → List Value)). p.1 p.0) (inits.folded_parts (Ty → List Value) (values_level scope) parts) ≡ values_in scope parts
  parts_in [] = refl
  parts_in (p ∷ parts) = ap (λ l. values_of scope p.1 p.0 ++ l) (parts_in parts)

  module _ (t : Ty) where
    pub of_const : (c : Const) → values_of scope (init.Const c) t ≡ map (λ (s : Scalar). held_value scope t c) (scalars_of scope.types t)
    of_const c = ap (λ f. f t) (inits.at_const (Ty → List Value) (values_level scope) c)

    pub of_zero : values_of scope Zero t ≡ map (λ (s : Scalar). zero_of s.kind) (scalars_of scope.types t)
    of_zero = ap (λ f. f t) (inits.at_zero (Ty → List Value) (values_level scope))

    pub of_bytes : (bytes : List ℕ) → values_of scope (Bytes bytes) t ≡ map value.Num bytes
    of_bytes bytes = ap (λ f. f t) (inits.at_bytes (Ty → List Value) (values_level scope) bytes)

    pub of_array : (parts : List (Ty × Init)) → values_of scope (init.Array parts) t ≡ values_in scope parts
    of_array parts = ap (λ f. f t) (inits.at_array (Ty → List Value) (values_level scope) parts) ∙ parts_in parts

    pub of_struct : (parts : List (Ty × Init)) → values_of scope (init.Struct parts) t ≡ values_in scope parts
    of_struct parts = ap (λ f. f t) (inits.at_struct (Ty → List Value) (values_level scope) parts) ∙ parts_in parts

  pub values_next : (parts : List (Ty × Init)) (i : ℕ) (p : Ty × Init) (old new whole : List Value) → i < length parts → p ≡ get_or parts i p
      → new ≡ old ++ values_of scope p.1 p.0 → old ++ values_in scope (drop i parts) ≡ whole → new ++ values_in scope (drop (i + 1) parts) ≡ whole
  values_next parts i p old new whole within is made before =
      ap (λ l. l ++ values_in scope (drop (i + 1) parts)) made ∙ append_assoc old (values_of scope p.1 p.0) (values_in scope (drop (i + 1) parts))
      ∙ ap (λ l. old ++ values_in scope l) (sym (drop_at parts i p within is)) ∙ before
