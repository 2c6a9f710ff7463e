-- Which types have values, that nothing well-formed is of another, and which named types a module may have.
use Rattle.std.specs.Prelude.{◌≡◌, [], ◌∷◌, None, Some}
use Rattle.ir_types.specs.declared.ty.Ty.{Ty, Int, Ptr, Array, Struct, Named, Void}
use Rattle.ir_core.specs.declared.functions.Function.{Function}
use Rattle.ir_core.specs.declared.functions.Term.TheVariants.{Unreachable}
use Rattle.ir_core.specs.declared.modules.Module.{Module}
use Rattle.ir_core.specs.declared.values.Kind.TheVariants as kind
use Rattle.ir_core.specs.Examples.{alone, f, linked_type, nameless_type, passing, number, struct, three_types, two_types, type_in_itself, types_of_one_name, unknown_type, wide_field, x}
use Rattle.ir_core.specs.Modules.{plain_function, plain_module}
use Rattle.ir_core.specs.Ranges.{IsInRange}
use Rattle.ir_core.specs.Types.{kind_of}
use Rattle.ir_core.specs.Laws.{LacksShapeAlone}
use Rattle.ir_core.specs.WellFormed.{HasShape, IsDefined, IsWellFormed}

-- an integer of 1 to 64 bits and a pointer have a kind, and no other type has one
pub record TypesHaveKinds : Type 0 where
  pub one_bit : kind_of (Int 1) ≡ Some (kind.Int 1)
  pub widest : kind_of (Int 64) ≡ Some (kind.Int 64)
  pub no_bits : kind_of (Int 0) ≡ None
  pub too_wide : kind_of (Int 65) ≡ None
  pub void : kind_of Void ≡ None
  pub pointer : kind_of (Ptr (Int 8)) ≡ Some kind.Ptr
  pub array : kind_of (Array 4 (Int 8)) ≡ None
  pub struct : kind_of (Struct (Int 32 ∷ [])) ≡ None
  pub named : kind_of (Named x) ≡ None

-- define ty @f() { f: unreachable }
abbrev pub never_returning : Ty → Function
never_returning ty = plain_function ty f [] (record { name = f; phis = []; body = []; term = Unreachable } ∷ [])

-- %x = type { i8 }, and that function
abbrev pub beside_type : Function → Module
beside_type g = plain_module (struct x (Int 8 ∷ []) ∷ []) (g ∷ [])

abbrev pub LacksShape : Function → Type 0
LacksShape g = HasShape (beside_type g) → ⊥

-- %x = type { void }
abbrev pub void_inside : Module
void_inside = plain_module (struct x (Void ∷ []) ∷ []) []

-- Parameters and results may be pointers. No parameter is an array, a struct or of a named type, and no function has one for its result, or
-- returns a number of a named type.
pub record OtherTypesAreNot : Type 0 where
  pub pointer : IsWellFormed (alone (passing (Int 32) (Ptr (Int 8)) (Int 32) (number 0)))
  pub array : LacksShape (passing (Int 32) (Array 4 (Int 8)) (Int 32) (number 0))
  pub struct : LacksShape (passing (Int 32) (Struct (Int 8 ∷ [])) (Int 32) (number 0))
  pub named_parameter : LacksShape (passing (Int 32) (Named x) (Int 32) (number 0))
  pub named : LacksShape (passing (Named x) (Int 32) (Named x) (number 0))
  pub result : IsWellFormed (alone (never_returning (Ptr (Int 8))))
  pub array_result : LacksShape (never_returning (Array 4 (Int 8)))
  pub struct_result : LacksShape (never_returning (Struct (Int 8 ∷ [])))
  pub named_result : LacksShape (never_returning (Named x))
  pub void_field : IsInRange void_inside → ⊥

-- Named types have different names, and what one names, also behind a pointer, is a type that the module names, before it or behind it.
-- One may hold itself, behind a pointer or not: it lacks a size alone.
pub record NamedTypesAreKnown : Type 0 where
  pub different : IsWellFormed two_types
  pub one_name : LacksShapeAlone types_of_one_name
  pub known : HasShape three_types
  pub unknown : HasShape unknown_type → ⊥
  pub behind_pointer : HasShape linked_type
  pub in_itself : HasShape type_in_itself

-- a named type's name and its fields are in range
abbrev pub NamedTypesAreInRange : Type 0
NamedTypesAreInRange =
    (HasShape wide_field × IsDefined wide_field × (IsInRange wide_field → ⊥)) × (HasShape nameless_type × IsDefined nameless_type × (IsInRange nameless_type → ⊥))
