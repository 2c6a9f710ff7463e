-- What a type holds outside of pointers.
use Rattle.std.specs.Prelude.{◌⊎◌, ◌≡◌, ℕ, true, List, None, Some}
use Rattle.ir_types.specs.declared.named.NamedTy.{NamedTy}
use Rattle.ir_types.specs.declared.names.Name.{Name}
use Rattle.ir_types.specs.declared.ty.Ty.{Ty, Struct, Named, Void, out-Ty}
use Rattle.ir_types.specs.declared.ty.Ty.TheOpen.{Ty-F}
use Rattle.ir_types.specs.declared.ty.Ty.TheOpen as ty
use Rattle.ir_types.specs.Laws.{IsAt}
use Rattle.ir_types.specs.Named.{fields_of, layout_of, is_sized}

-- an array's element, a struct's fields, and of a named type the struct that it names
abbrev pub IsPartOf : List NamedTy → Ty → Ty-F Ty → Type 0
IsPartOf types u (ty.Array count element) = element ≡ u
IsPartOf types u (ty.Struct fields) = (k : ℕ) × IsAt fields k u
IsPartOf types u (ty.Named x) = (fields : List Ty) × (fields_of types x ≡ Some fields) × (Struct fields ≡ u)
IsPartOf types u level = ⊥

abbrev pub IsPart : List NamedTy → Ty → Ty → Type 0
IsPart types t u = IsPartOf types u (out-Ty t)

-- a part, or what a part holds
pub data Holds (types : List NamedTy) : Ty → Ty → Type 0 where
  part : {t u : Ty} → IsPart types t u → Holds types t u
  within : {t v : Ty} (u : Ty) → IsPart types t u → Holds types u v → Holds types t v

-- where a type has a layout, all that it holds has one: no opaque type, nor `void`, is among that
abbrev pub HeldTypesAreSized : Type 0
HeldTypesAreSized = (types : List NamedTy) (t u : Ty) → is_sized types t ≡ true → Holds types t u → is_sized types u ≡ true

abbrev pub NoneHoldsItself : Type 0
NoneHoldsItself = (types : List NamedTy) (t : Ty) → Holds types t t → layout_of types t ≡ None

-- why a type has no layout: it is `void`, it is named and opaque or unknown, or it holds itself
abbrev pub HasNoLayoutAlone : List NamedTy → Ty → Type 0
HasNoLayoutAlone types u = (u ≡ Void) ⊎ ((x : Name) × (u ≡ Named x) × (fields_of types x ≡ None)) ⊎ Holds types u u

-- a type without a layout is such a one, or holds one
abbrev pub UnsizedTypesHoldOne : Type 0
UnsizedTypesHoldOne =
    (types : List NamedTy) (t : Ty) → layout_of types t ≡ None → (u : Ty) × ((t ≡ u) ⊎ Holds types t u) × HasNoLayoutAlone types u
