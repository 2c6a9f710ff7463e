-- Words of private functions: what is wrong with initialisers behind their types.
use Rattle.std.specs.Prelude.{◌&&◌, Bool, false, List, length, map, nat_eq, Option}
use Rattle.std.specs.List.{list_all}
use Rattle.ir_core.specs.declared.modules.Init.{Init}
use Rattle.ir_core.specs.declared.modules.Module.{Module}
use Rattle.ir_core.specs.Typing.{parts_of_struct}
use Rattle.ir_types.specs.declared.named.NamedTy.{NamedTy}
use Rattle.ir_types.specs.declared.ty.Ty.{Ty, out-Ty}
use Rattle.ir_types.specs.declared.ty.Ty.TheOpen.{Ty-F}
use Rattle.ir_types.specs.declared.ty.Ty.TheOpen as level
use Rattle.ir_types.specs.Same.{same_ty}
use Rattle.ir_typing.specs.declared.shape_kinds.kind.ShapeKind.{ShapeKind}
use Rattle.ir_typing.specs.ShapeKinds.Kinds.{least_of}
use Rattle.ir_typing.specs.OperandTests.Inits.{are_stated, init_kind}

abbrev pub stated : Ty × Init → Ty
stated p = p.0

-- this type is stated for each
abbrev pub are_alike : Ty → List (Ty × Init) → Bool
are_alike t = list_all (λ p. same_ty t p.0)

abbrev pub elements_at_level : Ty-F Ty → List (Ty × Init) → Bool
elements_at_level (level.Array count element) parts = nat_eq count (length parts) && are_alike element parts
elements_at_level other parts = false

-- the elements of the array
abbrev pub are_elements : Ty → List (Ty × Init) → Bool
are_elements t = elements_at_level (out-Ty t)

abbrev pub are_fields : List NamedTy → Ty → List (Ty × Init) → Bool
are_fields types t parts = are_stated (parts_of_struct types (out-Ty t)) (map stated parts)

-- each at the type that is stated for it
abbrev pub parts_kind : Module → List (Ty × Init) → Option ShapeKind
parts_kind m parts = least_of (map (λ (p : Ty × Init). init_kind m p.0 p.1) parts)
