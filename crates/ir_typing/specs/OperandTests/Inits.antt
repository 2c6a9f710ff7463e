-- What is wrong with what a global holds at the start (LangRef 3.7, Constants, Complex Constants).
use Rattle.std.specs.Prelude.{Bool, false, List, length, map, Option, None, Some}
use Rattle.ir_core.specs.declared.modules.Init.{Init, fold-Init}
use Rattle.ir_core.specs.declared.modules.Init.TheOpen.{Init-F}
use Rattle.ir_core.specs.declared.modules.Init.TheOpen as init
use Rattle.ir_core.specs.declared.modules.GlobalVar.{GlobalVar}
use Rattle.ir_core.specs.declared.modules.Module.{Module}
use Rattle.ir_core.specs.declared.operands.Const.{Const}
use Rattle.ir_core.specs.declared.operands.Const.TheVariants as constant
use Rattle.ir_types.specs.declared.ty.Ty.{Ty, out-Ty}
use Rattle.ir_types.specs.Named.{is_sized}
use Rattle.ir_types.specs.Same.{same_list, same_ty}
use Rattle.ir_core.specs.StatedTypes.{types_in_global}
use Rattle.ir_core.specs.Typing.{is_bytes, parts_of_array, parts_of_struct}
use Rattle.ir_typing.specs.declared.shape_kinds.kind.ShapeKind.{ShapeKind}
use Rattle.ir_typing.specs.declared.shape_kinds.kind.ShapeKind.TheVariants as kind
use Rattle.ir_typing.specs.OperandTests.Constants.{constant_kind}
use Rattle.ir_typing.specs.ShapeKinds.Kinds.{fault_unless, least, least_of}
use Rattle.ir_typing.specs.OperandTests.Known.{are_types_known}

-- what is wrong with a part at each type
abbrev pub Part : Type 0
Part = Ty × (Ty → Option ShapeKind)

-- the types that are stated for parts are these
abbrev pub are_stated : Option (List Ty) → List Ty → Bool
are_stated None stated = false
are_stated (Some types) stated = same_list same_ty types stated

abbrev pub list_kind : Option (List Ty) → List Part → Option ShapeKind
list_kind types parts =
    least (fault_unless (are_stated types (map (λ (p : Part). p.0) parts)) kind.OperandType) (least_of (map (λ (p : Part). p.1 p.0) parts))

-- undef is of each type, also where no value is
abbrev pub start_kind : Module → Ty → Const → Option ShapeKind
start_kind m t constant.Undef = None
start_kind m t c = constant_kind m t c

abbrev pub init_kind_at : Module → Init-F (Ty → Option ShapeKind) → Ty → Option ShapeKind
init_kind_at m (init.Const c) t = start_kind m t c
init_kind_at m init.Zero t = None
init_kind_at m (init.Bytes bytes) t = fault_unless (is_bytes (length bytes) (out-Ty t)) kind.OperandType
init_kind_at m (init.Array parts) t = list_kind (parts_of_array m.types (out-Ty t) (length parts)) parts
init_kind_at m (init.Struct parts) t = list_kind (parts_of_struct m.types (out-Ty t)) parts

-- what is wrong with an initialiser of that type, or in it
abbrev pub init_kind : Module → Ty → Init → Option ShapeKind
init_kind m t i = fold-Init (Ty → Option ShapeKind) (init_kind_at m) i t

abbrev pub held_kind : Module → Ty → Option Init → Option ShapeKind
held_kind m t None = None
held_kind m t (Some i) = init_kind m t i

-- A global whose name is new or not. The types that it states are the module's, what it holds is of its type, and this has a size.
abbrev pub global_var_kind : Module → Bool → GlobalVar → Option ShapeKind
global_var_kind m new g =
    least (fault_unless new kind.Name)
    (least (fault_unless (are_types_known m (types_in_global g)) kind.Name)
    (least (held_kind m g.ty g.init) (fault_unless (is_sized m.types g.ty) kind.Unsized)))
