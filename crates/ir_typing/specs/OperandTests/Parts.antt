-- Words of private functions: what is wrong with constants behind their types.
use Rattle.std.specs.Prelude.{List, [], ◌∷◌, map, Option, Some}
use Rattle.ir_core.specs.declared.modules.Module.{Module}
use Rattle.ir_core.specs.declared.operands.CastOp.TheVariants as conversion
use Rattle.ir_core.specs.declared.operands.Const.{Const}
use Rattle.ir_core.specs.Types.{converts}
use Rattle.ir_types.specs.declared.ty.Ty.{Ty}
use Rattle.ir_typing.specs.declared.shape_kinds.kind.ShapeKind.{ShapeKind}
use Rattle.ir_typing.specs.declared.shape_kinds.kind.ShapeKind.TheVariants as kind
use Rattle.ir_typing.specs.ShapeKinds.Kinds.{fault_unless, least_of}
use Rattle.ir_typing.specs.OperandTests.Constants.{constant_kind}

-- each at the type that is stated for it
abbrev pub parts_kind : Module → List (Ty × Const) → Option ShapeKind
parts_kind m parts = least_of (map (λ (p : Ty × Const). constant_kind m p.0 p.1) parts)

-- there is one operand
abbrev pub recast_kind : Ty → List (Ty × Const) → Option ShapeKind
recast_kind to (from ∷ []) = fault_unless (converts conversion.BitCast from.0 to) kind.CastWidth
recast_kind to others = Some kind.OperandType
