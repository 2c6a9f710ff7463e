-- Words of private functions: addresses of typed constants.
use Rattle.std.specs.Prelude.{◌≡◌, ℕ, true, List, [], ◌∷◌, map, Option, None, Some, is_some}
use Rattle.ir_core.specs.declared.expressions.Element.{Element}
use Rattle.ir_core.specs.declared.modules.Module.{Module}
use Rattle.ir_core.specs.declared.operands.Const.{Const}
use Rattle.ir_core.specs.declared.operands.Const.TheVariants as constant
use Rattle.ir_core.specs.Types.{is_first_class}
use Rattle.ir_core.specs.Typing.{Index, field_at}
use Rattle.ir_types.specs.declared.named.NamedTy.{NamedTy}
use Rattle.ir_types.specs.declared.names.Name.{Name}
use Rattle.ir_types.specs.declared.ty.Ty.{Ty}
use Rattle.ir_types.specs.Named.{fields_of, fields_or_none, is_sized}
use Rattle.ir_typing.specs.declared.shape_kinds.kind.ShapeKind.{ShapeKind}
use Rattle.ir_typing.specs.declared.shape_kinds.kind.ShapeKind.TheVariants as kind
use Rattle.ir_typing.specs.ShapeKinds.Kinds.{fault_unless, least, points_to}
use Rattle.ir_typing.specs.OperandTests.Constants.{address_kind, element_kind, may_be}
use Rattle.ir_typing.specs.OperandTests.Known.{is_type_known}

abbrev pub number_of : Const → Option ℕ
number_of (constant.Number n) = Some n
number_of c = None

abbrev pub index_told : Ty × Const → Index
index_told c = record { ty = c.0; number = number_of c.1 }

abbrev pub named_field : List NamedTy → Name → Index → Option Ty
named_field types x i = field_at (fields_or_none (fields_of types x)) i

-- where the type that the indices lead to is this
abbrev pub pointing_kind : List NamedTy → Ty → Ty → Option Ty → Ty → Option ShapeKind
pointing_kind types of base pointed to =
    least (fault_unless (points_to base of) kind.OperandType)
    (least (fault_unless (may_be pointed to) kind.OperandType) (least (fault_unless (is_sized types of) kind.Unsized) (fault_unless (is_some pointed) kind.GepIndex)))

-- the first operand is the base
abbrev pub address_told : List NamedTy → Ty → List (Ty × Const) → Ty → Option ShapeKind
address_told types of [] to = Some kind.OperandType
address_told types of (base ∷ indices) to = address_kind types of base.0 (map index_told indices) to

-- Nothing is wrong with an address but for its operands, it is a value, and the types that are stated for it and its base are known.
pub record FitsAtOnce (m : Module) (e : Element Name) : Type 0 where
  pub fits : element_kind m e ≡ None
  pub leads : is_first_class e.to ≡ true
  pub known : is_type_known m e.of ≡ true
  pub based : is_type_known m e.base.ty ≡ true
