-- What is wrong with a constant at the type that is stated for it, and with an address (LangRef 3.7, Constants, Constant Expressions,
-- getelementptr Instruction).
use Rattle.std.specs.Prelude.{ℕ, ◌||◌, Bool, true, List, [], ◌∷◌, map, Option, None, Some, is_some}
use Rattle.std.specs.Option.{option_map}
use Rattle.ir_core.specs.declared.expressions.Element.{Element}
use Rattle.ir_core.specs.declared.modules.Module.{Module}
use Rattle.ir_core.specs.declared.operands.CastOp.TheVariants as conversion
use Rattle.ir_core.specs.declared.operands.Const.{Const, fold-Const}
use Rattle.ir_core.specs.declared.operands.Const.TheOpen.{Const-F}
use Rattle.ir_core.specs.declared.operands.Const.TheOpen as part
use Rattle.ir_types.specs.declared.named.NamedTy.{NamedTy}
use Rattle.ir_types.specs.declared.names.Name.{Name}
use Rattle.ir_types.specs.declared.ty.Ty.{Ty, Ptr}
use Rattle.ir_types.specs.Named.{is_sized}
use Rattle.ir_types.specs.Same.{same_ty}
use Rattle.ir_core.specs.Types.{converts, is_first_class, is_integer, is_pointer}
use Rattle.ir_core.specs.Typing.{Index, contents_of, element_type, index_of, is_due, signatures_of}
use Rattle.ir_typing.specs.declared.shape_kinds.kind.ShapeKind.{ShapeKind}
use Rattle.ir_typing.specs.declared.shape_kinds.kind.ShapeKind.TheVariants as kind
use Rattle.ir_typing.specs.OperandTests.Calls.{signature_in}
use Rattle.ir_typing.specs.ShapeKinds.Kinds.{fault_unless, least, least_of, points_to}

-- ---- addresses

-- what indices lead to is this, where they lead to anything
abbrev pub may_be : Option Ty → Ty → Bool
may_be None t = true
may_be (Some due) t = same_ty due t

-- The base points to the type that is stated, which has a size, and the indices lead somewhere in it: to what `to` points to.
abbrev pub address_kind : List NamedTy → Ty → Ty → List Index → Ty → Option ShapeKind
address_kind types of base indices to =
    least (fault_unless (points_to base of) kind.OperandType)
    (least (fault_unless (may_be (element_type types of indices) to) kind.OperandType)
    (least (fault_unless (is_sized types of) kind.Unsized) (fault_unless (is_some (element_type types of indices)) kind.GepIndex)))

abbrev pub element_kind : {R : Type 0} → Module → Element R → Option ShapeKind
element_kind m e = address_kind m.types e.of e.base.ty (map index_of e.indices) e.to

-- ---- constants

-- what is wrong with a constant at each type, and its number where it is one
pub record Judged : Type 0 where
  pub kind_at : Ty → Option ShapeKind
  pub number : Option ℕ

-- each at the type that is stated for it
abbrev pub parts_kind : List (Ty × Judged) → Option ShapeKind
parts_kind parts = least_of (map (λ (p : Ty × Judged). p.1.kind_at p.0) parts)

abbrev pub judged_index : Ty × Judged → Index
judged_index p = record { ty = p.0; number = p.1.number }

-- the first operand is the base
abbrev pub address_of_parts : List NamedTy → Ty → List (Ty × Judged) → Ty → Option ShapeKind
address_of_parts types of [] to = Some kind.OperandType
address_of_parts types of (base ∷ indices) to = address_kind types of base.0 (map judged_index indices) to

-- there is one operand, from whose type `bitcast` leads to the other
abbrev pub recast_kind : Ty → List (Ty × Judged) → Option ShapeKind
recast_kind to (from ∷ []) = fault_unless (converts conversion.BitCast from.0 to) kind.CastWidth
recast_kind to others = Some kind.OperandType

-- a global variable or a function has that name
abbrev pub is_global_known : Module → Name → Bool
is_global_known m x = is_some (contents_of m.globals x) || is_some (signature_in (signatures_of m) x)

-- a global variable is a pointer to its contents, and a function is no constant here
abbrev pub global_kind : Module → Name → Ty → Option ShapeKind
global_kind m x t =
    least (fault_unless (is_global_known m x) kind.Name) (fault_unless (is_due (option_map Ptr (contents_of m.globals x)) t) kind.OperandType)

abbrev pub judged_at_level : Module → Const-F Judged → Judged
judged_at_level m (part.Number n) = record { kind_at = λ t. fault_unless (is_integer t) kind.OperandType; number = Some n }
judged_at_level m part.Undef = record { kind_at = λ t. fault_unless (is_first_class t) kind.OperandType; number = None }
judged_at_level m part.Null = record { kind_at = λ t. fault_unless (is_pointer t) kind.OperandType; number = None }
judged_at_level m (part.Global x) = record { kind_at = global_kind m x; number = None }
judged_at_level m (part.Element e) = record { kind_at = λ t. least (parts_kind e.2) (address_of_parts m.types e.1 e.2 t); number = None }
judged_at_level m (part.Cast c) =
    record { kind_at = λ t. least (parts_kind c.1) (least (fault_unless (same_ty c.0 t) kind.OperandType) (recast_kind c.0 c.1)); number = None }

-- what is wrong with a constant of that type, or in it
abbrev pub constant_kind : Module → Ty → Const → Option ShapeKind
constant_kind m t c = (fold-Const Judged (judged_at_level m) c).kind_at t
