-- What is wrong with a call (LangRef 3.7, call Instruction).
use Rattle.std.specs.Prelude.{◌&&◌, Bool, cond, not, List, [], ◌∷◌, Option, None, Some, is_some}
use Rattle.ir_core.specs.declared.functions.Call.{Call}
use Rattle.ir_core.specs.declared.modules.Module.{Module}
use Rattle.ir_types.specs.declared.names.Name.{Name}
use Rattle.ir_types.specs.declared.ty.Ty.{Ty}
use Rattle.ir_types.specs.declared.ty.Ty.TheVariants as ty
use Rattle.ir_types.specs.Same.{same_name, same_ty}
use Rattle.ir_core.specs.Types.{is_first_class}
use Rattle.ir_core.specs.Typing.{Signature, are_arguments, signatures_of}
use Rattle.ir_core.specs.WellFormed.{argument_types}
use Rattle.ir_typing.specs.declared.shape_kinds.kind.ShapeKind.{ShapeKind}
use Rattle.ir_typing.specs.declared.shape_kinds.kind.ShapeKind.TheVariants as kind
use Rattle.ir_typing.specs.ShapeKinds.Kinds.{fault_unless, least}

-- the signature of the first function of that name
abbrev pub signature_in : List (Name × Signature) → Name → Option Signature
signature_in [] x = None
signature_in (s ∷ ss) x = cond (same_name s.0 x) (Some s.1) (signature_in ss x)

-- a result is named, unless it is `void`
abbrev pub is_named_result : Ty → Option Name → Bool
is_named_result ty.Void name = not (is_some name)
is_named_result t name = is_first_class t && is_some name

-- the result is the callee's, and the arguments are of its parameters' types
abbrev pub fits_signature : Signature → Call → Bool
fits_signature s c = same_ty c.result s.result && are_arguments s.variadic s.params (argument_types c)

abbrev pub kind_by_signature : Option Signature → Call → Option ShapeKind
kind_by_signature None c = Some kind.Name
kind_by_signature (Some s) c =
    least (fault_unless (is_named_result c.result c.name) kind.OperandType) (fault_unless (fits_signature s c) kind.CallType)

-- but for its operands
abbrev pub call_kind : Module → Call → Option ShapeKind
call_kind m c = kind_by_signature (signature_in (signatures_of m) c.callee) c
