-- Operations and addresses as they are built, over what registers are built as.
use Rattle.std.specs.Prelude.{◌||◌, Bool, false, List, [], ◌∷◌, map, unwrap_or}
use Rattle.std.specs.List.{list_any}
use Rattle.ir_core.specs.declared.expressions.Element.{Element}
use Rattle.ir_core.specs.declared.expressions.Expr.{Expr}
use Rattle.ir_core.specs.declared.expressions.Expr.TheVariants as expr
use Rattle.ir_core.specs.declared.operands.BinOp.{BinOp}
use Rattle.ir_core.specs.declared.operands.CastOp.{CastOp}
use Rattle.ir_core.specs.declared.operands.Flags.{Flags}
use Rattle.ir_core.specs.declared.operands.Operand.{Operand}
use Rattle.ir_core.specs.declared.operands.Pred.{Pred}
use Rattle.ir_core.specs.Typing.{index_of}
use Rattle.ir_types.specs.declared.named.NamedTy.{NamedTy}
use Rattle.ir_types.specs.declared.ty.Ty.{Ty, Ptr}
use Rattle.module_grammar.specs.declared.constants.OperandText.{OperandText}
use Rattle.module_grammar.specs.declared.constants.ValueText.{ValueText}
use Rattle.module_grammar.specs.declared.lines.ElementText.{ElementText}
use Rattle.module_grammar.specs.declared.lines.OperationText.{OperationText}
use Rattle.module_grammar.specs.declared.lines.OperationText.TheVariants as form
use Rattle.module_grammar.specs.declared.lines.OperatorText.{OperatorText}
use Rattle.module_grammar.specs.declared.operators.FlagWord.{FlagWord}
use Rattle.module_grammar.specs.declared.types.TypeText.{TypeText}
use Rattle.module_grammar.specs.Operators.{operator_op}
use Rattle.module_walk.specs.Values.{Naming, operand_by, value_by}
use Rattle.named_modules.specs.Addresses.{address_type}
use Rattle.named_modules.specs.Lines.{cast_op, flags_of, is_nsw, is_nuw}
use Rattle.named_modules.specs.Types.{type_of}

-- ---- operators

abbrev pub no_flags : Flags
no_flags = record { nuw = false; nsw = false; exact = false }

abbrev pub flags_among : List FlagWord → Flags
flags_among words = record { nuw = list_any is_nuw words; nsw = list_any is_nsw words; exact = false }

abbrev pub with_flag : Flags → FlagWord → Flags
with_flag flags word = record { nuw = flags.nuw || is_nuw word; nsw = flags.nsw || is_nsw word; exact = flags.exact }

-- these flags, and those that words say
abbrev pub flags_from : Flags → List FlagWord → Flags
flags_from flags [] = flags
flags_from flags (w ∷ ws) = flags_from (with_flag flags w) ws

abbrev pub exact_flag : Bool → Flags
exact_flag exact = record { nuw = false; nsw = false; exact = exact }

-- the operator, and its flags
abbrev pub operator_built : OperatorText → BinOp × Flags
operator_built w = (operator_op w, flags_of w)

-- ---- operations of values

abbrev pub binary_by : {R : Type 0} → Naming R → BinOp → Flags → OperandText → ValueText → Expr R
binary_by naming op flags left right = expr.Binary (record {
  op = op;
  flags = flags;
  ty = type_of left.ty;
  left = value_by naming (type_of left.ty) left.value;
  right = value_by naming (type_of left.ty) right;
})

abbrev pub compare_by : {R : Type 0} → Naming R → Pred → OperandText → ValueText → Expr R
compare_by naming pred left right = expr.Icmp (record {
  pred = pred;
  ty = type_of left.ty;
  left = value_by naming (type_of left.ty) left.value;
  right = value_by naming (type_of left.ty) right;
})

abbrev pub cast_by : {R : Type 0} → Naming R → CastOp → OperandText → TypeText → Expr R
cast_by naming op from to = expr.Cast (record { op = op; operand = operand_by naming from; to = type_of to })

abbrev pub operation_by : {R : Type 0} → Naming R → OperationText → Expr R
operation_by naming (form.Binary w) = binary_by naming (operator_op w.operator) (flags_of w.operator) w.left w.right
operation_by naming (form.Compare w) = compare_by naming w.pred w.left w.right
operation_by naming (form.Cast w) = cast_by naming (cast_op w.word) w.from w.to
operation_by naming (form.Select w) =
    expr.Select (record { condition = operand_by naming w.condition; left = operand_by naming w.then; right = operand_by naming w.other })

-- ---- addresses

-- the type of an address, beside these named types; where operands lead nowhere a pointer to the first type
abbrev pub pointed : {R : Type 0} → List NamedTy → Ty → Ty → List (Operand R) → Ty
pointed types base of indices = unwrap_or (address_type types base of (map index_of indices)) (Ptr of)

abbrev pub element_at : {R : Type 0} → List NamedTy → Bool → Ty → Operand R → List (Operand R) → Element R
element_at types inbounds of base indices =
    record { inbounds = inbounds; of = of; base = base; indices = indices; to = pointed types base.ty of indices }

abbrev pub element_by : {R : Type 0} → Naming R → List NamedTy → ElementText → Element R
element_by naming types w = element_at types w.inbounds (type_of w.of) (operand_by naming w.base) (map (operand_by naming) w.indices)
