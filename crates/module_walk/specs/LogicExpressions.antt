-- The expression of the logic that a tree names. No module stands around it: names, `null`, stated types and the types of operands stand as they
-- are.
use Rattle.std.specs.Prelude.{ℕ, cond, List, [], map, Option, Some, unwrap_or}
use Rattle.ir_core.specs.declared.expressions.Element.{Element}
use Rattle.ir_core.specs.declared.expressions.Expr.TheVariants as expr
use Rattle.ir_core.specs.declared.expressions.Load.{Load}
use Rattle.ir_core.specs.declared.expressions.Reg.{Reg}
use Rattle.ir_core.specs.declared.expressions.Reg.TheVariants as reg
use Rattle.ir_core.specs.declared.operands.Atom.{Atom}
use Rattle.ir_core.specs.declared.operands.Atom.TheVariants.{Constant, Register}
use Rattle.ir_core.specs.declared.operands.Operand.{Operand}
use Rattle.ir_core.specs.Expressions.{Expr0}
use Rattle.ir_core.specs.Types.{is_first_class}
use Rattle.ir_core.specs.Typing.{index_of}
use Rattle.ir_lexer.specs.declared.token.Number.{Number}
use Rattle.ir_types.specs.declared.names.Name.{Name}
use Rattle.ir_types.specs.declared.ty.Ty.{Ty, Ptr}
use Rattle.ir_types.specs.Named.{align_of}
use Rattle.module_grammar.specs.declared.constants.OperandText.{OperandText}
use Rattle.module_grammar.specs.declared.constants.Tag.{Tag}
use Rattle.module_grammar.specs.declared.constants.Tag.TheVariants.{Old, Ghost}
use Rattle.module_grammar.specs.declared.constants.ValueText.{ValueText}
use Rattle.module_grammar.specs.declared.constants.ValueText.TheVariants as text
use Rattle.module_grammar.specs.declared.lines.ElementText.{ElementText}
use Rattle.module_grammar.specs.declared.lines.ExprText.{ExprText}
use Rattle.module_grammar.specs.declared.lines.ExprText.TheVariants as written
use Rattle.module_grammar.specs.declared.lines.LoadText.{LoadText}
use Rattle.module_grammar.specs.declared.lines.OperationText.{OperationText}
use Rattle.module_grammar.specs.declared.lines.OperationText.TheVariants as form
use Rattle.module_grammar.specs.declared.places.Placed.{Placed}
use Rattle.module_grammar.specs.Operators.{operator_op}
use Rattle.named_modules.specs.Addresses.{address_type}
use Rattle.named_modules.specs.Built as built
use Rattle.named_modules.specs.Constants.{const_of}
use Rattle.named_modules.specs.Lines.{cast_op, flags_of}
use Rattle.named_modules.specs.Types.{type_of}

-- ---- values

-- `old %x` is the register as it was before the edge that is being crossed, `ghost %x` one that the proof alone has
abbrev pub tagged : Tag → Name → Reg
tagged Old x = reg.Old x
tagged Ghost x = reg.Ghost x

-- The value at the type that is stated for it. A mere `%x` is the register as it is now; a number that is none of the type is built as `undef`.
abbrev pub value_at : Ty → ValueText → Atom Reg
value_at t (text.Const w) = Constant (const_of w t)
value_at t (text.Local w) = Register (reg.Now w.what)
value_at t (text.Tagged tag w) = Register (tagged tag w.what)

abbrev pub operand_of : OperandText → Operand Reg
operand_of w = record { ty = type_of w.ty; atom = value_at (type_of w.ty) w.value }

-- ---- operations of values

abbrev pub operation_of : OperationText → Expr0
operation_of (form.Binary w) = expr.Binary (record {
  op = operator_op w.operator;
  flags = flags_of w.operator;
  ty = type_of w.left.ty;
  left = value_at (type_of w.left.ty) w.left.value;
  right = value_at (type_of w.left.ty) w.right;
})
operation_of (form.Compare w) = expr.Icmp (record {
  pred = w.pred;
  ty = type_of w.left.ty;
  left = value_at (type_of w.left.ty) w.left.value;
  right = value_at (type_of w.left.ty) w.right;
})
operation_of (form.Cast w) = expr.Cast (record { op = cast_op w.word; operand = operand_of w.from; to = type_of w.to })
operation_of (form.Select w) =
    expr.Select (record { condition = operand_of w.condition; left = operand_of w.then; right = operand_of w.other })

-- ---- memory

-- The type to which indices lead where no name has fields; without index, the base's; where they lead nowhere, a pointer to the first type.
-- Without a module no named type has fields: what lies behind an index that enters one has such a pointer here. The type follows from the other
-- parts, so a reader that has a module takes it anew, by the module's types.
abbrev pub pointed : Ty → Ty → List (Operand Reg) → Ty
pointed base of indices = unwrap_or (address_type [] base of (map index_of indices)) (Ptr of)

abbrev pub element_of : ElementText → Element Reg
element_of w = record {
  inbounds = w.inbounds;
  of = type_of w.of;
  base = operand_of w.base;
  indices = map operand_of w.indices;
  to = pointed (type_of w.base.ty) (type_of w.of) (map operand_of w.indices);
}

-- The alignment of an integer or a pointer: of i8 1, of i17 4, of a pointer 8. No line loads another type, which has 1.
abbrev pub own_align : Ty → ℕ
own_align t = cond (is_first_class t) (align_of [] t) 1

-- the alignment that is written; where none is, or `align 0`, that of the type
abbrev pub align_at : Ty → Option (Placed Number) → ℕ
align_at t w = unwrap_or (built.align_of w) (own_align t)

-- So each load of an expression has an alignment: `load i32, i32* %p` is `load i32, i32* %p, align 4`.
abbrev pub load_of : LoadText → Load Reg
load_of w = record { of = type_of w.ty; pointer = operand_of w.address; align = Some (align_at (type_of w.ty) w.align) }

-- ---- expressions

-- `add nsw i8 old %x, -1` is `add nsw` of i8, of the register `x` as it was and the number 255.
abbrev pub expression_of : ExprText → Expr0
expression_of (written.Plain w) = expr.Plain (operand_of w)
expression_of (written.Operation w) = operation_of w
expression_of (written.Element w) = expr.Element (element_of w)
expression_of (written.Load w) = expr.Load (load_of w)
