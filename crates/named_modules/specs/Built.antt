-- The module that is built of a tree. It is the one that the tree names where nothing is at fault.
use Rattle.std.specs.Prelude.{◌+◌, ◌^◌, ◌-◌, ℕ, cond, List, [], ◌∷◌, map, Option, None, Some, nat_eq, nat_lt, unwrap_or}
use Rattle.std.specs.List.{filter, filter_map}
use Rattle.ir_core.specs.declared.expressions.Expr.{Expr}
use Rattle.ir_core.specs.declared.expressions.Expr.TheVariants as expr
use Rattle.ir_core.specs.declared.functions.Argument.{Argument}
use Rattle.ir_core.specs.declared.functions.Block.{Block}
use Rattle.ir_core.specs.declared.functions.Case.{Case}
use Rattle.ir_core.specs.declared.functions.Entry.{Entry}
use Rattle.ir_core.specs.declared.functions.Function.{Function}
use Rattle.ir_core.specs.declared.functions.Instr.{Instr}
use Rattle.ir_core.specs.declared.functions.Instr.TheVariants as instr
use Rattle.ir_core.specs.declared.functions.Param.{Param}
use Rattle.ir_core.specs.declared.functions.Phi.{Phi}
use Rattle.ir_core.specs.declared.functions.Term.{Term}
use Rattle.ir_core.specs.declared.functions.Term.TheVariants as term
use Rattle.ir_core.specs.declared.modules.Declaration.{Declaration}
use Rattle.ir_core.specs.declared.modules.DeclaredParam.{DeclaredParam}
use Rattle.ir_core.specs.declared.modules.GlobalVar.{GlobalVar}
use Rattle.ir_core.specs.declared.modules.Init.{Init}
use Rattle.ir_core.specs.declared.modules.Linkage.{Linkage}
use Rattle.ir_core.specs.declared.modules.Linkage.TheVariants as linkage
use Rattle.ir_core.specs.declared.modules.Module.{Module}
use Rattle.ir_core.specs.declared.operands.Atom.{Atom}
use Rattle.ir_core.specs.declared.operands.Atom.TheVariants.{Constant, Register}
use Rattle.ir_core.specs.declared.operands.Operand.{Operand}
use Rattle.ir_core.specs.Functions.{name_set}
use Rattle.ir_core.specs.Typing.{index_of}
use Rattle.ir_lexer.specs.declared.token.Number.{Number}
use Rattle.ir_types.specs.declared.named.NamedTy.{NamedTy}
use Rattle.ir_types.specs.declared.names.Name.{Name}
use Rattle.ir_types.specs.declared.names.Name.TheVariants as name
use Rattle.ir_types.specs.declared.ty.Ty.{Ty, Ptr, Void}
use Rattle.module_grammar.specs.declared.attributes.ParamAttributeText.{ParamAttributeText}
use Rattle.module_grammar.specs.declared.constants.GlobalNameText.{GlobalNameText}
use Rattle.module_grammar.specs.declared.constants.OperandText.{OperandText}
use Rattle.module_grammar.specs.declared.constants.ValueText.{ValueText}
use Rattle.module_grammar.specs.declared.constants.ValueText.TheVariants as text
use Rattle.module_grammar.specs.declared.flow.BlockText.{BlockText}
use Rattle.module_grammar.specs.declared.flow.BranchText.{BranchText}
use Rattle.module_grammar.specs.declared.flow.BranchText.TheVariants as branch
use Rattle.module_grammar.specs.declared.flow.CaseText.{CaseText}
use Rattle.module_grammar.specs.declared.flow.EntryText.{EntryText}
use Rattle.module_grammar.specs.declared.flow.PhiText.{PhiText}
use Rattle.module_grammar.specs.declared.flow.TermText.{TermText}
use Rattle.module_grammar.specs.declared.flow.TermText.TheVariants as written
use Rattle.module_grammar.specs.declared.functions.DeclarationText.{DeclarationText}
use Rattle.module_grammar.specs.declared.functions.DeclaredNameText.{DeclaredNameText}
use Rattle.module_grammar.specs.declared.functions.DeclaredNameText.TheVariants as declared
use Rattle.module_grammar.specs.declared.functions.DeclaredText.{DeclaredText}
use Rattle.module_grammar.specs.declared.functions.DefinitionText.{DefinitionText}
use Rattle.module_grammar.specs.declared.functions.ParamText.{ParamText}
use Rattle.module_grammar.specs.declared.items.GlobalBodyText.{GlobalBodyText}
use Rattle.module_grammar.specs.declared.items.HeldText.{HeldText}
use Rattle.module_grammar.specs.declared.items.HeldText.TheVariants as held
use Rattle.module_grammar.specs.declared.items.ModuleText.{ModuleText}
use Rattle.module_grammar.specs.declared.items.TypeBodyText.{TypeBodyText}
use Rattle.module_grammar.specs.declared.items.TypeBodyText.TheVariants as body
use Rattle.module_grammar.specs.declared.lines.ArgumentText.{ArgumentText}
use Rattle.module_grammar.specs.declared.lines.CallBodyText.{CallBodyText}
use Rattle.module_grammar.specs.declared.lines.CallBodyText.TheVariants as call
use Rattle.module_grammar.specs.declared.lines.CallEndText.{CallEndText}
use Rattle.module_grammar.specs.declared.lines.CountText.{CountText}
use Rattle.module_grammar.specs.declared.lines.InstructionText.{InstructionText}
use Rattle.module_grammar.specs.declared.lines.InstructionText.TheVariants as instruction
use Rattle.module_grammar.specs.declared.lines.LineText.{LineText}
use Rattle.module_grammar.specs.declared.lines.OperationText.{OperationText}
use Rattle.module_grammar.specs.declared.lines.OperationText.TheVariants as form
use Rattle.module_grammar.specs.declared.lines.VoidCallText.{VoidCallText}
use Rattle.module_grammar.specs.declared.lines.VoidCallText.TheVariants as of_void
use Rattle.module_grammar.specs.declared.places.Placed.{Placed}
use Rattle.module_grammar.specs.declared.types.TypeText.{TypeText}
use Rattle.module_grammar.specs.Operators.{operator_op}
use Rattle.named_modules.specs.Addresses.{address_type}
use Rattle.named_modules.specs.Constants.{const_of, global_name, init_of}
use Rattle.named_modules.specs.Flow.{entries_in}
use Rattle.named_modules.specs.Functions.{blocks_in, linkage_said, name_declared}
use Rattle.named_modules.specs.Lines.{cast_op, flags_of, is_kept}
use Rattle.named_modules.specs.Modules.{declarations_from, definition_item, global_item, is_constant, linkage_or_none, type_item}
use Rattle.named_modules.specs.Types.{int_of, type_of}
use Rattle.named_modules.specs.Values.{extensions_of}

-- ---- names and numbers

-- Its name where this number is due: what is written, or the number. No name is a number from 2 to the 32 on.
abbrev pub name_due : ℕ → Option (Placed Name) → Name
name_due due None = name.Number (cond (nat_lt due (2 ^ 32)) due 0)
name_due due (Some w) = w.what

-- a text takes no number
abbrev pub due_after : ℕ → Name → ℕ
due_after due (name.Text bytes) = due
due_after due (name.Number n) = due + 1

-- The number that is due behind it. Where 1 is due, `%5` takes the 1: the next one is 2.
abbrev pub due_behind : ℕ → Option (Placed Name) → ℕ
due_behind due None = due + 1
due_behind due (Some w) = due_after due w.what

abbrev pub due_from : ℕ → List (Option (Placed Name)) → ℕ
due_from due [] = due
due_from due (w ∷ ws) = due_from (due_behind due w) ws

-- a label without its `:`
abbrev pub label_name : Option (Placed Name) → Option (Placed Name)
label_name None = None
label_name (Some w) = Some (record { what = w.what; start = w.start; end = w.end - 1 })

-- `align 0` is no alignment, and one that none has is built as 0
abbrev pub align_built : Number → ℕ
align_built n = cond (nat_lt n.magnitude (2 ^ 32)) n.magnitude 0

abbrev pub align_kept : Number → Option ℕ
align_kept n = cond (nat_eq n.magnitude 0) None (Some (align_built n))

abbrev pub align_of : Option (Placed Number) → Option ℕ
align_of None = None
align_of (Some n) = align_kept n.what

-- ---- values

abbrev pub value_at : Ty → ValueText → Atom Name
value_at t (text.Const w) = Constant (const_of w t)
value_at t (text.Local w) = Register w.what
value_at t (text.Tagged tag w) = Register w.what

abbrev pub operand_of : OperandText → Operand Name
operand_of w = record { ty = type_of w.ty; atom = value_at (type_of w.ty) w.value }

abbrev pub operation_of : OperationText → Expr Name
operation_of (form.Binary w) = expr.Binary (record {
  op = operator_op w.operator;
  flags = flags_of w.operator;
  ty = type_of w.left.ty;
  left = value_at (type_of w.left.ty) w.left.value;
  right = value_at (type_of w.left.ty) w.right;
})
operation_of (form.Compare w) = expr.Icmp (record {
  pred = w.pred;
  ty = type_of w.left.ty;
  left = value_at (type_of w.left.ty) w.left.value;
  right = value_at (type_of w.left.ty) w.right;
})
operation_of (form.Cast w) = expr.Cast (record { op = cast_op w.word; operand = operand_of w.from; to = type_of w.to })
operation_of (form.Select w) =
    expr.Select (record { condition = operand_of w.condition; left = operand_of w.then; right = operand_of w.other })

-- ---- lines

-- the type of an address, beside these named types; where operands lead nowhere a pointer to the first type
abbrev pub pointed : List NamedTy → Ty → Ty → List (Operand Name) → Ty
pointed types base of indices = unwrap_or (address_type types base of (map index_of indices)) (Ptr of)

-- a count of 1 isn't kept
abbrev pub count_kept : Ty → ℕ → Option (Ty × ℕ)
count_kept t n = cond (nat_eq n 1) None (Some (t, n))

abbrev pub count_of : Option CountText → Option (Ty × ℕ)
count_of None = None
count_of (Some w) = count_kept (type_of w.ty) (unwrap_or (int_of (type_of w.ty) w.number) 0)

abbrev pub argument_of : ArgumentText → Argument
argument_of w =
    record { operand = operand_of (record { ty = w.ty; value = w.value }); extensions = extensions_of w.attributes }

-- void, or a type
abbrev pub result_of : Option TypeText → Ty
result_of None = Void
result_of (Some w) = type_of w

-- what a call of a result sets is named, of `void` nothing
abbrev pub result_name : ℕ → Option (Placed Name) → Option TypeText → Option Name
result_name due register None = None
result_name due register (Some w) = Some (name_due due register)

abbrev pub called : ℕ → Option (Placed Name) → List ParamAttributeText → Option TypeText → Placed Name → CallEndText → Instr
called due register attributes of callee end = instr.Call (record {
  name = result_name due register of;
  result = result_of of;
  result_extensions = extensions_of attributes;
  callee = callee.what;
  arguments = map argument_of end.arguments;
})

-- a call that debugging wants is none of the kept lines
abbrev pub void_called : ℕ → VoidCallText → Instr
void_called due (of_void.Call callee end) = called due None [] None callee end
void_called due (of_void.Debug callee attributes) = called due None [] None callee (record { arguments = []; attributes = attributes })

abbrev pub call_of : ℕ → Option (Placed Name) → CallBodyText → Instr
call_of due register (call.Convention attributes c end) = called due register attributes c.result (global_name c.name) end
call_of due register (call.Attributes first others c end) = called due register (first ∷ others) c.result (global_name c.name) end
call_of due register (call.Typed t types callee end) = called due register [] (Some t) (global_name callee) end
call_of due register (call.Void v) = void_called due v.call

abbrev pub calm : ℕ → Option (Placed Name) → Expr Name → Instr
calm due register right = instr.Calm (record { name = name_due due register; right = right })

abbrev pub line_at : List NamedTy → ℕ → Option (Placed Name) → InstructionText → Instr
line_at types due register (instruction.Operation w) = calm due register (operation_of w)
line_at types due register (instruction.Element w) = calm due register (expr.Element (record {
  inbounds = w.inbounds;
  of = type_of w.of;
  base = operand_of w.base;
  indices = map operand_of w.indices;
  to = pointed types (type_of w.base.ty) (type_of w.of) (map operand_of w.indices);
}))
line_at types due register (instruction.Alloca w) = instr.Alloca (record {
  name = name_due due register;
  of = type_of w.ty;
  to = Ptr (type_of w.ty);
  count = count_of w.count;
  align = align_of w.align;
})
line_at types due register (instruction.Load w) =
    calm due register (expr.Load (record { of = type_of w.ty; pointer = operand_of w.address; align = align_of w.align }))
line_at types due register (instruction.Store w) =
    instr.Store (record { value = operand_of w.value; pointer = operand_of w.address; align = align_of w.align })
line_at types due register (instruction.Call w) = call_of due register w.body

-- the number that is due behind a line: one that sets nothing takes none, whatever register is written
abbrev pub due_after_line : ℕ → Option Name → Option (Placed Name) → ℕ
due_after_line due None register = due
due_after_line due (Some x) register = due_behind due register

abbrev pub due_behind_line : List NamedTy → ℕ → LineText → ℕ
due_behind_line types due w = due_after_line due (name_set (line_at types due w.register w.attached.instruction)) w.register

abbrev pub due_behind_lines : List NamedTy → ℕ → List LineText → ℕ
due_behind_lines types due [] = due
due_behind_lines types due (w ∷ ws) = due_behind_lines types (due_behind_line types due w) ws

-- each with the number that is due at the first
abbrev pub lines_from : List NamedTy → ℕ → List LineText → List Instr
lines_from types due [] = []
lines_from types due (w ∷ ws) = line_at types due w.register w.attached.instruction ∷ lines_from types (due_behind_line types due w) ws

-- ---- blocks

abbrev pub entry_of : Ty → EntryText → Entry
entry_of t w = record { value = value_at t w.value; from = w.from.what }

abbrev pub phi_at : ℕ → PhiText → Phi
phi_at due w = record {
  name = name_due due w.register;
  ty = type_of w.node.ty;
  entries = map (entry_of (type_of w.node.ty)) (entries_in w.node);
}

abbrev pub phis_from : ℕ → List PhiText → List Phi
phis_from due [] = []
phis_from due (w ∷ ws) = phi_at due w ∷ phis_from (due_behind due w.register) ws

abbrev pub return_of : Option OperandText → Term
return_of None = term.RetVoid
return_of (Some w) = term.Ret (operand_of w)

abbrev pub branch_of : BranchText → Term
branch_of (branch.Always w) = term.Br w.what
branch_of (branch.Condition w) =
    term.CondBr (record { condition = operand_of w.condition; on_true = w.on_true.what; on_false = w.on_false.what })

abbrev pub case_of : CaseText → Case
case_of w = record { ty = type_of w.ty; number = unwrap_or (int_of (type_of w.ty) w.number) 0; label = w.label.what }

abbrev pub term_of : TermText → Term
term_of (written.Ret w) = return_of w
term_of (written.Br w) = branch_of w
term_of (written.Switch w) = term.Switch (record { value = operand_of w.value; default = w.default.what; cases = map case_of w.cases })
term_of written.Unreachable = term.Unreachable

-- the number that is due behind a block's label, and behind its phis
abbrev pub due_in : ℕ → BlockText → ℕ
due_in due w = due_behind due (label_name w.label)

abbrev pub due_behind_phis : ℕ → BlockText → ℕ
due_behind_phis due w = due_from (due_in due w) (map (λ (p : PhiText). p.register) w.body.phis)

abbrev pub kept_lines : BlockText → List LineText
kept_lines w = filter is_kept w.body.lines

-- A block. The numbers go on from its label to its phis, and from them to its lines; what is dropped takes none.
abbrev pub block_from : List NamedTy → ℕ → BlockText → Block
block_from types due w = record {
  name = name_due due (label_name w.label);
  phis = phis_from (due_in due w) w.body.phis;
  body = lines_from types (due_behind_phis due w) (kept_lines w);
  term = term_of w.end.term;
}

abbrev pub blocks_from : List NamedTy → ℕ → List BlockText → List Block
blocks_from types due [] = []
blocks_from types due (w ∷ ws) =
    block_from types due w ∷ blocks_from types (due_behind_lines types (due_behind_phis due w) (kept_lines w)) ws

-- ---- functions

abbrev pub params_from : ℕ → List ParamText → List Param
params_from due [] = []
params_from due (w ∷ ws) =
    record { name = name_due due w.name; ty = type_of w.ty; extensions = extensions_of w.attributes }
    ∷ params_from (due_behind due w.name) ws

abbrev pub function_of : List NamedTy → DefinitionText → Function
function_of types w = record {
  linkage = linkage_said w.linkage;
  result_extensions = extensions_of w.head.result.attributes;
  result = result_of w.head.result.ty;
  name = (global_name w.head.name).what;
  params = params_from 0 w.head.params;
  blocks = blocks_from types (due_from 0 (map (λ (p : ParamText). p.name) w.head.params)) (blocks_in w);
}

abbrev pub declared_param : ParamText → DeclaredParam
declared_param w = record { ty = type_of w.ty; extensions = extensions_of w.attributes }

-- where a name of debugging is kept, its parameters are those that stand there
abbrev pub declared_params : (Placed Name → DeclaredText) → DeclaredNameText → DeclaredText
declared_params stated (declared.Plain x params end) = params
declared_params stated (declared.Debug x end) = stated x

abbrev pub declaration_of : (Placed Name → DeclaredText) → ℕ × DeclarationText → Declaration
declaration_of stated w = record {
  result_extensions = extensions_of w.1.result.attributes;
  result = result_of w.1.result.ty;
  name = (name_declared w.1.declared).what;
  params = map declared_param (declared_params stated w.1.declared).params;
  variadic = (declared_params stated w.1.declared).is_open;
  before = w.0;
}

-- ---- modules

abbrev pub fields_of_body : TypeBodyText → Option (List Ty)
fields_of_body body.Opaque = None
fields_of_body (body.Struct at ws) = Some (map type_of ws)

abbrev pub type_named : Placed Name × TypeBodyText → NamedTy
type_named w = record { name = w.0.what; fields = fields_of_body w.1 }

abbrev pub types_of : ModuleText → List NamedTy
types_of w = map type_named (filter_map type_item w.items)

abbrev pub linkage_held : HeldText → Linkage
linkage_held held.External = linkage.External
linkage_held (held.Init w i) = linkage_or_none w

abbrev pub start_held : Ty → HeldText → Option Init
start_held t held.External = None
start_held t (held.Init w i) = Some (init_of i t)

abbrev pub global_of : GlobalNameText × GlobalBodyText → GlobalVar
global_of w = record {
  name = (global_name w.0).what;
  linkage = linkage_held w.1.held;
  constant = is_constant w.1.word;
  ty = type_of w.1.ty;
  init = start_held (type_of w.1.ty) w.1.held;
  align = align_of w.1.align;
}

-- the module, where the parameters behind a kept name of debugging are those that stand there
abbrev pub module_of : (Placed Name → DeclaredText) → ModuleText → Module
module_of stated w = record {
  types = types_of w;
  globals = map global_of (filter_map global_item w.items);
  functions = map (function_of (types_of w)) (filter_map definition_item w.items);
  declarations = map (declaration_of stated) (declarations_from 0 w.items);
}
