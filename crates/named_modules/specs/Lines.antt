-- What lines name (LangRef 3.7, Instruction Reference).
use Rattle.std.specs.Prelude.{◌≡◌, ℕ, Bool, true, false, not, cond, List, [], ◌∷◌, map, Option, None, Some, nat_eq, unwrap_or}
use Rattle.std.specs.List.{AllByRecursion, AllZip, Contains, filter, list_any}
use Rattle.ir_core.specs.declared.expressions.Binary.{Binary}
use Rattle.ir_core.specs.declared.expressions.Cast.{Cast}
use Rattle.ir_core.specs.declared.expressions.Element.{Element}
use Rattle.ir_core.specs.declared.expressions.Expr.{Expr}
use Rattle.ir_core.specs.declared.expressions.Expr.TheVariants as expr
use Rattle.ir_core.specs.declared.expressions.Icmp.{Icmp}
use Rattle.ir_core.specs.declared.expressions.Load.{Load}
use Rattle.ir_core.specs.declared.expressions.Select.{Select}
use Rattle.ir_core.specs.declared.functions.Alloca.{Alloca}
use Rattle.ir_core.specs.declared.functions.Argument.{Argument}
use Rattle.ir_core.specs.declared.functions.Call.{Call}
use Rattle.ir_core.specs.declared.functions.Instr.{Instr}
use Rattle.ir_core.specs.declared.functions.Instr.TheVariants as instr
use Rattle.ir_core.specs.declared.functions.Store.{Store}
use Rattle.ir_core.specs.declared.modules.Module.{Module}
use Rattle.ir_core.specs.declared.operands.CastOp.{CastOp}
use Rattle.ir_core.specs.declared.operands.CastOp.TheVariants.{BitCast}
use Rattle.ir_core.specs.declared.operands.Flags.{Flags}
use Rattle.ir_core.specs.Typing.{Signature, index_of, signatures_of}
use Rattle.ir_types.specs.declared.names.Name.{Name}
use Rattle.ir_types.specs.declared.ty.Ty.{Ty, Ptr, Void}
use Rattle.module_grammar.specs.declared.attributes.ParamAttributeText.{ParamAttributeText}
use Rattle.module_grammar.specs.declared.lines.AllocaText.{AllocaText}
use Rattle.module_grammar.specs.declared.lines.ArgumentText.{ArgumentText}
use Rattle.module_grammar.specs.declared.lines.BinaryText.{BinaryText}
use Rattle.module_grammar.specs.declared.lines.CallBodyText.{CallBodyText}
use Rattle.module_grammar.specs.declared.lines.CallBodyText.TheVariants as body
use Rattle.module_grammar.specs.declared.lines.CallEndText.{CallEndText}
use Rattle.module_grammar.specs.declared.lines.CastText.{CastText}
use Rattle.module_grammar.specs.declared.lines.CastWord.{CastWord}
use Rattle.module_grammar.specs.declared.lines.CastWord.TheVariants as conversion
use Rattle.module_grammar.specs.declared.lines.CompareText.{CompareText}
use Rattle.module_grammar.specs.declared.lines.CountText.{CountText}
use Rattle.module_grammar.specs.declared.lines.ElementText.{ElementText}
use Rattle.module_grammar.specs.declared.lines.InstructionText.{InstructionText}
use Rattle.module_grammar.specs.declared.lines.InstructionText.TheVariants as instruction
use Rattle.module_grammar.specs.declared.lines.LineText.{LineText}
use Rattle.module_grammar.specs.declared.lines.LoadText.{LoadText}
use Rattle.module_grammar.specs.declared.lines.OperationText.{OperationText}
use Rattle.module_grammar.specs.declared.lines.OperationText.TheVariants as form
use Rattle.module_grammar.specs.declared.lines.OperatorText.{OperatorText}
use Rattle.module_grammar.specs.declared.lines.OperatorText.TheVariants as operators
use Rattle.module_grammar.specs.declared.lines.SelectText.{SelectText}
use Rattle.module_grammar.specs.declared.lines.StoreText.{StoreText}
use Rattle.module_grammar.specs.declared.lines.VoidCallText.{VoidCallText}
use Rattle.module_grammar.specs.declared.lines.VoidCallText.TheVariants as of_void
use Rattle.module_grammar.specs.declared.operators.FlagWord.{FlagWord}
use Rattle.module_grammar.specs.declared.operators.FlagWord.TheVariants.{Nuw, Nsw}
use Rattle.module_grammar.specs.declared.places.Placed.{Placed}
use Rattle.module_grammar.specs.declared.types.CalledText.{CalledText}
use Rattle.module_grammar.specs.declared.types.TypeText.{TypeText}
use Rattle.module_grammar.specs.Operators.{operator_op, resize_op}
use Rattle.named_modules.specs.Addresses.{address_type}
use Rattle.named_modules.specs.Constants.{global_name}
use Rattle.named_modules.specs.Types.{int_of, type_of}
use Rattle.named_modules.specs.Values.{IsAlign, IsNamed, IsOperand, IsType, IsValue, IsValueType, Registers, extensions_of}

-- ---- operations of values

abbrev pub is_nuw : FlagWord → Bool
is_nuw Nuw = true
is_nuw Nsw = false

abbrev pub is_nsw : FlagWord → Bool
is_nsw Nuw = false
is_nsw Nsw = true

-- `nuw` and `nsw` are a set: they may come in any order and again. `lshr exact` has `exact` alone, `xor` has none.
abbrev pub flags_of : OperatorText → Flags
flags_of (operators.Overflow op words) = record { nuw = list_any is_nuw words; nsw = list_any is_nsw words; exact = false }
flags_of (operators.Exact op is_exact) = record { nuw = false; nsw = false; exact = is_exact }
flags_of (operators.Plain op) = record { nuw = false; nsw = false; exact = false }

abbrev pub cast_op : CastWord → CastOp
cast_op (conversion.Resize op) = resize_op op
cast_op (conversion.BitCast at) = BitCast

module _ (m : Module) (rs : Registers) where
  -- `add nsw i8 %x, -1`; a right value is of the left operand's type
  abbrev pub IsBinary : BinaryText → Binary Name → Type 0
  IsBinary w b =
      (b.op ≡ operator_op w.operator) × (b.flags ≡ flags_of w.operator)
      × IsOperand m rs w.left (record { ty = b.ty; atom = b.left }) × IsValue m rs b.ty w.right b.right

  abbrev pub IsCompare : CompareText → Icmp Name → Type 0
  IsCompare w c = (c.pred ≡ w.pred) × IsOperand m rs w.left (record { ty = c.ty; atom = c.left }) × IsValue m rs c.ty w.right c.right

  abbrev pub IsCast : CastText → Cast Name → Type 0
  IsCast w c = (c.op ≡ cast_op w.word) × IsOperand m rs w.from c.operand × IsValueType m w.to c.to

  abbrev pub IsSelect : SelectText → Select Name → Type 0
  IsSelect w s = IsOperand m rs w.condition s.condition × IsOperand m rs w.then s.left × IsOperand m rs w.other s.right

  abbrev pub IsOperation : OperationText → Expr Name → Type 0
  IsOperation (form.Binary w) (expr.Binary b) = IsBinary w b
  IsOperation (form.Compare w) (expr.Icmp c) = IsCompare w c
  IsOperation (form.Cast w) (expr.Cast c) = IsCast w c
  IsOperation (form.Select w) (expr.Select s) = IsSelect w s
  IsOperation w e = ⊥

  -- ---- memory

  -- The type that is kept is the one to which the indices lead, or without index the base's; where they lead nowhere, a pointer to the first
  -- type.
  abbrev pub IsElement : ElementText → Element Name → Type 0
  IsElement w e =
      (e.inbounds ≡ w.inbounds) × IsType m w.of e.of × IsOperand m rs w.base e.base × AllZip (IsOperand m rs) w.indices e.indices
      × (e.to ≡ unwrap_or (address_type m.types e.base.ty e.of (map index_of e.indices)) (Ptr e.of))

  abbrev pub IsLoad : LoadText → Load Name → Type 0
  IsLoad w l = IsValueType m w.ty l.of × IsOperand m rs w.address l.pointer × IsAlign w.align l.align

  abbrev pub IsStore : StoreText → Store → Type 0
  IsStore w s = IsOperand m rs w.value s.value × IsOperand m rs w.address s.pointer × IsAlign w.align s.align

-- A count is a number of its type, read without sign; one of 1 isn't kept, of whatever type: `i1 true`, `i1 -1`.
abbrev pub IsCountOf : Option ℕ → Ty → Option (Ty × ℕ) → Type 0
IsCountOf None t count = ⊥
IsCountOf (Some n) t count = count ≡ cond (nat_eq n 1) None (Some (t, n))

abbrev pub IsCount : Module → Option CountText → Option (Ty × ℕ) → Type 0
IsCount m None count = count ≡ None
IsCount m (Some w) count = IsType m w.ty (type_of w.ty) × IsCountOf (int_of (type_of w.ty) w.number) (type_of w.ty) count

-- `%p = alloca i32, i8 4, align 4`
abbrev pub IsAlloca : Module → AllocaText → Alloca → Type 0
IsAlloca m w a = IsType m w.ty a.of × (a.to ≡ Ptr a.of) × IsCount m w.count a.count × IsAlign w.align a.align

-- ---- calls

-- the types of parameters that stand between parentheses before the name of a function at its place, which the tree doesn't keep behind
-- `call void`
abbrev pub Stated : Type 1
Stated = Placed Name → CalledText → Type 0

-- They are the parameters' of what is called, with `...` where that takes further arguments; and it states them if it does.
abbrev pub IsCalled : Module → Signature → CalledText → Type 0
IsCalled m s c = AllZip (IsType m) c.types s.params × (c.is_open ≡ s.variadic)

abbrev pub MayBeCalled : Module → Signature → Option CalledText → Type 0
MayBeCalled m s None = s.variadic ≡ false
MayBeCalled m s (Some c) = IsCalled m s c

-- void, or a type of values
abbrev pub IsResult : Module → Option TypeText → Ty → Type 0
IsResult m None t = t ≡ Void
IsResult m (Some w) t = IsValueType m w t

-- `i8 zeroext %x`
abbrev pub IsArgument : Module → Registers → ArgumentText → Argument → Type 0
IsArgument m rs w a =
    IsOperand m rs (record { ty = w.ty; value = w.value }) a.operand × (a.extensions ≡ extensions_of w.attributes)

-- Of a call: its result with its attributes, the types of parameters that are stated, if any, its callee, which is a function of the module, and
-- its arguments. How many there are and of which types isn't asked here.
pub record NamesCall (m : Module) (rs : Registers) (attributes : List ParamAttributeText) (of : Option TypeText) (states : Option CalledText)
    (name : Placed Name) (end : CallEndText) (c : Call) : Type 0 where
  pub extensions : c.result_extensions ≡ extensions_of attributes
  pub result : IsResult m of c.result
  pub callee : c.callee ≡ name.what
  pub signature : Signature
  pub known : Contains (signatures_of m) (c.callee, signature)
  pub called : MayBeCalled m signature states
  pub arguments : AllZip (IsArgument m rs) end.arguments c.arguments

-- behind a mere `void`; a call that debugging alone wants names nothing
abbrev pub IsVoidCall : Module → Registers → Stated → Bool → Placed Name → CallEndText → Call → Type 0
IsVoidCall m rs stated false name end c = NamesCall m rs [] None None name end c
IsVoidCall m rs stated true name end c = (called : CalledText) × stated name called × NamesCall m rs [] None (Some called) name end c

abbrev pub IsVoidCallee : Module → Registers → Stated → Bool → VoidCallText → Call → Type 0
IsVoidCallee m rs stated is_stated (of_void.Call name end) c = IsVoidCall m rs stated is_stated name end c
IsVoidCallee m rs stated is_stated (of_void.Debug name attributes) c = ⊥

abbrev pub IsCall : Module → Registers → Stated → CallBodyText → Call → Type 0
IsCall m rs stated (body.Convention attributes callee end) c =
    NamesCall m rs attributes callee.result callee.called (global_name callee.name) end c
IsCall m rs stated (body.Attributes first others callee end) c =
    NamesCall m rs (first ∷ others) callee.result callee.called (global_name callee.name) end c
IsCall m rs stated (body.Typed t called name end) c = NamesCall m rs [] (Some t) called (global_name name) end c
IsCall m rs stated (body.Void v) c = IsVoidCallee m rs stated v.is_stated v.call c

-- ---- lines

-- a call that debugging alone wants, which is dropped
abbrev pub is_debug_call : VoidCallText → Bool
is_debug_call (of_void.Call name end) = false
is_debug_call (of_void.Debug name attributes) = true

abbrev pub is_dropped_call : CallBodyText → Bool
is_dropped_call (body.Void v) = is_debug_call v.call
is_dropped_call b = false

abbrev pub is_dropped : InstructionText → Bool
is_dropped (instruction.Call c) = is_dropped_call c.body
is_dropped i = false

abbrev pub IsRight : Module → Registers → InstructionText → Expr Name → Type 0
IsRight m rs (instruction.Operation w) e = IsOperation m rs w e
IsRight m rs (instruction.Element w) (expr.Element e) = IsElement m rs w e
IsRight m rs (instruction.Load w) (expr.Load l) = IsLoad m rs w l
IsRight m rs w e = ⊥

-- the register of a call is written, or left out to be counted, where its result isn't void
abbrev pub IsResultNamed : Option (Placed Name) → Ty → Option Name → Type 0
IsResultNamed register result None = (register ≡ None) × (result ≡ Void)
IsResultNamed register result (Some x) = IsNamed register x × (result ≡ Void → ⊥)

-- A line without result has no register.
abbrev pub IsInstruction : Module → Registers → Stated → Option (Placed Name) → InstructionText → Instr → Type 0
IsInstruction m rs stated register w (instr.Calm c) = IsNamed register c.name × IsRight m rs w c.right
IsInstruction m rs stated register (instruction.Alloca w) (instr.Alloca a) = IsNamed register a.name × IsAlloca m w a
IsInstruction m rs stated register (instruction.Store w) (instr.Store s) = (register ≡ None) × IsStore m rs w s
IsInstruction m rs stated register (instruction.Call w) (instr.Call c) = IsResultNamed register c.result c.name × IsCall m rs stated w.body c
IsInstruction m rs stated register w i = ⊥

abbrev pub IsLine : Module → Registers → Stated → LineText → Instr → Type 0
IsLine m rs stated w i = IsInstruction m rs stated w.register w.attached.instruction i

abbrev pub is_kept : LineText → Bool
is_kept w = not (is_dropped w.attached.instruction)

-- what is dropped has no register
abbrev pub HasNone : Bool → Option (Placed Name) → Type 0
HasNone true register = register ≡ None
HasNone false register = Unit {0}

abbrev pub IsBare : LineText → Type 0
IsBare w = HasNone (is_dropped w.attached.instruction) w.register

-- the lines of a block, but for those that are dropped
abbrev pub AreLines : Module → Registers → Stated → List LineText → List Instr → Type 0
AreLines m rs stated ws is = AllByRecursion IsBare ws × AllZip (IsLine m rs stated) (filter is_kept ws) is
