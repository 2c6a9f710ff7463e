-- The right side of a line that is named is in range where what is written of it is.
use Rattle.std.proofs.Common.{◌≡◌, ◌∙◌, Bool, true, false, not, ◌&&◌, ◌||◌, List, ◌∷◌, ◌++◌, map, refl, sym, ap, subst}
use Rattle.std.specs.List.{AllByRecursion}
use Rattle.ir_core.specs.Expressions.{operands_in, type_of as type_given}
use Rattle.ir_core.specs.Ranges.{IsOperandInRange, IsRightInRange, IsTypeInRange, may_have, may_leave, may_wrap}
use Rattle.ir_core.specs.Typing.{index_of}
use Rattle.ir_core.specs.declared.expressions.Element.{Element}
use Rattle.ir_core.specs.declared.expressions.Expr.{Expr}
use Rattle.ir_core.specs.declared.expressions.Expr.TheVariants as expr
use Rattle.ir_core.specs.declared.expressions.Load.{Load}
use Rattle.ir_core.specs.declared.modules.Module.{Module}
use Rattle.ir_types.specs.declared.names.Name.{Name}
use Rattle.module_grammar.specs.Constants.{inbounds, operand, value}
use Rattle.module_grammar.specs.Lines as lines
use Rattle.module_grammar.specs.Listed.{further}
use Rattle.module_grammar.specs.Operators.{exact_op, operator_op, overflow_op}
use Rattle.module_grammar.specs.Symbols.{Symbol, comma, to}
use Rattle.module_grammar.specs.Types.{ty}
use Rattle.module_grammar.specs.declared.constants.OperandText.{OperandText}
use Rattle.module_grammar.specs.declared.lines.ElementText.{ElementText}
use Rattle.module_grammar.specs.declared.lines.InstructionText.{InstructionText}
use Rattle.module_grammar.specs.declared.lines.InstructionText.TheVariants as instruction
use Rattle.module_grammar.specs.declared.lines.LoadText.{LoadText}
use Rattle.module_grammar.specs.declared.lines.OperationText.{OperationText}
use Rattle.module_grammar.specs.declared.lines.OperationText.TheVariants as form
use Rattle.module_grammar.specs.declared.lines.OperatorText.{OperatorText}
use Rattle.module_grammar.specs.declared.lines.OperatorText.TheVariants as operators
use Rattle.module_grammar.specs.declared.operators.ExactOp.{ExactOp}
use Rattle.module_grammar.specs.declared.operators.ExactOp.TheVariants as exact
use Rattle.module_grammar.specs.declared.operators.OverflowOp.{OverflowOp}
use Rattle.module_grammar.specs.declared.operators.OverflowOp.TheVariants as overflow
use Rattle.named_modules.proofs.Lists.{all_left, all_right}
use Rattle.named_modules.specs.Lines.{IsElement, IsLoad, IsOperation, IsRight, flags_of}
use Rattle.named_modules.specs.Values.{IsOperand, Registers}
use Rattle.module_texts.proofs.SpelledLimits.Lists.{all_zipped, further_each}
use Rattle.module_texts.proofs.SpelledLimits.SymbolRanges.{AllInRange, IsSymbolInRange}
use Rattle.module_texts.proofs.SpelledLimits.TypeRanges.{AreNamedWritten, led_in_range, type_in_range, written_in_range}
use Rattle.module_texts.proofs.SpelledLimits.ValueRanges.{align_range, operand_range, type_there, value_range}

-- ---- flags

wraps : (op : OverflowOp) → may_wrap (overflow_op op) ≡ true
wraps overflow.Add = refl
wraps overflow.Sub = refl
wraps overflow.Mul = refl
wraps overflow.Shl = refl

leaves : (op : ExactOp) → may_leave (exact_op op) ≡ true
leaves exact.UDiv = refl
leaves exact.SDiv = refl
leaves exact.LShr = refl
leaves exact.AShr = refl

allowed : (flag may : Bool) → may ≡ true → (not flag || may) ≡ true
allowed true may e = e
allowed false may e = refl

all_three : (a b c : Bool) → a ≡ true → b ≡ true → c ≡ true → (a && b && c) ≡ true
all_three a b c e f g = rw (e, f, g) refl

-- an operator that is written may have the flags that are written
flags_fit : (o : OperatorText) → may_have (operator_op o) (flags_of o) ≡ true
flags_fit (operators.Overflow op words) =
    let flags = flags_of (operators.Overflow op words) in
    let may = may_wrap (overflow_op op) in
    all_three (not flags.nuw || may) (not flags.nsw || may) true (allowed flags.nuw may (wraps op)) (allowed flags.nsw may (wraps op)) refl
flags_fit (operators.Exact op is_exact) =
    let may = may_leave (exact_op op) in
    all_three true true (not is_exact || may) refl refl (allowed is_exact may (leaves op))
flags_fit (operators.Plain op) = refl

-- ---- right sides

-- the type of what it gives, its operands, and what it states beside them
abbrev pub IsWholeRight : Expr Name → Type 0
IsWholeRight e = IsTypeInRange (type_given e) × AllByRecursion IsOperandInRange (operands_in e) × IsRightInRange e

module _ (m : Module) (rs : Registers) (named : AreNamedWritten m.types) where
  operation_range : (w : OperationText) (e : Expr Name) → AllInRange (lines.operation w) → IsOperation m rs w e → IsWholeRight e
  operation_range (form.Binary w) (expr.Binary b) all is =
      let row : List Symbol = comma ∷ value w.right in
      let behind = all_right IsSymbolInRange (lines.operator w.operator) (operand w.left ++ row) all in
      let left = operand_range m rs w.left (record { ty = b.ty; atom = b.left }) (all_left IsSymbolInRange (operand w.left) row behind) is.2 in
      let right = value_range m rs b.ty w.right b.right (all_right IsSymbolInRange (operand w.left) row behind).1 is.3 in
      (left.0, (left, ((left.0, right), tt)), ap (λ op. may_have op b.flags) is.0 ∙ ap (may_have (operator_op w.operator)) is.1 ∙ flags_fit w.operator)
  operation_range (form.Compare w) (expr.Icmp c) all is =
      let row : List Symbol = comma ∷ value w.right in
      let left = operand_range m rs w.left (record { ty = c.ty; atom = c.left }) (all_left IsSymbolInRange (operand w.left) row all.1.1) is.1 in
      let right = value_range m rs c.ty w.right c.right (all_right IsSymbolInRange (operand w.left) row all.1.1).1 is.2 in
      (refl, (left, ((left.0, right), tt)), tt)
  operation_range (form.Cast w) (expr.Cast c) all is =
      let row : List Symbol = to ∷ ty w.to in
      let from = operand_range m rs w.from c.operand (all_left IsSymbolInRange (operand w.from) row all.1) is.1 in
      (type_there w.to c.to (all_right IsSymbolInRange (operand w.from) row all.1).1 is.2.0, (from, tt), tt)
  operation_range (form.Select w) (expr.Select s) all is =
      let other : List Symbol = comma ∷ operand w.other in
      let then : List Symbol = comma ∷ (operand w.then ++ other) in
      let rest = (all_right IsSymbolInRange (operand w.condition) then all.1).1 in
      let condition = operand_range m rs w.condition s.condition (all_left IsSymbolInRange (operand w.condition) then all.1) is.0 in
      let left = operand_range m rs w.then s.left (all_left IsSymbolInRange (operand w.then) other rest) is.1 in
      let right = operand_range m rs w.other s.right (all_right IsSymbolInRange (operand w.then) other rest).1 is.2 in
      (left.0, (condition, (left, (right, tt))), tt)
  operation_range w e all is = absurd is

  element_range : (w : ElementText) (e : Element Name) → AllInRange (lines.element w) → IsElement m rs w e → IsWholeRight (expr.Element e)
  element_range w e all is =
      let indices : List Symbol = further (map operand w.indices) in
      let based : List Symbol = comma ∷ (operand w.base ++ indices) in
      let inside = all_right IsSymbolInRange (inbounds w.inbounds) (ty w.of ++ based) all.1 in
      let of = type_there w.of e.of (all_left IsSymbolInRange (ty w.of) based inside) is.1.0 in
      let rest = (all_right IsSymbolInRange (ty w.of) based inside).1 in
      let base = operand_range m rs w.base e.base (all_left IsSymbolInRange (operand w.base) indices rest) is.2 in
      let each = further_each IsSymbolInRange operand w.indices (all_right IsSymbolInRange (operand w.base) indices rest) in
      let others = all_zipped (λ (o : OperandText). AllInRange (operand o)) (IsOperand m rs) IsOperandInRange (operand_range m rs) w.indices e.indices each is.3 in
      let to = led_in_range m.types named e.base.ty e.of (map index_of e.indices) (written_in_range e.base.ty base.0) (written_in_range e.of of) in
      (subst IsTypeInRange (sym is.4) (type_in_range _ to), (base, others), of)

  load_range : (w : LoadText) (l : Load Name) → AllInRange (lines.load w) → IsLoad m rs w l → IsWholeRight (expr.Load l)
  load_range w l all is =
      let row : List Symbol = comma ∷ (operand w.address ++ lines.align w.align) in
      let rest = (all_right IsSymbolInRange (ty w.ty) row all.1).1 in
      let pointer = operand_range m rs w.address l.pointer (all_left IsSymbolInRange (operand w.address) (lines.align w.align) rest) is.1 in
      (type_there w.ty l.of (all_left IsSymbolInRange (ty w.ty) row all.1) is.0.0, (pointer, tt), align_range w.align l.align is.2)

  pub right_range : (w : InstructionText) (e : Expr Name) → AllInRange (lines.instruction w) → IsRight m rs w e → IsWholeRight e
  right_range (instruction.Operation w) e all is = operation_range w e all is
  right_range (instruction.Element w) (expr.Element e) all is = element_range w e all is
  right_range (instruction.Load w) (expr.Load l) all is = load_range w l all is
  right_range w e all is = absurd is
