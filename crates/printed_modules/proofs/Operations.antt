-- Printed operations, addresses and loads are texts that name them.
use Rattle.std.proofs.Common.{◌≡◌, Bool, true, false, List, [], ◌∷◌, ◌++◌, map, append_assoc, refl, ap, sym}
use Rattle.std.specs.Prelude.{unwrap_or}
use Rattle.std.specs.List.{flat_map}
use Rattle.ir_core.specs.declared.expressions.Binary.{Binary}
use Rattle.ir_core.specs.declared.expressions.Cast.{Cast}
use Rattle.ir_core.specs.declared.expressions.Element.{Element}
use Rattle.ir_core.specs.declared.expressions.Expr.{Expr}
use Rattle.ir_core.specs.declared.expressions.Expr.TheVariants as expr
use Rattle.ir_core.specs.declared.expressions.Icmp.{Icmp}
use Rattle.ir_core.specs.declared.expressions.Load.{Load}
use Rattle.ir_core.specs.declared.expressions.Select.{Select}
use Rattle.ir_core.specs.declared.modules.Module.{Module}
use Rattle.ir_core.specs.declared.operands.Atom.{Atom}
use Rattle.ir_core.specs.declared.operands.BinOp.{BinOp}
use Rattle.ir_core.specs.declared.operands.CastOp.{CastOp}
use Rattle.ir_core.specs.declared.operands.CastOp.TheVariants as cast_op
use Rattle.ir_core.specs.declared.operands.Flags.{Flags}
use Rattle.ir_core.specs.declared.operands.Operand.{Operand}
use Rattle.ir_core.specs.Ranges.{may_have}
use Rattle.ir_core.specs.Words as words
use Rattle.ir_types.specs.declared.names.Name.{Name}
use Rattle.ir_types.specs.declared.ty.Ty.{Ty, Ptr}
use Rattle.ir_printer.specs.ExpressionPrinter.Printed.{printed_expr, printed_flag, printed_flags, printed_local, printed_op, printed_operand, printed_operands, spaced}
use Rattle.module_grammar.specs.declared.constants.OperandText.{OperandText}
use Rattle.module_grammar.specs.declared.constants.ValueText.{ValueText}
use Rattle.module_grammar.specs.declared.lines.CastWord.{CastWord}
use Rattle.module_grammar.specs.declared.lines.CastWord.TheVariants as conversion
use Rattle.module_grammar.specs.declared.lines.InstructionText.{InstructionText}
use Rattle.module_grammar.specs.declared.lines.InstructionText.TheVariants as instruction
use Rattle.module_grammar.specs.declared.lines.OperationText.TheVariants as form
use Rattle.module_grammar.specs.declared.lines.OperatorText.{OperatorText}
use Rattle.module_grammar.specs.declared.operators.ResizeOp.{ResizeOp}
use Rattle.module_grammar.specs.declared.operators.ResizeOp.TheVariants as resize
use Rattle.module_grammar.specs.declared.words.KeyWord.TheVariants as key
use Rattle.module_grammar.specs.declared.words.Language.TheVariants.{Ir}
use Rattle.module_grammar.specs.Constants as constants
use Rattle.module_grammar.specs.Lines as lines
use Rattle.module_grammar.specs.Listed.{further}
use Rattle.module_grammar.specs.Operators.{operator_op, resize_op}
use Rattle.module_grammar.specs.Symbols.{Symbol}
use Rattle.module_grammar.specs.Symbols as symbols
use Rattle.module_grammar.specs.Types as types
use Rattle.named_modules.specs.Lines.{IsOperation, IsRight, flags_of}
use Rattle.named_modules.specs.Lines as naming
use Rattle.named_modules.specs.Values.{IsOperand, IsValue, Registers}
use Rattle.printed_modules.proofs.Fit.{FitsOperand, FitsRight}
use Rattle.printed_modules.proofs.Fitted as fitted
use Rattle.printed_modules.proofs.OperatorTexts.{is_operator}
use Rattle.printed_tokens.proofs.Marks.{comma, flat_stops, further_flat, key, space, word_and_space}
use Rattle.printed_tokens.proofs.Marks as marks
use Rattle.printed_tokens.proofs.ModuleTypes.{HasNames}
use Rattle.printed_tokens.proofs.Places.{symbols_are}
use Rattle.printed_tokens.proofs.Prints.{Prints, before, both, empty, of_text, read_as}
use Rattle.printed_tokens.proofs.ReadTexts.{Any, Stops}
use Rattle.printed_tokens.proofs.ReadTexts as reads
use Rattle.printed_tokens.proofs.TokenWords as kinds
use Rattle.printed_tokens.proofs.Values.{align, align_stops}
use Rattle.printed_tokens.proofs.WordSymbols.{at_any, cast_is, op_is, pred_is, pred_said, resize_said}

-- ---- operators, conversions and flags

operator : (op : BinOp) (flags : Flags) → may_have op flags ≡ true
    → Prints Ir Any lines.operator (λ (w : OperatorText). (op ≡ operator_op w) × (flags ≡ flags_of w)) (printed_op op ++ printed_flags flags)
operator op flags may =
    let is = is_operator Ir op flags may in
    record {
      tokens = kinds.word (words.op_word op) ∷ kinds.flags flags;
      reads = reads.both Any Any (printed_op op) (printed_flags flags) (kinds.word (words.op_word op) ∷ []) (kinds.flags flags)
          (reads.word_and_space (words.op_word op) (op_is op)) (reads.flags flags) (λ rest end. tt);
      is = λ ss at. record {
        tree = is.text;
        are = symbols_are Ir (kinds.word (words.op_word op) ∷ kinds.flags flags) (lines.operator is.text) ss is.symbols at;
        names = (is.op_is, is.flags_are);
      };
    }

abbrev PrintsCast : CastOp → Type 0
PrintsCast op = Prints Ir Any (λ w. lines.cast_word w ∷ []) (λ (w : CastWord). op ≡ naming.cast_op w) (spaced (words.cast_word op))

resized : (op : ResizeOp) → PrintsCast (resize_op op)
resized op =
    read_as Ir (λ w. lines.cast_word w ∷ []) (λ (w : CastWord). resize_op op ≡ naming.cast_op w) (λ t. conversion.Resize op) (λ t named. refl) (λ t named. refl)
    (word_and_space Ir (words.cast_word (resize_op op)) (symbols.Resize op) (cast_is (resize_op op)) (at_any Ir (words.cast_word (resize_op op)) _ (resize_said Ir op)))

cast_word : (op : CastOp) → PrintsCast op
cast_word cast_op.ZExt = resized resize.ZExt
cast_word cast_op.SExt = resized resize.SExt
cast_word cast_op.Trunc = resized resize.Trunc
cast_word cast_op.BitCast =
    read_as Ir (λ w. lines.cast_word w ∷ []) (λ (w : CastWord). cast_op.BitCast ≡ naming.cast_op w) conversion.BitCast (λ at named. refl) (λ at named. refl) (marks.bitcast Ir)

inbounds : (set : Bool) → Prints Ir Any constants.inbounds (λ (b : Bool). set ≡ b) (printed_flag set words.inbounds_word)
inbounds true = read_as Ir constants.inbounds (λ (b : Bool). true ≡ b) (λ t. true) (λ t named. refl) (λ t named. refl) (key Ir key.Inbounds tt)
inbounds false = read_as Ir constants.inbounds (λ (b : Bool). false ≡ b) (λ t. false) (λ t named. refl) (λ t named. refl) (empty Ir Any)

pub further_is : {T : Type 0} (w : T → List Symbol) (ts : List T) → flat_map (λ t. symbols.comma ∷ w t) ts ≡ further (map w ts)
further_is w [] = refl
further_is w (t ∷ ts) = ap (λ l. symbols.comma ∷ (w t ++ l)) (further_is w ts)

module _ (m : Module) (names : HasNames m) (rs : Registers) (labels : List Name) where
  operand : (o : Operand Name) → FitsOperand m rs labels o → Prints Ir Stops constants.operand (λ (w : OperandText). IsOperand m rs w o) (printed_operand printed_local o)
  operand = fitted.operand m names rs labels

  -- ---- a type, and two values of it

  record NamesPair (t : Ty) (a b : Atom Name) (w : OperandText × ValueText) : Type 0 where
    pub left : IsOperand m rs w.0 (record { ty = t; atom = a })
    pub right : IsValue m rs t w.1 b

  abbrev pair_written : OperandText × ValueText → List Symbol
  pair_written w = constants.operand w.0 ++ (symbols.comma ∷ constants.value w.1)

  pair : (t : Ty) (a b : Atom Name) → FitsOperand m rs labels (record { ty = t; atom = a }) → FitsOperand m rs labels (record { ty = t; atom = b })
      → Prints Ir Stops pair_written (NamesPair t a b) (printed_operands printed_local t a b)
  pair t a b left right =
      read_as Ir pair_written (NamesPair t a b) (λ t. (record { ty = t.0; value = t.1.0 }, t.1.1))
      (λ t named. sym (append_assoc (types.ty t.0) (constants.value t.1.0) (symbols.comma ∷ constants.value t.1.1))) (λ w named. record { left = (named.0, named.1.0); right = named.1.1 })
      (both Ir (fitted.value_type m names t left.0)
      (before Ir (space Ir) (both Ir (fitted.value m names rs labels t a left.0 left.1) (before Ir (comma Ir) (fitted.value m names rs labels t b right.0 right.1)) (λ rest end. refl)))
      (λ rest end. refl))

  -- ---- operations

  abbrev PrintsRight : Expr Name → Type 0
  PrintsRight e = Prints Ir Stops lines.instruction (λ (w : InstructionText). IsRight m rs w e) (printed_expr printed_local e)

  binary : (b : Binary Name) → FitsRight m rs labels (expr.Binary b) → PrintsRight (expr.Binary b)
  binary b fits =
      read_as Ir lines.instruction (λ (w : InstructionText). IsRight m rs w (expr.Binary b))
      (λ t. instruction.Operation (form.Binary (record { operator = t.0; left = t.1.0; right = t.1.1 }))) (λ t named. refl)
      (λ t named. (named.0.0, named.0.1, named.1.left, named.1.right))
      (of_text Ir ((printed_op b.op ++ printed_flags b.flags) ++ printed_operands printed_local b.ty b.left b.right) (printed_expr printed_local (expr.Binary b))
      (append_assoc (printed_op b.op) (printed_flags b.flags) (printed_operands printed_local b.ty b.left b.right))
      (both Ir (operator b.op b.flags fits.range) (pair b.ty b.left b.right fits.operands.0 fits.operands.1.0) (λ rest end. tt)))

  compare : (c : Icmp Name) → FitsRight m rs labels (expr.Icmp c) → PrintsRight (expr.Icmp c)
  compare c fits =
      read_as Ir lines.instruction (λ (w : InstructionText). IsRight m rs w (expr.Icmp c))
      (λ t. instruction.Operation (form.Compare (record { pred = c.pred; left = t.0; right = t.1 }))) (λ t named. refl)
      (λ t named. (refl, named.left, named.right))
      (before Ir (key Ir key.Icmp tt)
      (before Ir (word_and_space Ir (words.pred_word c.pred) (symbols.Pred c.pred) (pred_is c.pred) (at_any Ir (words.pred_word c.pred) _ (pred_said Ir c.pred)))
      (pair c.ty c.left c.right fits.operands.0 fits.operands.1.0)))

  cast : (c : Cast Name) → FitsRight m rs labels (expr.Cast c) → PrintsRight (expr.Cast c)
  cast c fits =
      read_as Ir lines.instruction (λ (w : InstructionText). IsRight m rs w (expr.Cast c))
      (λ t. instruction.Operation (form.Cast (record { word = t.0; from = t.1.0; to = t.1.1 }))) (λ t named. refl)
      (λ t named. (named.0, named.1.0, named.1.1))
      (both Ir (cast_word c.op)
      (both Ir (operand c.operand fits.operands.0) (before Ir (before Ir (space Ir) (key Ir key.To tt)) (fitted.value_type m names c.to fits.operator)) (λ rest end. refl))
      (λ rest end. tt))

  select : (s : Select Name) → FitsRight m rs labels (expr.Select s) → PrintsRight (expr.Select s)
  select s fits =
      read_as Ir lines.instruction (λ (w : InstructionText). IsRight m rs w (expr.Select s))
      (λ t. instruction.Operation (form.Select (record { condition = t.0; then = t.1.0; other = t.1.1 }))) (λ t named. refl)
      (λ t named. (named.0, named.1.0, named.1.1))
      (before Ir (key Ir key.Select tt)
      (both Ir (operand s.condition fits.operands.0)
      (before Ir (comma Ir) (both Ir (operand s.left fits.operands.1.0) (before Ir (comma Ir) (operand s.right fits.operands.1.1.0)) (λ rest end. refl)))
      (λ rest end. refl)))

  -- ---- memory

  element : (e : Element Name) → FitsRight m rs labels (expr.Element e) → PrintsRight (expr.Element e)
  element e fits =
      read_as Ir lines.instruction (λ (w : InstructionText). IsRight m rs w (expr.Element e))
      (λ t. instruction.Element (record { at = t.0; inbounds = t.1.0; of = t.1.1.0; base = t.1.1.1.0; indices = t.1.1.1.1 }))
      (λ t named. ap (λ l. symbols.Element t.0 ∷ (constants.inbounds t.1.0 ++ (types.ty t.1.1.0 ++ (symbols.comma ∷ (constants.operand t.1.1.1.0 ++ l))))) (further_is constants.operand t.1.1.1.1))
      (λ t named. (
        named.1.0,
        named.1.1.0,
        named.1.1.1.0,
        named.1.1.1.1,
        sym (ap (λ o. unwrap_or o (Ptr e.of)) fits.operator.1),
      ))
      (both Ir (marks.element Ir)
      (both Ir (inbounds e.inbounds)
      (both Ir (fitted.type m names e.of fits.operator.0)
      (before Ir (comma Ir)
      (both Ir (operand e.base fits.operands.0)
      (further_flat Ir (FitsOperand m rs labels) constants.operand (IsOperand m rs) (printed_operand printed_local) operand e.indices fits.operands.1)
      (flat_stops Ir (printed_operand printed_local) e.indices)))
      (λ rest end. refl)) (λ rest end. tt)) (λ rest end. tt))

  load : (l : Load Name) → FitsRight m rs labels (expr.Load l) → PrintsRight (expr.Load l)
  load l fits =
      read_as Ir lines.instruction (λ (w : InstructionText). IsRight m rs w (expr.Load l))
      (λ t. instruction.Load (record { ty = t.0; address = t.1.0; align = t.1.1 })) (λ t named. refl) (λ t named. (named.0, named.1.0, named.1.1))
      (before Ir (key Ir key.Load tt)
      (both Ir (fitted.value_type m names l.of fits.operator)
      (before Ir (comma Ir) (both Ir (operand l.pointer fits.operands.0) (align Ir l.align fits.range) (align_stops l.align)))
      (λ rest end. refl)))

  pub right : (e : Expr Name) → FitsRight m rs labels e → PrintsRight e
  right (expr.Plain o) fits = absurd fits.operator
  right (expr.Binary b) fits = binary b fits
  right (expr.Icmp c) fits = compare c fits
  right (expr.Cast c) fits = cast c fits
  right (expr.Select s) fits = select s fits
  right (expr.Element e) fits = element e fits
  right (expr.Load l) fits = load l fits
