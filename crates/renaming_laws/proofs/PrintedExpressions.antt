-- A printed expression is read as that expression.
use Rattle.std.proofs.Common.{◌≡◌, ◌∙◌, ◌<◌, ◌≤◌, ℕ, zero, suc, get_or, Bool, true, false, List, [], ◌∷◌, ◌++◌, map, append_assoc, Option, Some, refl, ap, sym, subst, arith}
use Rattle.std.specs.Prelude.{unwrap_or}
use Rattle.std.specs.List.{AllByRecursion, AllZip, flat_map}
use Rattle.std.proofs.lemmas.Bool.{ltb-true}
use Rattle.predictive.proofs.Filling.{grown}
use Rattle.predictive.specs.Grammar.{Forest}
use Rattle.predictive.specs.declared.symbol.Symbol.TheVariants.{Non}
use Rattle.ir_core.specs.declared.limits.Limit.TheVariants as limit
use Rattle.module_spelling.specs.Opened.{IsWithin, depths, lines_in}
use Rattle.module_spelling.specs.Opened.{lines as lines_at}
use Rattle.module_spelling.proofs.Weights.{expression_weight}
use Rattle.module_texts.proofs.SpelledLimits.Claimed.{AreUpTo}
use Rattle.ir_core.specs.declared.expressions.Binary.{Binary}
use Rattle.ir_core.specs.declared.expressions.Cast.{Cast}
use Rattle.ir_core.specs.declared.expressions.Element.{Element}
use Rattle.ir_core.specs.declared.expressions.Expr.TheVariants as expr
use Rattle.ir_core.specs.declared.expressions.Icmp.{Icmp}
use Rattle.ir_core.specs.declared.expressions.Load.{Load}
use Rattle.ir_core.specs.declared.expressions.Reg.{Reg}
use Rattle.ir_core.specs.declared.expressions.Select.{Select}
use Rattle.ir_core.specs.declared.modules.Module.{Module}
use Rattle.ir_core.specs.declared.operands.Atom.{Atom}
use Rattle.ir_core.specs.declared.operands.BinOp.{BinOp}
use Rattle.ir_core.specs.declared.operands.CastOp.{CastOp}
use Rattle.ir_core.specs.declared.operands.CastOp.TheVariants as cast_op
use Rattle.ir_core.specs.declared.operands.Flags.{Flags}
use Rattle.ir_core.specs.declared.operands.Operand.{Operand}
use Rattle.ir_core.specs.declared.operands.Pred.{Pred}
use Rattle.ir_core.specs.Expressions.{Expr0, operands_in}
use Rattle.ir_core.specs.Limits.{depth_limit, line_limit}
use Rattle.ir_core.specs.Ranges.{IsAlignInRange, may_have}
use Rattle.ir_core.specs.Words as words
use Rattle.ir_lexer.specs.Cut.{Placed as PlacedToken}
use Rattle.ir_lexer.specs.declared.token.Number.{Number}
use Rattle.ir_printer.specs.ExpressionPrinter.Printed.{printed_expr, printed_flag, printed_flags, printed_op, printed_operand, printed_operands, printed_register, spaced}
use Rattle.ir_types.specs.declared.ty.Ty.{Ty}
use Rattle.module_grammar.proofs.Lawful.{lawful}
use Rattle.module_grammar.proofs.ModulesMade.{expression_text}
use Rattle.module_grammar.proofs.WithGap.{is_gapped}
use Rattle.module_grammar.specs.declared.constants.OperandText.{OperandText}
use Rattle.module_grammar.specs.declared.lines.CastWord.{CastWord}
use Rattle.module_grammar.specs.declared.lines.CastWord.TheVariants as conversion
use Rattle.module_grammar.specs.declared.lines.ExprText.{ExprText}
use Rattle.module_grammar.specs.declared.lines.ExprText.TheVariants as written
use Rattle.module_grammar.specs.declared.lines.InstructionText.TheVariants as instruction
use Rattle.module_grammar.specs.declared.lines.OperationText.TheVariants as form
use Rattle.module_grammar.specs.declared.lines.OperatorText.{OperatorText}
use Rattle.module_grammar.specs.declared.operators.ResizeOp.{ResizeOp}
use Rattle.module_grammar.specs.declared.operators.ResizeOp.TheVariants as resize
use Rattle.module_grammar.specs.declared.places.Placed.{Placed}
use Rattle.module_grammar.specs.declared.words.KeyWord.TheVariants as key
use Rattle.module_grammar.specs.declared.words.Language.TheVariants.{Logic}
use Rattle.module_grammar.specs.Constants as constants
use Rattle.module_grammar.specs.Lines as lines
use Rattle.module_grammar.specs.Operators.{operator_op, resize_op}
use Rattle.module_grammar.specs.Rules.{meaning}
use Rattle.module_grammar.specs.Sorts.{Expr}
use Rattle.module_grammar.specs.Symbols.{Symbol, kind_of}
use Rattle.module_grammar.specs.Symbols as symbols
use Rattle.module_grammar.specs.Texts.{IsWritten}
use Rattle.module_grammar.specs.Tokens.{with_gap}
use Rattle.module_grammar.specs.Types as types
use Rattle.module_walk.specs.LogicExpressions.{align_at, expression_of, operand_of, own_align, pointed, value_at}
use Rattle.named_modules.proofs.OneLine.{align_is}
use Rattle.named_modules.proofs.ValueTies.{align_ties}
use Rattle.named_modules.specs.Faults.{align_faults}
use Rattle.named_modules.specs.Built as built
use Rattle.named_modules.specs.Lines.{flags_of}
use Rattle.named_modules.specs.Lines as naming
use Rattle.named_modules.specs.Types.{type_of}
use Rattle.named_modules.specs.Values.{IsAlign}
use Rattle.expression_reader.proofs.Whole.{spell_one}
use Rattle.expression_reader.specs.Expressions.{AreOfExpression, SpellsExpression, logic_symbols}
use Rattle.expression_reader.specs.Ranges.{operand_faults, range_faults, value_faults}
use Rattle.expression_reader.specs.Types.{count_faults}
use Rattle.module_grammar.proofs.OneTree.{expressions as expressions_once}
use Rattle.printed_modules.proofs.Calm.{calm_instruction, calm_operand}
use Rattle.printed_modules.proofs.Deep.{ExpressionFits, OperandFits}
use Rattle.printed_modules.proofs.Laid.{AreCalm, calm_fills}
use Rattle.printed_modules.proofs.LinesWithin.{LineClaim, few_inside, line_claim, one_counted}
use Rattle.printed_modules.proofs.Operations.{further_is}
use Rattle.printed_modules.proofs.OperatorTexts.{is_operator}
use Rattle.printed_modules.proofs.DeepWithin.{DeepClaim, deep_claim, one_deep}
use Rattle.printed_modules.proofs.ReadTrees.{GrownOf, bears}
use Rattle.printed_tokens.proofs.Marks.{comma, flat_stops, further_flat, key, space, word_and_space}
use Rattle.printed_tokens.proofs.Marks as marks
use Rattle.printed_tokens.proofs.ModuleTypes.{HasNames}
use Rattle.printed_tokens.proofs.Places.{symbols_are, symbols_from}
use Rattle.printed_tokens.proofs.Prints.{Prints, before, both, empty, of_text, read_as}
use Rattle.printed_tokens.proofs.ReadTexts.{Any, Stops, whole}
use Rattle.printed_tokens.proofs.ReadTexts as reads
use Rattle.printed_tokens.proofs.TokenWords as kinds
use Rattle.printed_tokens.proofs.Values.{align, align_stops}
use Rattle.printed_tokens.proofs.WordSymbols.{at_any, cast_is, op_is, pred_is, pred_said, resize_said}
use Rattle.renaming_laws.specs.HintLaws.{IsWritableExpression, IsWritableOperand, IsWritableType, PrintedExpressionsAreApart, PrintedExpressionsAreRead}
use Rattle.renaming_laws.proofs.NoRanges.{none}
use Rattle.renaming_laws.proofs.PrintedOperands.{NamesOperand, at_type, operand, operand_fits, operand_is, operand_ranged, pair, type}

-- ---- operators, conversions and flags

operator : (op : BinOp) (flags : Flags) → may_have op flags ≡ true
    → Prints Logic Any lines.operator (λ (w : OperatorText). (op ≡ operator_op w) × (flags ≡ flags_of w)) (printed_op op ++ printed_flags flags)
operator op flags may =
    let is = is_operator Logic op flags may in
    record {
      tokens = kinds.word (words.op_word op) ∷ kinds.flags flags;
      reads = reads.both Any Any (printed_op op) (printed_flags flags) (kinds.word (words.op_word op) ∷ []) (kinds.flags flags)
          (reads.word_and_space (words.op_word op) (op_is op)) (reads.flags flags) (λ rest end. tt);
      is = λ ss at. record {
        tree = is.text;
        are = symbols_are Logic (kinds.word (words.op_word op) ∷ kinds.flags flags) (lines.operator is.text) ss is.symbols at;
        names = (is.op_is, is.flags_are);
      };
    }

abbrev PrintsCast : CastOp → Type 0
PrintsCast op = Prints Logic Any (λ w. lines.cast_word w ∷ []) (λ (w : CastWord). op ≡ naming.cast_op w) (spaced (words.cast_word op))

resized : (op : ResizeOp) → PrintsCast (resize_op op)
resized op =
    read_as Logic (λ w. lines.cast_word w ∷ []) (λ (w : CastWord). resize_op op ≡ naming.cast_op w) (λ t. conversion.Resize op) (λ t named. refl) (λ t named. refl)
    (word_and_space Logic (words.cast_word (resize_op op)) (symbols.Resize op) (cast_is (resize_op op)) (at_any Logic (words.cast_word (resize_op op)) _ (resize_said Logic op)))

cast_word : (op : CastOp) → PrintsCast op
cast_word cast_op.ZExt = resized resize.ZExt
cast_word cast_op.SExt = resized resize.SExt
cast_word cast_op.Trunc = resized resize.Trunc
cast_word cast_op.BitCast =
    read_as Logic (λ w. lines.cast_word w ∷ []) (λ (w : CastWord). cast_op.BitCast ≡ naming.cast_op w) conversion.BitCast (λ at named. refl) (λ at named. refl) (marks.bitcast Logic)

inbounds : (set : Bool) → Prints Logic Any constants.inbounds (λ (b : Bool). set ≡ b) (printed_flag set words.inbounds_word)
inbounds true = read_as Logic constants.inbounds (λ (b : Bool). true ≡ b) (λ t. true) (λ t named. refl) (λ t named. refl) (key Logic key.Inbounds tt)
inbounds false = read_as Logic constants.inbounds (λ (b : Bool). false ≡ b) (λ t. false) (λ t named. refl) (λ t named. refl) (empty Logic Any)

-- ---- lists of operands

operands_are : (ws : List OperandText) (os : List (Operand Reg)) → AllZip NamesOperand ws os → map operand_of ws ≡ os
operands_are [] [] all = refl
operands_are [] (o ∷ os) all = absurd all
operands_are (w ∷ ws) [] all = absurd all
operands_are (w ∷ ws) (o ∷ os) all = ap (λ p. p ∷ map operand_of ws) (operand_is w o all.0) ∙ ap (λ ps. o ∷ ps) (operands_are ws os all.1)

operands_ranged : (ws : List OperandText) (os : List (Operand Reg)) → AllZip NamesOperand ws os → flat_map operand_faults ws ≡ []
operands_ranged [] [] all = refl
operands_ranged [] (o ∷ os) all = absurd all
operands_ranged (w ∷ ws) [] all = absurd all
operands_ranged (w ∷ ws) (o ∷ os) all =
    none (operand_faults w) (flat_map operand_faults ws) (operand_ranged w o all.0) (operands_ranged ws os all.1)

operands_fit : (ws : List OperandText) (os : List (Operand Reg)) → AllZip NamesOperand ws os → AllByRecursion (OperandFits 0 depth_limit) ws
operands_fit [] [] all = tt
operands_fit [] (o ∷ os) all = absurd all
operands_fit (w ∷ ws) [] all = absurd all
operands_fit (w ∷ ws) (o ∷ os) all = (operand_fits w o all.0, operands_fit ws os all.1)

-- ---- what is built of the parts

abbrev binary_of : BinOp → Flags → Ty → Atom Reg → Atom Reg → Expr0
binary_of op flags t l r = expr.Binary (record { op = op; flags = flags; ty = t; left = l; right = r })

binary_is :
    (op : BinOp) (flags : Flags) (t : Ty) (l r : Atom Reg) (b : Binary Reg) → b.op ≡ op → b.flags ≡ flags → t ≡ b.ty → l ≡ b.left → r ≡ b.right
    → binary_of op flags t l r ≡ expr.Binary b
binary_is op flags t l r b p q typed left right =
    ap (λ x. binary_of x flags t l r) (sym p) ∙ ap (λ x. binary_of b.op x t l r) (sym q) ∙ ap (λ x. binary_of b.op b.flags x l r) typed
    ∙ ap (λ x. binary_of b.op b.flags b.ty x r) left ∙ ap (λ x. binary_of b.op b.flags b.ty b.left x) right

abbrev compare_of : Pred → Ty → Atom Reg → Atom Reg → Expr0
compare_of pred t l r = expr.Icmp (record { pred = pred; ty = t; left = l; right = r })

compare_is : (t : Ty) (l r : Atom Reg) (c : Icmp Reg) → t ≡ c.ty → l ≡ c.left → r ≡ c.right → compare_of c.pred t l r ≡ expr.Icmp c
compare_is t l r c typed left right =
    ap (λ x. compare_of c.pred x l r) typed ∙ ap (λ x. compare_of c.pred c.ty x r) left ∙ ap (λ x. compare_of c.pred c.ty c.left x) right

abbrev cast_of : CastOp → Operand Reg → Ty → Expr0
cast_of op o to = expr.Cast (record { op = op; operand = o; to = to })

cast_made : (op : CastOp) (o : Operand Reg) (to : Ty) (c : Cast Reg) → c.op ≡ op → o ≡ c.operand → to ≡ c.to → cast_of op o to ≡ expr.Cast c
cast_made op o to c p q r = ap (λ x. cast_of x o to) (sym p) ∙ ap (λ x. cast_of c.op x to) q ∙ ap (λ x. cast_of c.op c.operand x) r

abbrev select_of : Operand Reg → Operand Reg → Operand Reg → Expr0
select_of c l r = expr.Select (record { condition = c; left = l; right = r })

select_is : (c l r : Operand Reg) (s : Select Reg) → c ≡ s.condition → l ≡ s.left → r ≡ s.right → select_of c l r ≡ expr.Select s
select_is c l r s p q e = ap (λ x. select_of x l r) p ∙ ap (λ x. select_of s.condition x r) q ∙ ap (λ x. select_of s.condition s.left x) e

abbrev element_at : Bool → Ty → Operand Reg → List (Operand Reg) → Ty → Expr0
element_at set of base indices to = expr.Element (record { inbounds = set; of = of; base = base; indices = indices; to = to })

abbrev led : Bool → Ty → Operand Reg → List (Operand Reg) → Expr0
led set of base indices = element_at set of base indices (pointed base.ty of indices)

element_is :
    (set : Bool) (of : Ty) (base : Operand Reg) (indices : List (Operand Reg)) (e : Element Reg) → e.inbounds ≡ set → of ≡ e.of → base ≡ e.base → indices ≡ e.indices
    → e.to ≡ pointed e.base.ty e.of e.indices → led set of base indices ≡ expr.Element e
element_is set of base indices e p q r s to =
    ap (λ x. led x of base indices) (sym p) ∙ ap (λ x. led e.inbounds x base indices) q ∙ ap (λ x. led e.inbounds e.of x indices) r
    ∙ ap (λ x. led e.inbounds e.of e.base x) s ∙ ap (λ x. element_at e.inbounds e.of e.base e.indices x) (sym to)

abbrev load_at : Ty → Operand Reg → Option ℕ → Expr0
load_at of p align = expr.Load (record { of = of; pointer = p; align = align })

load_is : (of : Ty) (p : Operand Reg) (align : Option ℕ) (l : Load Reg) → of ≡ l.of → p ≡ l.pointer → align ≡ l.align → load_at of p align ≡ expr.Load l
load_is of p align l e f g = ap (λ x. load_at x p align) e ∙ ap (λ x. load_at l.of x align) f ∙ ap (λ x. load_at l.of l.pointer x) g

-- the alignment that is written
align_kept : (t : Ty) (w : Option (Placed Number)) (stated : Option ℕ) → IsAlign w stated → (n : ℕ) → stated ≡ Some n → Some (align_at t w) ≡ stated
align_kept t w stated is n some =
    let at : built.align_of w ≡ Some n = sym (align_is w stated is) ∙ some in
    ap (λ o. Some (unwrap_or o (own_align t))) at ∙ sym some

align_ranged : (w : Option (Placed Number)) (stated : Option ℕ) → IsAlign w stated → align_faults w ≡ []
align_ranged w stated is = (align_ties w).back (subst (IsAlign w) (align_is w stated is) is)

-- ---- expressions

abbrev NamesExpr : Expr0 → ExprText → Type 0
NamesExpr e w = (expression_of w ≡ e) × (range_faults w ≡ []) × ExpressionFits 0 depth_limit w

abbrev PrintsExpr : Expr0 → Type 0
PrintsExpr e = Prints Logic Stops lines.expression (NamesExpr e) (printed_expr printed_register e)

module _ (m : Module) (names : HasNames m) where
  plain : (o : Operand Reg) → IsWritableOperand m o → PrintsExpr (expr.Plain o)
  plain o fits =
      read_as Logic lines.expression (NamesExpr (expr.Plain o)) written.Plain (λ w named. refl)
      (λ w named. (ap expr.Plain (operand_is w o named), operand_ranged w o named, operand_fits w o named)) (operand m names o fits)

  binary : (b : Binary Reg) → may_have b.op b.flags ≡ true → AllByRecursion (IsWritableOperand m) (operands_in (expr.Binary b)) → PrintsExpr (expr.Binary b)
  binary b may fits =
      read_as Logic lines.expression (NamesExpr (expr.Binary b))
      (λ t. written.Operation (form.Binary (record { operator = t.0; left = t.1.0; right = t.1.1 }))) (λ t named. refl)
      (λ t named.
      let left = at_type t.1.0.ty b.ty b.left t.1.0.value named.1.0.0 named.1.0.1 in
      let right = at_type t.1.0.ty b.ty b.right t.1.1 named.1.0.0 named.1.1 in (
        binary_is (operator_op t.0) (flags_of t.0) (type_of t.1.0.ty) (value_at (type_of t.1.0.ty) t.1.0.value) (value_at (type_of t.1.0.ty) t.1.1) b
            named.0.0 named.0.1 named.1.0.0.0 left.0 right.0,
        none (operand_faults t.1.0) (value_faults (type_of t.1.0.ty) t.1.1) (operand_ranged t.1.0 _ named.1.0) right.1,
        (operand_fits t.1.0 _ named.1.0, named.1.1.2),
      ))
      (of_text Logic ((printed_op b.op ++ printed_flags b.flags) ++ printed_operands printed_register b.ty b.left b.right) (printed_expr printed_register (expr.Binary b))
      (append_assoc (printed_op b.op) (printed_flags b.flags) (printed_operands printed_register b.ty b.left b.right))
      (both Logic (operator b.op b.flags may) (pair m names b.ty b.left b.right fits.0 fits.1.0) (λ rest end. tt)))

  compare : (c : Icmp Reg) → AllByRecursion (IsWritableOperand m) (operands_in (expr.Icmp c)) → PrintsExpr (expr.Icmp c)
  compare c fits =
      read_as Logic lines.expression (NamesExpr (expr.Icmp c))
      (λ t. written.Operation (form.Compare (record { pred = c.pred; left = t.0; right = t.1 }))) (λ t named. refl)
      (λ t named.
      let left = at_type t.0.ty c.ty c.left t.0.value named.0.0 named.0.1 in
      let right = at_type t.0.ty c.ty c.right t.1 named.0.0 named.1 in (
        compare_is (type_of t.0.ty) (value_at (type_of t.0.ty) t.0.value) (value_at (type_of t.0.ty) t.1) c named.0.0.0 left.0 right.0,
        none (operand_faults t.0) (value_faults (type_of t.0.ty) t.1) (operand_ranged t.0 _ named.0) right.1,
        (operand_fits t.0 _ named.0, named.1.2),
      ))
      (before Logic (key Logic key.Icmp tt)
      (before Logic (word_and_space Logic (words.pred_word c.pred) (symbols.Pred c.pred) (pred_is c.pred) (at_any Logic (words.pred_word c.pred) _ (pred_said Logic c.pred)))
      (pair m names c.ty c.left c.right fits.0 fits.1.0)))

  cast : (c : Cast Reg) → IsWritableType m c.to → IsWritableOperand m c.operand → PrintsExpr (expr.Cast c)
  cast c to fits =
      read_as Logic lines.expression (NamesExpr (expr.Cast c))
      (λ t. written.Operation (form.Cast (record { word = t.0; from = t.1.0; to = t.1.1 }))) (λ t named. refl)
      (λ t named. (
        cast_made (naming.cast_op t.0) (operand_of t.1.0) (type_of t.1.1) c named.0 (operand_is t.1.0 c.operand named.1.0) named.1.1.0,
        none (operand_faults t.1.0) (count_faults t.1.1) (operand_ranged t.1.0 c.operand named.1.0) named.1.1.1,
        (operand_fits t.1.0 c.operand named.1.0, named.1.1.2),
      ))
      (both Logic (cast_word c.op)
      (both Logic (operand m names c.operand fits) (before Logic (before Logic (space Logic) (key Logic key.To tt)) (type m names c.to to)) (λ rest end. refl))
      (λ rest end. tt))

  select : (s : Select Reg) → AllByRecursion (IsWritableOperand m) (operands_in (expr.Select s)) → PrintsExpr (expr.Select s)
  select s fits =
      read_as Logic lines.expression (NamesExpr (expr.Select s))
      (λ t. written.Operation (form.Select (record { condition = t.0; then = t.1.0; other = t.1.1 }))) (λ t named. refl)
      (λ t named. (
        select_is (operand_of t.0) (operand_of t.1.0) (operand_of t.1.1) s (operand_is t.0 s.condition named.0) (operand_is t.1.0 s.left named.1.0)
            (operand_is t.1.1 s.right named.1.1),
        none (operand_faults t.0) (operand_faults t.1.0 ++ operand_faults t.1.1) (operand_ranged t.0 s.condition named.0)
            (none (operand_faults t.1.0) (operand_faults t.1.1) (operand_ranged t.1.0 s.left named.1.0) (operand_ranged t.1.1 s.right named.1.1)),
        (operand_fits t.0 s.condition named.0, operand_fits t.1.0 s.left named.1.0, operand_fits t.1.1 s.right named.1.1),
      ))
      (before Logic (key Logic key.Select tt)
      (both Logic (operand m names s.condition fits.0)
      (before Logic (comma Logic)
      (both Logic (operand m names s.left fits.1.0) (before Logic (comma Logic) (operand m names s.right fits.1.1.0)) (λ rest end. refl)))
      (λ rest end. refl)))

  element : (e : Element Reg) → IsWritableType m e.of → e.to ≡ pointed e.base.ty e.of e.indices → AllByRecursion (IsWritableOperand m) (operands_in (expr.Element e))
      → PrintsExpr (expr.Element e)
  element e of to fits =
      read_as Logic lines.expression (NamesExpr (expr.Element e))
      (λ t. written.Element (record { at = t.0; inbounds = t.1.0; of = t.1.1.0; base = t.1.1.1.0; indices = t.1.1.1.1 }))
      (λ t named. ap (λ l. symbols.Element t.0 ∷ (constants.inbounds t.1.0 ++ (types.ty t.1.1.0 ++ (symbols.comma ∷ (constants.operand t.1.1.1.0 ++ l))))) (further_is constants.operand t.1.1.1.1))
      (λ t named.
      let base = named.1.1.1.0 in
      let indices = named.1.1.1.1 in (
        element_is t.1.0 (type_of t.1.1.0) (operand_of t.1.1.1.0) (map operand_of t.1.1.1.1) e named.1.0 named.1.1.0.0
            (operand_is t.1.1.1.0 e.base base) (operands_are t.1.1.1.1 e.indices indices) to,
        none (count_faults t.1.1.0) (operand_faults t.1.1.1.0 ++ flat_map operand_faults t.1.1.1.1) named.1.1.0.1
            (none (operand_faults t.1.1.1.0) (flat_map operand_faults t.1.1.1.1) (operand_ranged t.1.1.1.0 e.base base)
            (operands_ranged t.1.1.1.1 e.indices indices)),
        (named.1.1.0.2, operand_fits t.1.1.1.0 e.base base, operands_fit t.1.1.1.1 e.indices indices),
      ))
      (both Logic (marks.element Logic)
      (both Logic (inbounds e.inbounds)
      (both Logic (type m names e.of of)
      (before Logic (comma Logic)
      (both Logic (operand m names e.base fits.0)
      (further_flat Logic (IsWritableOperand m) constants.operand NamesOperand (printed_operand printed_register) (operand m names) e.indices fits.1)
      (flat_stops Logic (printed_operand printed_register) e.indices)))
      (λ rest end. refl)) (λ rest end. tt)) (λ rest end. tt))

  load : (l : Load Reg) → IsAlignInRange l.align → IsWritableType m l.of → (n : ℕ) → l.align ≡ Some n → IsWritableOperand m l.pointer → PrintsExpr (expr.Load l)
  load l range of n some fits =
      read_as Logic lines.expression (NamesExpr (expr.Load l))
      (λ t. written.Load (record { ty = t.0; address = t.1.0; align = t.1.1 })) (λ t named. refl)
      (λ t named. (
        load_is (type_of t.0) (operand_of t.1.0) (Some (align_at (type_of t.0) t.1.1)) l named.0.0 (operand_is t.1.0 l.pointer named.1.0)
            (align_kept (type_of t.0) t.1.1 l.align named.1.1 n some),
        none (count_faults t.0) (operand_faults t.1.0 ++ align_faults t.1.1) named.0.1
            (none (operand_faults t.1.0) (align_faults t.1.1) (operand_ranged t.1.0 l.pointer named.1.0) (align_ranged t.1.1 l.align named.1.1)),
        (named.0.2, operand_fits t.1.0 l.pointer named.1.0),
      ))
      (before Logic (key Logic key.Load tt)
      (both Logic (type m names l.of of)
      (before Logic (comma Logic) (both Logic (operand m names l.pointer fits) (align Logic l.align range) (align_stops l.align)))
      (λ rest end. refl)))

prints : (e : Expr0) → (w : IsWritableExpression e) → PrintsExpr e
prints (expr.Plain o) w = plain w.around (record { types = w.types; globals = w.globals }) o w.operands.0
prints (expr.Binary b) w = binary w.around (record { types = w.types; globals = w.globals }) b w.right w.operands
prints (expr.Icmp c) w = compare w.around (record { types = w.types; globals = w.globals }) c w.operands
prints (expr.Cast c) w = cast w.around (record { types = w.types; globals = w.globals }) c w.beside w.operands.0
prints (expr.Select s) w = select w.around (record { types = w.types; globals = w.globals }) s w.operands
prints (expr.Element e) w = element w.around (record { types = w.types; globals = w.globals }) e w.beside.0 w.beside.1 w.operands
prints (expr.Load l) w = load w.around (record { types = w.types; globals = w.globals }) l w.right w.beside.0 w.beside.1.0 w.beside.1.1 w.operands.0

-- ---- what is read

calm : (w : ExprText) → AreCalm (lines.expression w)
calm (written.Plain o) = calm_operand o
calm (written.Operation o) = calm_instruction (instruction.Operation o) tt
calm (written.Element e) = calm_instruction (instruction.Element e) tt
calm (written.Load l) = calm_instruction (instruction.Load l) tt

none_passes : (b : ℕ) (ns : List ℕ) → AllByRecursion (λ (n : ℕ). n ≤ b) ns → (k : ℕ) → b < get_or ns k 0 → ⊥
none_passes b [] all k passes = omega (arith, passes)
none_passes b (n ∷ ns) all zero passes = let here = all.0 in omega (arith, here, passes)
none_passes b (n ∷ ns) all (suc k) passes = none_passes b ns all.1 k passes

pub are_within : (f : Forest) → AreUpTo depth_limit (depths 0 f) → AllByRecursion (λ (n : ℕ). n ≤ line_limit) (lines_at 0 f) → IsWithin f
are_within f deep few k limit.Depth passes = none_passes depth_limit (depths 0 f) deep k passes
are_within f deep few k limit.Lines passes = none_passes line_limit (lines_at 0 f) few k passes
are_within f deep few k l passes = absurd passes

-- an operation alone counts as a line
light : (w : ExprText) → expression_weight w ≤ 1
light (written.Plain o) = omega arith
light (written.Operation o) = omega arith
light (written.Element e) = omega arith
light (written.Load l) = omega arith

-- a tree that fits the limit on depths is read of its own symbols
read_of : (bytes : List ℕ) (tokens : List PlacedToken) (w : ExprText) → logic_symbols bytes tokens ≡ lines.expression w → ExpressionFits 0 depth_limit w → AreOfExpression bytes tokens w
read_of bytes tokens w are fits =
    let ss : List Symbol = logic_symbols bytes tokens in
    let filled : IsWritten Expr w ss = subst (IsWritten Expr w) (sym are) (calm_fills (lines.expression w) (calm w)) in
    let small : 74 < 92 = ltb-true 74 92 refl in
    let g : GrownOf 74 w ss = grown meaning lawful with_gap is_gapped 74 small w (expression_text w) ss filled in
    let counted : lines_in g.forest ≡ expression_weight w = one_counted g.forest 74 w g.forms (bears LineClaim line_claim 74 small w ss g) in
    record {
      written = filled;
      derivation = g.forest;
      formed = g.forms;
      yields = g.yields;
      within = are_within g.forest (one_deep g.forest 74 w g.forms (bears DeepClaim deep_claim 74 small w ss g) 0 depth_limit (omega arith) fits)
          (few_inside 0 line_limit g.forest (Non 74 ∷ []) refl g.forms (omega (arith, counted, light w)));
    }

pub printed_expressions_are_read : PrintedExpressionsAreRead
printed_expressions_are_read e writable =
    let p = prints e writable in
    let bytes = printed_expr printed_register e in
    let (tokens, is_cut, at) = symbols_from Logic bytes p.tokens (whole Stops bytes p.tokens refl p.reads) in
    let w = p.is (logic_symbols bytes tokens) at in
    record {
      tokens = tokens;
      cut = is_cut;
      tree = w.tree;
      read = read_of bytes tokens w.tree w.are w.names.2;
      ranges = w.names.1;
      same = sym w.names.0;
    }

pub printed_expressions_are_apart : PrintedExpressionsAreApart
printed_expressions_are_apart a b a_writable b_writable same =
    spell_one expressions_once (printed_expr printed_register b) a b
    (subst (λ bytes. SpellsExpression bytes a) same (printed_expressions_are_read a a_writable))
    (printed_expressions_are_read b b_writable)
