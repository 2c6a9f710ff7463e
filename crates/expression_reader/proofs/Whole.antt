-- A text spells one expression, and a text that spells one has no fault.
use Rattle.std.proofs.Common.{◌≡◌, ◌∙◌, ℕ, List, [], ◌∷◌, Result, Ok, Err, IfOk, refl, ap, sym, subst, arith}
use Rattle.std.specs.List.{Contains}
use Rattle.ir_core.specs.declared.limits.Limit.TheVariants as limit
use Rattle.ir_lexer.specs.Cut.{Placed}
use Rattle.ir_lexer.specs.declared.token.LexFault.{LexFault}
use Rattle.ir_lexer.specs.declared.token.LexFault.TheVariants as lexer
use Rattle.ir_core.specs.Expressions.{Expr0}
use Rattle.module_grammar.specs.Laws.{WritesOneTree}
use Rattle.module_grammar.specs.Sorts.{Expr}
use Rattle.module_grammar.specs.Tokens.{token_grammar}
use Rattle.module_grammar.specs.declared.lines.ExprText.{ExprText}
use Rattle.module_spelling.specs.Faults.{IsFirstOf, PassesLimit}
use Rattle.module_texts.specs.Texts.{HasLexFault, IsShort}
use Rattle.derivation_writer.proofs.ReadMarks.Limits.{not_limited}
use Rattle.derivation_writer.proofs.ReadMarks.Whole.{expression_starts}
use Rattle.name_claims.specs.declared.claims.Fault.{Fault}
use Rattle.module_walk.specs.LogicExpressions.{expression_of}
use Rattle.predictive.proofs.Faults.{none_in_text}
use Rattle.predictive.specs.declared.symbol.Symbol.TheVariants.{Non}
use Rattle.ir_lexer.specs.declared.fault.TextFault.{TextFault}
use Rattle.ir_lexer.specs.declared.fault.TextFault.TheVariants as fault
use Rattle.expression_reader.specs.Laws.{IsToldFault}
use Rattle.expression_reader.specs.Expressions.{AreOfExpression, IsExpressionFault, IsRangeFault, IsStuckAt, SpellsExpression, expression_number, logic_kinds, logic_symbols}
use Rattle.expression_reader.specs.Ranges.{range_faults}
use Rattle.expression_reader.specs.Types.{OfTokens}

none_there : {X : Type 0} (xs : List X) (x : X) → xs ≡ [] → Contains xs x → ⊥
none_there [] x e (k, less, at) = omega (arith, less)
none_there (y ∷ ys) x e has = cc

module _ (once : WritesOneTree Expr) (bytes : List ℕ) (e : Expr0) (s : SpellsExpression bytes e) where
  -- what is so of the tokens of the text is so of those that are spelled
  of_spelled : (P : List Placed → Type 0) → OfTokens bytes P → P s.tokens
  of_spelled P (tokens, has, is) =
      let both = sym has.1 ∙ s.cut in
      let same : tokens ≡ s.tokens = cc in
      subst P same is

  one_tree : (tree : ExprText) → AreOfExpression bytes s.tokens tree → s.tree ≡ tree
  one_tree tree read = once s.tree tree (logic_symbols bytes s.tokens) s.read.written read.written

  pub one_expression : (other : Expr0) → SpellsExpression bytes other → other ≡ e
  one_expression other o =
      let both = sym o.cut ∙ s.cut in
      let same : o.tokens ≡ s.tokens = cc in
      let one = one_tree o.tree (subst (λ tokens. AreOfExpression bytes tokens o.tree) same o.read) in
      o.same ∙ ap expression_of (sym one) ∙ sym s.same

  no_lexed : (f : LexFault) → HasLexFault bytes f → ⊥
  no_lexed f has = let both = sym has.1 ∙ s.cut in cc

  no_stuck : (k : ℕ) → OfTokens bytes (λ tokens. IsStuckAt bytes tokens k) → ⊥
  no_stuck k is =
      none_in_text token_grammar (Non expression_number ∷ []) (logic_kinds bytes s.tokens) k (s.read.derivation, s.read.formed, s.read.yields)
      (of_spelled (λ tokens. IsStuckAt bytes tokens k) is).0

  no_depth : OfTokens bytes (λ tokens. (k : ℕ) × PassesLimit expression_number (logic_kinds bytes tokens) k limit.Depth) → ⊥
  no_depth is =
      let passes = of_spelled (λ tokens. (k : ℕ) × PassesLimit expression_number (logic_kinds bytes tokens) k limit.Depth) is in
      not_limited expression_number expression_starts (logic_kinds bytes s.tokens) s.read.derivation s.read.formed s.read.yields s.read.within passes.0 limit.Depth passes.1

  no_range : (f : Fault) → IsRangeFault bytes f → ⊥
  no_range f is =
      let first = of_spelled (λ tokens. (tree : ExprText) × AreOfExpression bytes tokens tree × IsFirstOf (range_faults tree) f) is in
      none_there (range_faults first.0) f (ap range_faults (sym (one_tree first.0 first.1)) ∙ s.ranges) first.2.0

  no_fault : (f : TextFault) → IsShort bytes → IsExpressionFault bytes f → (f ≡ fault.Memory → ⊥) → ⊥
  no_fault (fault.Limit limit.Text) short is some = omega (arith, short, is)
  no_fault (fault.Limit limit.Depth) short is some = no_depth is
  no_fault (fault.Limit limit.Lines) short is some = is
  no_fault (fault.Limit limit.Block) short is some = is
  no_fault (fault.Limit limit.Json) short is some = is
  no_fault (fault.Limit limit.Facts) short is some = is
  no_fault (fault.BadByte place) short is some = no_lexed (lexer.BadByte place) is
  no_fault (fault.BadString place) short is some = no_lexed (lexer.BadString place) is
  no_fault (fault.BadNumber place) short is some = no_lexed (lexer.BadNumber place) is
  no_fault (fault.Expected place) short (tokens, has, is) some = no_stuck is.0 (tokens, has, is.1)
  no_fault (fault.LeftOut place size) short (tokens, has, is) some = no_stuck is.0 (tokens, has, is.2)
  no_fault (fault.Unknown place size) short is some = is
  no_fault (fault.Twice place size) short is some = is
  no_fault (fault.WrongNumber place expected) short is some = is
  no_fault (fault.WrongType place) short is some = no_range is.0 is.1
  no_fault fault.Memory short is some = some refl

pub spell_one : WritesOneTree Expr → (bytes : List ℕ) (a b : Expr0) → SpellsExpression bytes a → SpellsExpression bytes b → a ≡ b
spell_one once bytes a b s t = one_expression once bytes b t a s

pub exclude : WritesOneTree Expr → (bytes : List ℕ) (f : TextFault) (e : Expr0) → IsShort bytes → IsToldFault bytes f → SpellsExpression bytes e → ⊥
exclude once bytes f e short told s = no_fault once bytes e s f short told.0 told.1

pub only_by : {E : Type 0} (Is : Expr0 → Type 0) (answer : Result Expr0 E) → ((a b : Expr0) → Is a → Is b → a ≡ b) → IfOk answer Is
    → IfOk answer (λ e. (other : Expr0) → Is other → other ≡ e)
only_by Is (Ok e) once is = λ other at. once other e at is
only_by Is (Err f) once is = tt
