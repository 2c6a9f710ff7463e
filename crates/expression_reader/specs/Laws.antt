-- The laws of what texts of one expression spell and of what is at fault in them.
use Rattle.std.specs.Prelude.{◌≡◌, ◌⊎◌, ℕ, List}
use Rattle.expression_reader.specs.Expressions.{IsExpressionFault, SpellsExpression}
use Rattle.ir_core.specs.Expressions.{Expr0}
use Rattle.module_texts.specs.Texts.{IsShort}
use Rattle.ir_lexer.specs.declared.fault.TextFault.{TextFault}
use Rattle.ir_lexer.specs.declared.fault.TextFault.TheVariants as fault

-- no text spells two expressions
abbrev pub ExpressionsAreOne : Type 0
ExpressionsAreOne = (bytes : List ℕ) (a b : Expr0) → SpellsExpression bytes a → SpellsExpression bytes b → a ≡ b

-- a fault of the text, and not want of memory
abbrev pub IsToldFault : List ℕ → TextFault → Type 0
IsToldFault bytes f = IsExpressionFault bytes f × (f ≡ fault.Memory → ⊥)

-- a short text that has a fault spells no expression
abbrev pub FaultsExclude : Type 0
FaultsExclude = (bytes : List ℕ) (f : TextFault) (e : Expr0) → IsShort bytes → IsToldFault bytes f → SpellsExpression bytes e → ⊥

-- two faults that are told of a text are one: of one kind, at one place and, where a word is left out, of one length
abbrev pub ExpressionFaultsAreOne : Type 0
ExpressionFaultsAreOne = (bytes : List ℕ) (f g : TextFault) → IsToldFault bytes f → IsToldFault bytes g → f ≡ g

-- each text is short and spells an expression, or something is first at fault in it that isn't want of memory
abbrev pub EachExpressionIsJudged : Type 0
EachExpressionIsJudged =
    (bytes : List ℕ) → ((e : Expr0) × IsShort bytes × SpellsExpression bytes e) ⊎ ((f : TextFault) × IsToldFault bytes f)
