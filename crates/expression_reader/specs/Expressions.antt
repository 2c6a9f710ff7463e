-- What a text of one expression of the logic spells (LangRef 3.7, Instruction Reference; Crellvm), and what is first at fault in it: its length,
-- then its tokens, then the grammar and the limit on depths, then numbers, counts and alignments that are out of range. No module stands around
-- it: names in it stand as they are.
use Rattle.std.specs.Prelude.{◌≡◌, ◌<◌, ℕ, ◌-◌, true, false, List, [], length, map, Ok, Some, slice_get}
use Rattle.module_walk.specs.LogicExpressions.{expression_of}
use Rattle.expression_reader.specs.Ranges.{range_faults}
use Rattle.ir_core.specs.declared.limits.Limit.TheVariants as limit
use Rattle.ir_core.specs.Expressions.{Expr0}
use Rattle.ir_core.specs.Limits.{text_limit}
use Rattle.ir_lexer.specs.Cut.{Placed as PlacedToken, cut}
use Rattle.ir_lexer.specs.declared.token.LexFault.TheVariants as lexer
use Rattle.module_grammar.specs.Sorts.{Expr}
use Rattle.module_grammar.specs.Spelled.{symbol}
use Rattle.module_grammar.specs.Symbols.{Symbol, kind_of}
use Rattle.module_grammar.specs.declared.lines.ExprText.{ExprText}
use Rattle.module_grammar.specs.declared.words.Language.TheVariants.{Logic}
use Rattle.module_spelling.specs.Faults.{IsFirstOf, IsStuck, PassesLimit}
use Rattle.module_texts.specs.Texts.{HasLexFault, is_left_out_at, place_at}
use Rattle.ir_lexer.specs.LeftOut.{is_left_out}
use Rattle.derivation_writer.specs.ReadMarks.Reading.{IsReadAs}
use Rattle.name_claims.specs.declared.claims.Fault.{Fault}
use Rattle.ir_lexer.specs.declared.fault.TextFault.{TextFault}
use Rattle.ir_lexer.specs.declared.fault.TextFault.TheVariants as fault
use Rattle.expression_reader.specs.Types.{OfTokens}

-- ---- what is spelled

-- the number of expressions in the grammar
abbrev pub expression_number : ℕ
expression_number = 74

-- the symbols that tokens of the text are in the logic's language, which has the words `old` and `ghost` besides
abbrev pub logic_symbols : List ℕ → List PlacedToken → List Symbol
logic_symbols bytes tokens = map (symbol Logic bytes) tokens

-- these tokens are written of this expression, within the limits
abbrev pub AreOfExpression : List ℕ → List PlacedToken → ExprText → Type 0
AreOfExpression bytes tokens tree = IsReadAs Expr expression_number (logic_symbols bytes tokens) tree

-- The text is cut into tokens, which are written of an expression in which nothing is out of range.
--
-- `sub nsw i32 %x, -1` spells `sub nsw` of i32, of the register `x` as it is now and the number 2^32 - 1, `%pair* ghost %p` the ghost register `p`,
-- whatever `%pair` is; `i32 4294967296` spells none.
pub record SpellsExpression (bytes : List ℕ) (e : Expr0) : Type 0 where
  pub tokens : List PlacedToken
  pub cut : cut 0 0 bytes ≡ Ok tokens
  pub tree : ExprText
  pub read : AreOfExpression bytes tokens tree
  pub ranges : range_faults tree ≡ []
  pub same : e ≡ expression_of tree

-- ---- what is at fault

abbrev pub logic_kinds : List ℕ → List PlacedToken → List ℕ
logic_kinds bytes tokens = map kind_of (logic_symbols bytes tokens)

-- a token passes the limit on depths, and up to it all is expected
abbrev pub PassesDepth : List ℕ → Type 0
PassesDepth bytes = OfTokens bytes (λ tokens. (k : ℕ) × PassesLimit expression_number (logic_kinds bytes tokens) k limit.Depth)

-- the token of this index is the first that isn't expected, and none before it is too deep
abbrev pub IsStuckAt : List ℕ → List PlacedToken → ℕ → Type 0
IsStuckAt bytes tokens k = IsStuck expression_number (logic_kinds bytes tokens) k

-- in the expression that is written this is the first that is out of range
abbrev pub IsRangeFault : List ℕ → Fault → Type 0
IsRangeFault bytes f = OfTokens bytes (λ tokens. (tree : ExprText) × AreOfExpression bytes tokens tree × IsFirstOf (range_faults tree) f)

-- The first fault of a text of one expression. Want of memory says nothing of it.
--
-- Of `add i8 300, old 5` it is `Expected` at 16, as the grammar comes before ranges; of `add i8 300, -129` it is `WrongType` at 7.
abbrev pub IsExpressionFault : List ℕ → TextFault → Type 0
IsExpressionFault bytes (fault.Limit limit.Text) = text_limit < length bytes
IsExpressionFault bytes (fault.Limit limit.Depth) = PassesDepth bytes
IsExpressionFault bytes (fault.Limit _) = ⊥
IsExpressionFault bytes (fault.BadByte place) = HasLexFault bytes (lexer.BadByte place)
IsExpressionFault bytes (fault.BadString place) = HasLexFault bytes (lexer.BadString place)
IsExpressionFault bytes (fault.BadNumber place) = HasLexFault bytes (lexer.BadNumber place)
IsExpressionFault bytes (fault.Expected place) =
    OfTokens bytes (λ tokens.
    (k : ℕ) × IsStuckAt bytes tokens k × (is_left_out_at tokens k ≡ false) × (place ≡ place_at (length bytes) tokens k))
IsExpressionFault bytes (fault.LeftOut place size) =
    OfTokens bytes (λ tokens.
    (k : ℕ) × (t : PlacedToken) × IsStuckAt bytes tokens k × (slice_get tokens k ≡ Some t) × (is_left_out t.kind ≡ true) × (place ≡ t.start)
    × (size ≡ t.end - t.start))
IsExpressionFault bytes (fault.WrongType place) = (f : Fault) × IsRangeFault bytes f × (place ≡ f.start)
IsExpressionFault bytes fault.Memory = Unit {0}
IsExpressionFault bytes _ = ⊥
