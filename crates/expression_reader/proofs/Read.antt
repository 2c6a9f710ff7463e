-- What a reader of tokens answers, of the text.
use Rattle.std.proofs.Common.{◌≡◌, ◌∙◌, ℕ, List, length, map, Result, Ok, Err, ap, sym, subst}
use Rattle.module_derivations.specs.FlatMarks.Flat.{mark_of}
use Rattle.ir_lexer.specs.Cut.{Placed}
use Rattle.ir_lexer.specs.declared.token.Token.{Token}
use Rattle.module_derivations.specs.Ahead.{ahead}
use Rattle.module_derivations.specs.Empty.{made}
use Rattle.module_grammar.specs.Sorts.{Expr}
use Rattle.module_grammar.specs.Spelled.{kind_in, placed_in, symbol_in}
use Rattle.module_grammar.specs.Symbols.{Symbol, kind_of}
use Rattle.module_grammar.specs.declared.lines.ExprText.{ExprText}
use Rattle.module_grammar.specs.declared.words.Language.TheVariants.{Logic}
use Rattle.module_spelling.specs.Context.{AreKinds, all_seen}
use Rattle.module_texts.specs.Texts.{HasTokens}
use Rattle.derivation_writer.specs.ReadMarks.Reading.{IsMarked, IsReading, read_off}
use Rattle.derivation_writer.specs.declared.read_marks.unread.Unread.{Unread}
use Rattle.derivation_writer.specs.declared.read_marks.unread.Unread.TheVariants as unread
use Rattle.module_grammar.proofs.TextTokens.{symbols_in}
use Rattle.expression_reader.proofs.TypeOwn.{kinds_are, own_kinds, own_seen}
use Rattle.expression_reader.proofs.Told.{limit_told, stuck_told}
use Rattle.expression_reader.specs.Told.{IsTreeOf}
use Rattle.expression_reader.specs.ToldTypes.{of_unread}
use Rattle.expression_reader.specs.Expressions.{IsExpressionFault, expression_number, logic_symbols}

-- the answer for the tokens by their kinds, where these are held and lent
module _ (bytes : List ℕ) (small : List Token) (held lent : List ℕ) (same : lent ≡ held) (are : held ≡ map (kind_in Logic bytes) small) where
  abbrev pub tokens : List Placed
  tokens = map (placed_in bytes) small

  abbrev pub own : List Symbol
  own = map (symbol_in Logic bytes) small

  kinds : lent ≡ map kind_of own
  kinds = same ∙ are ∙ kinds_are Logic bytes small

  pub lent_kinds : AreKinds own lent
  lent_kinds = subst (AreKinds own) (sym kinds) (own_kinds own)

  seen : all_seen own lent ≡ logic_symbols bytes tokens
  seen = ap (all_seen own) kinds ∙ own_seen own ∙ symbols_in Logic bytes small

  module _ (has : HasTokens bytes tokens) (marks : Result (List ℕ) Unread) (marked : IsMarked Expr expression_number lent marks) where
    abbrev read : Result ExprText Unread
    read = read_off Expr own marks

    reading_of : (answer : Result ExprText Unread) → read ≡ answer → IsReading Expr expression_number (logic_symbols bytes tokens) answer
    reading_of answer is =
        subst (λ symbols. IsReading Expr expression_number symbols answer) seen (subst (IsReading Expr expression_number (all_seen own lent)) is (marked own lent_kinds))

    pub marks_by : (numbers : List ℕ) → marks ≡ Ok numbers → IsTreeOf bytes ((made (ahead own (map mark_of numbers))).expr)
    marks_by numbers is = (tokens, has, reading_of (Ok ((made (ahead own (map mark_of numbers))).expr)) (ap (read_off Expr own) is))

    told : (why : Unread) → IsReading Expr expression_number (logic_symbols bytes tokens) (Err why) → IsExpressionFault bytes (of_unread tokens (length bytes) why)
    told (unread.Stuck k) stuck = stuck_told bytes tokens has k stuck
    told (unread.Limit l) passes = limit_told bytes tokens has l passes

    pub fault_by : (why : Unread) → marks ≡ Err why → IsExpressionFault bytes (of_unread tokens (length bytes) why)
    fault_by why is = told why (reading_of (Err why) (ap (read_off Expr own) is))
