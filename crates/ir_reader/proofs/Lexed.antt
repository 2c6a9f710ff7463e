-- What the lexer answers, and the symbols of its tokens.
use Rattle.std.proofs.Common.{◌≡◌, ℕ, true, false, Bool, cond, List, length, map, Ok, Err, refl, subst}
use Rattle.std.specs.Prelude.{nat_lt}
use Rattle.std.proofs.lemmas.Bool.{ltb-false, ltb-true}
use Rattle.ir_core.specs.declared.limits.Limit.TheVariants as limit
use Rattle.ir_core.specs.Limits.{text_limit}
use Rattle.ir_lexer.specs.Cut.{AreThoseOf, IsFaultOf, cut, lexed}
use Rattle.ir_lexer.specs.declared.token.LexFault.{LexFault}
use Rattle.ir_lexer.specs.declared.token.LexFault.TheVariants as lexer
use Rattle.ir_lexer.specs.declared.token.Token.{Token}
use Rattle.module_grammar.proofs.TextTokens.{are_placed, symbols_in}
use Rattle.module_grammar.specs.Spelled.{placed_in, symbol_in}
use Rattle.module_grammar.specs.declared.words.Language.TheVariants.{Ir}
use Rattle.ir_reader.specs.Told.{of_lexer}
use Rattle.ir_reader.proofs.Cut.{IsCutWell, cut_well}
use Rattle.module_texts.specs.Texts.{HasTokens, IsTextFault, own_symbols}

pub tokens_by : (text : List ℕ) (tokens : List Token) → AreThoseOf text tokens (lexed text) → HasTokens text (map (placed_in text) tokens)
tokens_by text tokens those = go (nat_lt text_limit (length text)) refl (are_placed text tokens (lexed text) those)
  where
    go : (long : Bool) → nat_lt text_limit (length text) ≡ long → cond long (Err (lexer.Limit limit.Text)) (cut 0 0 text) ≡ Ok (map (placed_in text) tokens) → HasTokens text (map (placed_in text) tokens)
    go true e is = cc
    go false e is = (ltb-false text_limit (length text) e, is)

pub fault_told : (text : List ℕ) (f : LexFault) → IsFaultOf f (lexed text) → IsTextFault text (of_lexer f)
fault_told text f is = go (nat_lt text_limit (length text)) refl f is
  where
    go : (long : Bool) → nat_lt text_limit (length text) ≡ long → (f : LexFault) → IsFaultOf f (cond long (Err (lexer.Limit limit.Text)) (cut 0 0 text)) → IsTextFault text (of_lexer f)
    go long e lexer.Memory is = tt
    go true e (lexer.BadByte place) is = cc
    go true e (lexer.BadString place) is = cc
    go true e (lexer.BadNumber place) is = cc
    go true e (lexer.Limit limit.Text) is = ltb-true text_limit (length text) e
    go true e (lexer.Limit limit.Lines) is = cc
    go true e (lexer.Limit limit.Json) is = cc
    go true e (lexer.Limit limit.Facts) is = cc
    go true e (lexer.Limit limit.Depth) is = cc
    go true e (lexer.Limit limit.Block) is = cc
    go false e (lexer.BadByte place) is = (ltb-false text_limit (length text) e, is)
    go false e (lexer.BadString place) is = (ltb-false text_limit (length text) e, is)
    go false e (lexer.BadNumber place) is = (ltb-false text_limit (length text) e, is)
    go false e (lexer.Limit l) is = absurd (subst IsCutWell is (cut_well 0 0 text))

-- the symbols that small tokens of a text are by themselves
pub own_are : (text : List ℕ) (tokens : List Token) → map (symbol_in Ir text) tokens ≡ own_symbols text (map (placed_in text) tokens)
own_are text tokens = symbols_in Ir text tokens
