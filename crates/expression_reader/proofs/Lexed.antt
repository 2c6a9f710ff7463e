-- What the lexer answers.
use Rattle.std.proofs.Common.{◌≡◌, ℕ, true, false, Bool, cond, List, length, Err, refl, subst}
use Rattle.std.specs.Prelude.{nat_lt}
use Rattle.std.proofs.lemmas.Bool.{ltb-false, ltb-true}
use Rattle.expression_reader.specs.Expressions.{IsExpressionFault}
use Rattle.ir_core.specs.declared.limits.Limit.TheVariants as limit
use Rattle.ir_core.specs.Limits.{text_limit}
use Rattle.ir_lexer.specs.Cut.{IsFaultOf, cut, lexed}
use Rattle.ir_lexer.specs.declared.token.LexFault.{LexFault}
use Rattle.ir_lexer.specs.declared.token.LexFault.TheVariants as lexer
use Rattle.expression_reader.proofs.TypeCut.{IsCutWell, cut_well}
use Rattle.expression_reader.specs.ToldTypes.{of_lexer}

pub fault_told : (text : List ℕ) (f : LexFault) → IsFaultOf f (lexed text) → IsExpressionFault text (of_lexer f)
fault_told text f is = go (nat_lt text_limit (length text)) refl f is
  where
    go : (long : Bool) → nat_lt text_limit (length text) ≡ long → (f : LexFault) → IsFaultOf f (cond long (Err (lexer.Limit limit.Text)) (cut 0 0 text)) → IsExpressionFault text (of_lexer f)
    go long e lexer.Memory is = tt
    go true e (lexer.BadByte place) is = cc
    go true e (lexer.BadString place) is = cc
    go true e (lexer.BadNumber place) is = cc
    go true e (lexer.Limit limit.Text) is = ltb-true text_limit (length text) e
    go true e (lexer.Limit limit.Lines) is = cc
    go true e (lexer.Limit limit.Json) is = cc
    go true e (lexer.Limit limit.Facts) is = cc
    go true e (lexer.Limit limit.Depth) is = cc
    go true e (lexer.Limit limit.Block) is = cc
    go false e (lexer.BadByte place) is = (ltb-false text_limit (length text) e, is)
    go false e (lexer.BadString place) is = (ltb-false text_limit (length text) e, is)
    go false e (lexer.BadNumber place) is = (ltb-false text_limit (length text) e, is)
    go false e (lexer.Limit l) is = absurd (subst IsCutWell is (cut_well 0 0 text))
