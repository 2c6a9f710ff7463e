-- Each turn reads one byte of the string.
use Rattle.std.proofs.Common.{◌∙◌}
use Rattle.ir_lexer.proofs.Escapes.{ended, stepped}
use Rattle.ir_lexer.proofs.strings.unescaped.Goals as goal

pub loop-first-preserved : goal.loop-first-preserved
loop-first-preserved c =
    stepped _ _ _ _ _ _ _ c.loop-first.invariant c.in-Some.ensures c.first_symbol-symbol.ensures.value c.in_ok-push.ensures.items

pub returns : goal.returns
returns c = c.from_vec.ensures ∙ ended _ _ _ c.loop-first.invariant c.in_default.ensures
