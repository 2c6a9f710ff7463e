-- A run is cut, and the text behind it goes on from its end.
use Rattle.std.proofs.Common.{sym, ◌∙◌}
use Rattle.ir_lexer.proofs.Classes.{run_found}
use Rattle.ir_lexer.proofs.pieces.outline_at.Goals as goal

pub returns-in-Run-clause-value : goal.returns-in-Run-clause-value
returns-in-Run-clause-value c =
    c.run_piece.ensures.value ∙ run_found _ _ _ _ c.in-Some.ensures (sym c.class_of.ensures ∙ c.in-Run.is) c.run_at-found.ensures.front
