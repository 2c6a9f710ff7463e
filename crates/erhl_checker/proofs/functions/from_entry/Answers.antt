use Rattle.std.proofs.Common.{rules}
use Rattle.line_align.specs.Lent.{lent_block}
use Rattle.erhl_checker.proofs.CheckedPair.Progressing.{answers_so}
use Rattle.erhl_checker.specs.CheckedPair.Asked.{asked}
use Rattle.erhl_checker.proofs.Reaching.{entry_passed}
use Rattle.erhl_checker.proofs.functions.from_entry.Goals as goal

pub returns-in_ok-marks-in-None : goal.returns-in_ok-marks-in-None
returns-in_ok-marks-in-None g c =
    answers_so (entry_passed (asked _ _ c.args.pair.now) (lent_block c.args.entry.now) _ _ (search rules) (search rules)) c.blocks_answer.result c.blocks_answer.ensures
