use Rattle.std.proofs.Common.{rules}
use Rattle.line_align.specs.Lent.{lent_block}
use Rattle.erhl_checker.specs.CheckedPair.Asked.{asked}
use Rattle.erhl_checker.proofs.CheckedPair.Progressing.{answers_so, end_passed}
use Rattle.erhl_checker.proofs.block_checker.blocks.at_terms.Goals as goal

pub returns-in-None : goal.returns-in-None
returns-in-None g c =
    answers_so (end_passed (asked _ _ c.args.pair.now) (lent_block c.args.block.now) c.args.k c.args.known.now _ c.requires.labels (search rules)) c.edges_answer.result c.edges_answer.ensures
