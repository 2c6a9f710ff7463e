use Rattle.std.proofs.Common.{rules}
use Rattle.line_align.specs.Lent.{lent_block}
use Rattle.erhl_checker.specs.CheckedPair.Asked.{asked}
use Rattle.erhl_checker.proofs.CheckedPair.Progressing.{answers_so, begun}
use Rattle.erhl_checker.proofs.block_checker.blocks.from_start.Goals as goal

pub returns-in-Some : goal.returns-in-Some
returns-in-Some g c =
    answers_so (begun (asked _ _ c.args.pair.now) (lent_block c.args.block.now) c.args.hint.now.entry c.in-Some.entry (search rules) (search rules)) c.along.result c.along.ensures
