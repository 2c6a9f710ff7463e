use Rattle.std.proofs.Common.{rules}
use Rattle.erhl_checker.specs.CheckedPair.Asked.{asked}
use Rattle.erhl_checker.proofs.Reaching.{block_passes}
use Rattle.erhl_checker.proofs.functions.blocks_answer.Goals as goal

pub loop-block-preserved : goal.loop-block-preserved
loop-block-preserved g c =
    block_passes (asked _ _ c.args.pair.now) c.args.blocks.now c.loop-block.block-index c.loop-block.rest.now c.in-Some.after.now c.in-Some.mark.now _ c.loop-block.invariant
    c.block-item.result c.loop-block-test.true c.block-item.is (search rules) c.in_ok-answer_if_reached.field-0 c.in_ok-answer_if_reached.ensures c.in-Valid.is
