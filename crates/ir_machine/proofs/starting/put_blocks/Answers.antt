use Rattle.std.proofs.Common.{rules}
use Rattle.ir_machine.proofs.Starts.{block_next}
use Rattle.ir_machine.proofs.starting.put_blocks.Goals as goal

pub loop-block-preserved : goal.loop-block-preserved
loop-block-preserved c =
    block_next _ c.loop-block.blocks c.new_block.new.self _ c.args.given.now c.loop-block.block-index c.block-item.result c.in_ok-bytes.bytes.items c.loop-block-test.true
    c.block-item.is (search rules) (search rules) c.loop-block.invariant
