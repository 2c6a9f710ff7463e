use Rattle.named_modules.specs.Faults.{things_in}
use Rattle.fault_walk.specs.Names.{thing_by}
use Rattle.fault_walk.proofs.Kept.{one_more}
use Rattle.fault_walk.proofs.names.Names.put_blocks.Goals as goal

pub loop-block-preserved : goal.loop-block-preserved
loop-block-preserved c =
    one_more (things_in c.args.sight.now.types) (thing_by c.loop-block.self) (thing_by c.put_block.new.self) _ c.args.blocks.now c.loop-block.block-index c.block-item.result c.loop-block-test.true c.block-item.is
    c.in_ok-put_block.ensures c.loop-block.invariant
