use Rattle.ir_shape.proofs.LineShapes.Untold.{more_labels}
use Rattle.ir_shape.proofs.line_shapes.scope.take_labels.Goals as goal

pub loop-block-preserved : goal.loop-block-preserved
loop-block-preserved c =
    more_labels c.loop-block.labels c.take.new.self c.args.blocks.now c.loop-block.block-index c.block-item.result c.loop-block.new c.in_ok-taken.taken c.both-new.result _ _
    c.loop-block-test.true c.block-item.is c.in_ok-taken.ensures.taken c.in_ok-taken.ensures.names c.both-new.ensures c.loop-block.invariant
