use Rattle.std.proofs.Common.{refl}
use Rattle.std.specs.List.{flat_map}
use Rattle.ir_typing.specs.ShapeKinds.Kept.{type_in}
use Rattle.ir_shape.specs.LineShapes.Assumed.{told_in_by}
use Rattle.ir_shape.proofs.LineShapes.Untold.{more_untold}
use Rattle.ir_shape.proofs.line_shapes.types.put_blocks.Goals as goal

pub loop-block-preserved : goal.loop-block-preserved
loop-block-preserved c =
    more_untold (told_in_by c.args.assumed c.args.beside.now.types) (flat_map (told_in_by c.args.assumed c.args.beside.now.types)) (λ x xs. refl) (type_in c.loop-block.types) (type_in c.put_block.new.types) c.args.blocks.now
    c.loop-block.block-index c.block-item.result c.loop-block.new c.in_ok-first.first c.both-new.result _ _ c.loop-block-test.true c.block-item.is c.in_ok-first.ensures.new c.in_ok-first.ensures.types c.both-new.ensures c.loop-block.invariant
