use Rattle.std.proofs.Common.{◌≡◌, drop}
use Rattle.ir_shape.specs.ShapeTests.Edges.{rows_of, with_blocks}
use Rattle.ir_shape.proofs.shape_tests.incoming.put_blocks.Given as goal

abbrev pub invariant-loop-block : goal.invariant-loop-block
invariant-loop-block l =
    with_blocks l.labels (rows_of l.into.items) (drop l.block-index l.blocks) ≡ with_blocks l.labels (rows_of l.initial.into.items) l.blocks
