use Rattle.std.proofs.Common.{◌≡◌, drop}
use Rattle.std.specs.List.{flat_map}
use Rattle.ir_core.specs.Functions.{block_names}
use Rattle.ir_shape.specs.ShapeTests.Kinds.{are_new, with_names}
use Rattle.whole_shapes.proofs.sight.put_blocks.Given as goal

abbrev pub invariant-loop-block : goal.invariant-loop-block
invariant-loop-block l =
    (are_new l.sight.names (flat_map block_names (drop l.block-index l.blocks)) ≡ are_new l.initial.sight.names (flat_map block_names l.blocks))
    × (with_names l.sight.names (flat_map block_names (drop l.block-index l.blocks)) ≡ with_names l.initial.sight.names (flat_map block_names l.blocks))
