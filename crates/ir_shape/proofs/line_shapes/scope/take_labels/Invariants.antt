use Rattle.std.proofs.Common.{◌≡◌, ◌&&◌, drop, map}
use Rattle.ir_core.specs.declared.functions.Block.{Block}
use Rattle.ir_typing.specs.ShapeKinds.Names.{are_new, with_names}
use Rattle.ir_shape.proofs.line_shapes.scope.take_labels.Given as goal

abbrev pub invariant-loop-block : goal.invariant-loop-block
invariant-loop-block l =
    (with_names l.labels (map (λ (b : Block). b.name) (drop l.block-index l.blocks)) ≡ with_names l.initial.labels (map (λ (b : Block). b.name) l.blocks))
    × ((l.new && are_new l.labels (map (λ (b : Block). b.name) (drop l.block-index l.blocks))) ≡ are_new l.initial.labels (map (λ (b : Block). b.name) l.blocks))
