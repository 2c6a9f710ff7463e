use Rattle.std.proofs.Common.{◌≡◌, ◌&&◌, drop}
use Rattle.std.specs.List.{flat_map}
use Rattle.ir_shape.specs.LineShapes.Assumed.{told_in_by}
use Rattle.ir_typing.specs.ShapeKinds.Kept.{type_in}
use Rattle.ir_typing.specs.ShapeKinds.Typed.{with_types}
use Rattle.ir_shape.specs.LineShapes.Untold.{are_untold}
use Rattle.ir_shape.proofs.line_shapes.types.put_blocks.Given as goal

abbrev pub invariant-loop-block : goal.invariant-loop-block
invariant-loop-block l =
    (with_types (type_in l.types) (flat_map (told_in_by l.assumed l.beside.types) (drop l.block-index l.blocks)) ≡ with_types (type_in l.initial.types) (flat_map (told_in_by l.assumed l.beside.types) l.blocks))
    × ((l.new && are_untold (type_in l.types) (flat_map (told_in_by l.assumed l.beside.types) (drop l.block-index l.blocks))) ≡ are_untold (type_in l.initial.types) (flat_map (told_in_by l.assumed l.beside.types) l.blocks))
