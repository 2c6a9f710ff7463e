use Rattle.std.proofs.Common.{◌≡◌, drop}
use Rattle.ir_typing.specs.ShapeKinds.Kept.{type_in}
use Rattle.ir_shape.specs.LineShapes.Untold.{have_own_names}
use Rattle.ir_shape.proofs.line_shapes.types.have_own_names.Given as goal

abbrev pub invariant-loop-block : goal.invariant-loop-block
invariant-loop-block l = have_own_names (type_in l.types) (drop l.block-index l.blocks) ≡ have_own_names (type_in l.types) l.blocks
