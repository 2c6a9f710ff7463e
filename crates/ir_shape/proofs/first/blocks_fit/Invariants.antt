use Rattle.std.proofs.Common.{◌≡◌, [], drop}
use Rattle.ir_typing.specs.ShapeKinds.Kept.{type_in}
use Rattle.ir_shape.specs.Shape.{in_blocks}
use Rattle.ir_shape.proofs.first.blocks_fit.Given as goal

-- the blocks that are left decide
abbrev pub invariant-loop-block : goal.invariant-loop-block
invariant-loop-block l =
    in_blocks l.scope.beside.now l.function l.scope.labels (type_in l.scope.types) l.entry l.earlier l.names (drop l.block-index l.blocks)
    ≡ in_blocks l.scope.beside.now l.function l.scope.labels (type_in l.scope.types) l.entry [] l.initial.names l.blocks
