use Rattle.std.proofs.Common.{◌≡◌, ◌++◌, drop, map}
use Rattle.std.specs.List.{flat_map}
use Rattle.definedness.specs.Along.{left_in_block, use_of}
use Rattle.definedness.proofs.uses.crossing_uses.Given as goal

abbrev pub invariant-loop-block : goal.invariant-loop-block
invariant-loop-block l =
    (map use_of l.uses.items ++ flat_map (left_in_block l.fn.params) (drop l.block-index l.blocks) ≡ flat_map (left_in_block l.fn.params) l.blocks)
    × (l.known.params ≡ l.fn.params)
