use Rattle.std.proofs.Common.{◌≡◌, drop, map}
use Rattle.ir_core.specs.Typing.{index_of}
use Rattle.ir_typing.specs.ModuleLimits.Small.{entered_small}
use Rattle.ir_typing.proofs.module_limits.sizes.are_entered_small.Given as goal

-- the indices that are left enter on from here
abbrev pub invariant-loop-index : goal.invariant-loop-index
invariant-loop-index l =
    entered_small l.«module».types l.ty (map index_of (drop l.index-index l.indices)) ≡ entered_small l.«module».types l.of (map index_of l.indices)
