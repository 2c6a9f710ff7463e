use Rattle.std.proofs.Common.{◌≡◌, drop}
use Rattle.std.specs.List.{flat_map}
use Rattle.ir_core.specs.Sizes.{wanted_in_block}
use Rattle.ir_typing.specs.ModuleLimits.Small.{are_small}
use Rattle.ir_typing.proofs.module_limits.sizes.are_blocks_small.Given as goal

abbrev pub invariant-loop-block : goal.invariant-loop-block
invariant-loop-block l = are_small l.«module».types (flat_map (wanted_in_block l.«module».types) (drop l.block-index l.blocks)) ≡ are_small l.«module».types (flat_map (wanted_in_block l.«module».types) l.blocks)
