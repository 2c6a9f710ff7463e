use Rattle.std.proofs.Common.{◌≡◌, drop}
use Rattle.std.specs.List.{flat_map}
use Rattle.ir_core.specs.Depths.{depths_in_block}
use Rattle.ir_typing.specs.ModuleLimits.Within.{are_shallow}
use Rattle.ir_typing.proofs.module_limits.depths.are_blocks_shallow.Given as goal

abbrev pub invariant-loop-block : goal.invariant-loop-block
invariant-loop-block l = are_shallow (flat_map depths_in_block (drop l.block-index l.blocks)) ≡ are_shallow (flat_map depths_in_block l.blocks)
