use Rattle.std.proofs.Common.{◌≡◌, ◌+◌, ◌*◌, drop}
use Rattle.std.specs.List.{list_all}
use Rattle.ir_typing.specs.ModuleLimits.Within.{part_within}
use Rattle.ir_typing.proofs.module_limits.depths.+inits.Given as goal

abbrev pub invariant-are_parts_within-loop-part : goal.invariant-are_parts_within-loop-part
invariant-are_parts_within-loop-part l =
    list_all (part_within l.budget) (drop l.part-index l.parts) ≡ list_all (part_within l.budget) l.parts

abbrev pub decreases-is_init_within : goal.decreases-is_init_within
decreases-is_init_within l = 2 * l.budget

abbrev pub decreases-are_parts_within : goal.decreases-are_parts_within
decreases-are_parts_within l = 2 * l.budget + 1
