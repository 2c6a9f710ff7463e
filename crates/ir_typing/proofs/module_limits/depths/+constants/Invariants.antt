use Rattle.std.proofs.Common.{◌≡◌, ◌+◌, ◌*◌, drop}
use Rattle.std.specs.List.{list_all}
use Rattle.ir_typing.specs.ModuleLimits.Within.{typed_within}
use Rattle.ir_typing.proofs.module_limits.depths.+constants.Given as goal

abbrev pub invariant-are_constants_within-loop-constant : goal.invariant-are_constants_within-loop-constant
invariant-are_constants_within-loop-constant l =
    list_all (typed_within l.budget) (drop l.constant-index l.constants) ≡ list_all (typed_within l.budget) l.constants

abbrev pub decreases-is_constant_within : goal.decreases-is_constant_within
decreases-is_constant_within l = 2 * l.budget

abbrev pub decreases-are_constants_within : goal.decreases-are_constants_within
decreases-are_constants_within l = 2 * l.budget + 1
