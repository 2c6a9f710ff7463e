use Rattle.std.proofs.Common.{◌≡◌, drop}
use Rattle.ir_typing.proofs.OperandTests.Measures.{of_constant, of_constants}
use Rattle.ir_typing.specs.ModuleLimits.Small.{constants_small}
use Rattle.ir_typing.proofs.module_limits.sizes.+constants.Given as goal

abbrev pub decreases-is_constant_small : goal.decreases-is_constant_small
decreases-is_constant_small l = of_constant l.constant.now

abbrev pub decreases-are_constants_small : goal.decreases-are_constants_small
decreases-are_constants_small l = of_constants l.constants.now

-- the constants that are left decide
abbrev pub invariant-are_constants_small-loop-constant : goal.invariant-are_constants_small-loop-constant
invariant-are_constants_small-loop-constant l =
    constants_small l.«module».types (drop l.constant-index l.constants) ≡ constants_small l.«module».types l.constants
