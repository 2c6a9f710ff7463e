use Rattle.std.proofs.Common.{◌≡◌, drop}
use Rattle.ir_typing.proofs.OperandTests.Measures.{of_init, of_inits}
use Rattle.ir_typing.specs.ModuleLimits.Small.{inits_small}
use Rattle.ir_typing.proofs.module_limits.sizes.+inits.Given as goal

abbrev pub decreases-is_init_small : goal.decreases-is_init_small
decreases-is_init_small l = of_init l.init.now

abbrev pub decreases-are_inits_small : goal.decreases-are_inits_small
decreases-are_inits_small l = of_inits l.inits.now

-- the initialisers that are left decide
abbrev pub invariant-are_inits_small-loop-init : goal.invariant-are_inits_small-loop-init
invariant-are_inits_small-loop-init l =
    inits_small l.«module».types (drop l.init-index l.inits) ≡ inits_small l.«module».types l.inits
