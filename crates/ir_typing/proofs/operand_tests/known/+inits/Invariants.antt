use Rattle.std.proofs.Common.{◌≡◌, drop}
use Rattle.ir_typing.specs.OperandTests.Stated.{are_inits_known}
use Rattle.ir_typing.proofs.OperandTests.Measures.{of_init, of_inits}
use Rattle.ir_typing.proofs.operand_tests.known.+inits.Given as goal

abbrev pub decreases-is_init_known : goal.decreases-is_init_known
decreases-is_init_known l = of_init l.init.now

abbrev pub decreases-are_inits_known : goal.decreases-are_inits_known
decreases-are_inits_known l = of_inits l.inits.now

-- the initialisers that are left decide
abbrev pub invariant-are_inits_known-loop-init : goal.invariant-are_inits_known-loop-init
invariant-are_inits_known-loop-init l = are_inits_known l.beside (drop l.init-index l.inits) ≡ are_inits_known l.beside l.inits
