use Rattle.std.proofs.Common.{◌≡◌, drop}
use Rattle.ir_typing.specs.OperandTests.Stated.{are_constants_known}
use Rattle.ir_typing.proofs.OperandTests.Measures.{of_constant, of_constants}
use Rattle.ir_typing.proofs.operand_tests.known.+constants.Given as goal

abbrev pub decreases-has_types_known : goal.decreases-has_types_known
decreases-has_types_known l = of_constant l.constant.now

abbrev pub decreases-are_constants_known : goal.decreases-are_constants_known
decreases-are_constants_known l = of_constants l.constants.now

-- the constants that are left decide
abbrev pub invariant-are_constants_known-loop-constant : goal.invariant-are_constants_known-loop-constant
invariant-are_constants_known-loop-constant l = are_constants_known l.beside (drop l.constant-index l.constants) ≡ are_constants_known l.beside l.constants
