use Rattle.ir_typing.proofs.OperandTests.Measures.{of_constant}
use Rattle.ir_values.proofs.constants.+worth.Given as goal

abbrev pub decreases-worth : goal.decreases-worth
decreases-worth l = of_constant l.constant.now
