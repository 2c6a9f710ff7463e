use Rattle.std.proofs.Common.{arith}
use Rattle.ir_printer.proofs.ExpressionPrinter.Powers.{power_is_two_halves}
use Rattle.ir_printer.proofs.expression_printer.values.has_highest_bit.Goals as goal

pub returns-then-half-number-clause-answer : goal.returns-then-half-number-clause-answer
returns-then-half-number-clause-answer c = grind (arith, power_is_two_halves)
