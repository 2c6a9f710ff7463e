use Rattle.std.proofs.Common.{rules}
use Rattle.ir_printer.proofs.expression_printer.names.may_stand_plain.Goals as goal

pub returns-then-not-is_a_digit : goal.returns-then-not-is_a_digit
returns-then-not-is_a_digit c = search rules

pub returns-else-not-is_a_digit : goal.returns-else-not-is_a_digit
returns-else-not-is_a_digit c = search rules
