-- The examples, part by part.
use Rattle.ir_core.proofs.Shapes.{lines_without_operators_are_not, phis_of_no_edge_are_not, phis_of_nothing_are_not}
use Rattle.ir_core.proofs.laws.examples_of_lines.Goals as goal

pub returns-clause-no_operator : goal.returns-clause-no_operator
returns-clause-no_operator c = lines_without_operators_are_not

pub returns-clause-no_edge : goal.returns-clause-no_edge
returns-clause-no_edge c = phis_of_no_edge_are_not

pub returns-clause-no_entries : goal.returns-clause-no_entries
returns-clause-no_entries c = phis_of_nothing_are_not
