use Rattle.ir_shape.proofs.ShapeLaws.TypeExamples.{functions_come_in_order, kinds_come_in_order, lines_come_before_ends, names_come_before_lines, types_come_first}
use Rattle.ir_shape.proofs.shape_laws.laws.examples_of_order.Goals as goal

pub returns-clause-ends : goal.returns-clause-ends
returns-clause-ends c = lines_come_before_ends

pub returns-clause-names : goal.returns-clause-names
returns-clause-names c = names_come_before_lines

pub returns-clause-types : goal.returns-clause-types
returns-clause-types c = types_come_first

pub returns-clause-functions : goal.returns-clause-functions
returns-clause-functions c = functions_come_in_order

pub returns-clause-kinds : goal.returns-clause-kinds
returns-clause-kinds c = kinds_come_in_order
