-- The examples, part by part.
use Rattle.ir_core.proofs.Shapes.{other_results_are_not, other_widths_are_not, void_numbers_are_not, void_parameters_are_not}
use Rattle.ir_core.proofs.laws.examples_of_types.Goals as goal

pub returns-clause-other_width : goal.returns-clause-other_width
returns-clause-other_width c = other_widths_are_not

pub returns-clause-other_result : goal.returns-clause-other_result
returns-clause-other_result c = other_results_are_not

pub returns-clause-void_parameter : goal.returns-clause-void_parameter
returns-clause-void_parameter c = void_parameters_are_not

pub returns-clause-void_number : goal.returns-clause-void_number
returns-clause-void_number c = void_numbers_are_not
