-- The examples, part by part.
use Rattle.ir_core.proofs.Shapes.{debug_names_are_not, functions_of_one_name_are_not, functions_without_blocks_are_not, names_set_twice_are_not}
use Rattle.ir_core.proofs.laws.examples_of_names_and_blocks.Goals as goal

pub returns-clause-function_names : goal.returns-clause-function_names
returns-clause-function_names c = functions_of_one_name_are_not

pub returns-clause-names : goal.returns-clause-names
returns-clause-names c = names_set_twice_are_not

pub returns-clause-debug_name : goal.returns-clause-debug_name
returns-clause-debug_name c = debug_names_are_not

pub returns-clause-no_blocks : goal.returns-clause-no_blocks
returns-clause-no_blocks c = functions_without_blocks_are_not
