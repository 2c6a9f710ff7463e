-- The examples, part by part.
use Rattle.ir_core.proofs.WellFormed.{early_uses_are_not, empty_names_are_not, two_blocks_are_well_formed, wide_numbers_are_not}
use Rattle.ir_core.proofs.laws.examples_of_well_formedness.Goals as goal

pub returns-clause-two_blocks : goal.returns-clause-two_blocks
returns-clause-two_blocks c = two_blocks_are_well_formed

pub returns-clause-empty_name : goal.returns-clause-empty_name
returns-clause-empty_name c = empty_names_are_not

pub returns-clause-early_use : goal.returns-clause-early_use
returns-clause-early_use c = early_uses_are_not

pub returns-clause-wide_number : goal.returns-clause-wide_number
returns-clause-wide_number c = wide_numbers_are_not
