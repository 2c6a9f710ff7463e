-- The examples, part by part.
use Rattle.ir_core.proofs.Operations.{comparisons_give_bits, conversions_change_widths, flags_have_operators, selections_have_one_type, void_returns}
use Rattle.ir_core.proofs.laws.examples_of_operations.Goals as goal

pub returns-clause-conversions : goal.returns-clause-conversions
returns-clause-conversions c = conversions_change_widths

pub returns-clause-selections : goal.returns-clause-selections
returns-clause-selections c = selections_have_one_type

pub returns-clause-comparisons : goal.returns-clause-comparisons
returns-clause-comparisons c = comparisons_give_bits

pub returns-clause-flags : goal.returns-clause-flags
returns-clause-flags c = flags_have_operators

pub returns-clause-void : goal.returns-clause-void
returns-clause-void c = void_returns
