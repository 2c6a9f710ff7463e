use Rattle.ir_machine.proofs.Flow.{first_entries_are_taken}
use Rattle.ir_machine.proofs.laws.examples_of_control_flow.Goals as goal

pub returns-clause-first_entry : goal.returns-clause-first_entry
returns-clause-first_entry c = first_entries_are_taken
