use Rattle.ir_machine.proofs.Lost.{lost_calls_are_told, lost_jumps_are_told, unset_is_told}
use Rattle.ir_machine.proofs.laws.lost_states_are_told.Goals as goal

pub returns-clause-jumps : goal.returns-clause-jumps
returns-clause-jumps c = lost_jumps_are_told

pub returns-clause-calls : goal.returns-clause-calls
returns-clause-calls c = lost_calls_are_told

pub returns-clause-reads : goal.returns-clause-reads
returns-clause-reads c = unset_is_told
