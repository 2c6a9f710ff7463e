use Rattle.ir_machine.proofs.Finding.{nothing_is_lost}
use Rattle.ir_machine.proofs.Setting.{reads_are_set}
use Rattle.ir_machine.proofs.laws.well_formed_runs_go_on.Goals as goal

pub returns-clause-found : goal.returns-clause-found
returns-clause-found c = nothing_is_lost

pub returns-clause-set : goal.returns-clause-set
returns-clause-set c = reads_are_set
