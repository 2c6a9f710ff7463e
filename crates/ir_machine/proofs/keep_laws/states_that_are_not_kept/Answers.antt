use Rattle.ir_machine.proofs.LostKeeps.{lost_keeps_are_told}
use Rattle.ir_machine.proofs.keep_laws.states_that_are_not_kept.Goals as goal

pub returns : goal.returns
returns c = lost_keeps_are_told
