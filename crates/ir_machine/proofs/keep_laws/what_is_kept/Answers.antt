use Rattle.ir_machine.proofs.KeptStarts.{starts_have_it}
use Rattle.ir_machine.proofs.KeptSteps.{steps_keep_it}
use Rattle.ir_machine.proofs.keep_laws.what_is_kept.Goals as goal

pub returns-clause-starts : goal.returns-clause-starts
returns-clause-starts c = starts_have_it

pub returns-clause-steps : goal.returns-clause-steps
returns-clause-steps c = steps_keep_it
