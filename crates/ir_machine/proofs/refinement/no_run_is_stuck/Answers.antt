use Rattle.ir_machine.proofs.NeverStuck.{none_is_stuck, ends_are_shown}
use Rattle.ir_machine.proofs.refinement.no_run_is_stuck.Goals as goal

pub returns-clause-goes_on : goal.returns-clause-goes_on
returns-clause-goes_on c = none_is_stuck

pub returns-clause-ends : goal.returns-clause-ends
returns-clause-ends c = ends_are_shown
