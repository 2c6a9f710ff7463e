use Rattle.ir_machine.proofs.Following.{told_runs_are_shown}
use Rattle.ir_machine.proofs.call_laws.told_runs_are_shown.Goals as goal

pub returns : goal.returns
returns c = told_runs_are_shown
