use Rattle.ir_machine.proofs.Runs.{step_on}
use Rattle.ir_machine.proofs.Ending.{runs_are_steps}
use Rattle.ir_machine.proofs.laws.runs_are_steps.Goals as goal

pub returns-clause-step : goal.returns-clause-step
returns-clause-step c = step_on

pub returns-clause-all : goal.returns-clause-all
returns-clause-all c = runs_are_steps
