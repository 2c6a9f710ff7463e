use Rattle.ir_machine.proofs.Ending.{starts_are_kept, refined_runs_are_shown, firsts_are_shown}
use Rattle.ir_machine.proofs.laws.refined_runs_are_shown.Goals as goal

pub returns-clause-start : goal.returns-clause-start
returns-clause-start c = starts_are_kept

pub returns-clause-runs : goal.returns-clause-runs
returns-clause-runs c = refined_runs_are_shown

pub returns-clause-first : goal.returns-clause-first
returns-clause-first c = firsts_are_shown
