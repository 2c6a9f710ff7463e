use Rattle.crell_program.proofs.Judged.{runs_are_judged, still_runs_have_no_fault}
use Rattle.crell_program.proofs.laws.runs_are_judged.Goals as goal

pub returns-clause-judged : goal.returns-clause-judged
returns-clause-judged c = runs_are_judged

pub returns-clause-no_fault : goal.returns-clause-no_fault
returns-clause-no_fault c = still_runs_have_no_fault
