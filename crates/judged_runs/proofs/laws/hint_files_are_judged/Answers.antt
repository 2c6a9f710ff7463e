use Rattle.judged_runs.proofs.Hints.{hints_judged}
use Rattle.judged_runs.proofs.laws.hint_files_are_judged.Goals as goal

pub returns : goal.returns
returns c bytes = hints_judged c.hint_files_are_read.ensures.texts bytes
