use Rattle.crell_program.specs.Command.{files_of}
use Rattle.judged_runs.proofs.Runs.{files_judged}
use Rattle.judged_runs.proofs.laws.told_runs_are_judged.Goals as goal

pub returns : goal.returns
returns c rules told command all =
    c.runs_are_judged.ensures.judged rules told command
    (files_judged c.texts_are_judged.ensures c.hint_files_are_judged.ensures told (files_of command) all)
