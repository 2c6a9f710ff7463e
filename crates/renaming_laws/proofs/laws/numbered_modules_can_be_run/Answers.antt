use Rattle.ir_rename.specs.Numbered.{numbered_in_order}
use Rattle.renaming_laws.proofs.Whole.{can_be_run, numbered_again, spelled_can_be_run}
use Rattle.renaming_laws.proofs.laws.numbered_modules_can_be_run.Goals as goal

pub returns-clause-read : goal.returns-clause-read
returns-clause-read c =
    let given = c.numbered_functions_are_renamed.ensures in
    let stay = c.numbered_modules_stay_well_formed.ensures in
    let kept = c.renamed_modules_stay_well_formed.ensures in
    numbered_again c.printed_modules_are_read.ensures given.renamed given.ordered stay.shape stay.range kept.limits

pub returns-clause-run : goal.returns-clause-run
returns-clause-run c = can_be_run numbered_in_order (returns-clause-read c) c.numbered_modules_stay_well_formed.ensures.well

pub returns-clause-spelled : goal.returns-clause-spelled
returns-clause-spelled c = spelled_can_be_run numbered_in_order (returns-clause-run c)
