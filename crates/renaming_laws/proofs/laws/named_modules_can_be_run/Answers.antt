use Rattle.ir_rename.specs.Laws.{NamingRenames}
use Rattle.ir_rename.specs.Named.{named_all}
use Rattle.renaming_laws.proofs.Given.{Renames}
use Rattle.renaming_laws.proofs.Whole.{can_be_run, named_again, spelled_can_be_run}
use Rattle.renaming_laws.proofs.laws.named_modules_can_be_run.Goals as goal

renames : NamingRenames → Renames named_all
renames law m range apart = law m range

pub returns-clause-read : goal.returns-clause-read
returns-clause-read c =
    let given = c.named_functions_are_renamed.ensures in
    let stay = c.named_modules_stay_well_formed.ensures in
    let kept = c.renamed_modules_stay_well_formed.ensures in
    named_again c.printed_modules_are_read.ensures (renames given.renamed) given.texts kept.apart stay.shape stay.range kept.limits

pub returns-clause-run : goal.returns-clause-run
returns-clause-run c = can_be_run named_all (returns-clause-read c) c.named_modules_stay_well_formed.ensures.well

pub returns-clause-spelled : goal.returns-clause-spelled
returns-clause-spelled c = spelled_can_be_run named_all (returns-clause-run c)
