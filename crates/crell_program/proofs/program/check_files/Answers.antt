use Rattle.crell_program.specs.CommandLine.Words.{shown_names}
use Rattle.crell_program.specs.Due.{shelf_seen}
use Rattle.crell_program.proofs.Inner.{held_three, files_judged, files_refined}
use Rattle.crell_program.proofs.program.check_files.Goals as goal

pub returns-in-len3-clause-due : goal.returns-in-len3-clause-due
returns-in-len3-clause-due g c =
    let shelf = shelf_seen g.S.Shelf.told g.S.Shelf.faults g.S.Shelf.taken c.args.shelf.now c.gather.new.shelf in
    let names = shown_names c.args.files.now in
    let all = held_three shelf names _ c.in-Ok.texts c.as_slice.result.now c.source-item.result c.target-item.result c.hints-item.result
    c.as_slice-in-Ok.result.now c.as_slice-in-Ok-2.result.now c.as_slice-in-Ok-3.result.now
    c.in-Ok.ensures.held c.files_of_check.ensures c.as_slice.ensures c.in-len3.len_at_least c.in-len3.len_below c.source-item.is c.target-item.is c.hints-item.is
    c.as_slice-in-Ok.ensures c.as_slice-in-Ok-2.ensures c.as_slice-in-Ok-3.ensures in
    files_judged shelf names _ _ _ all c.judge_pair.result _ c.judge_pair.ensures.due

pub returns-in-len3-clause-refines : goal.returns-in-len3-clause-refines
returns-in-len3-clause-refines g c =
    let shelf = shelf_seen g.S.Shelf.told g.S.Shelf.faults g.S.Shelf.taken c.args.shelf.now c.gather.new.shelf in
    let names = shown_names c.args.files.now in
    let all = held_three shelf names _ c.in-Ok.texts c.as_slice.result.now c.source-item.result c.target-item.result c.hints-item.result
    c.as_slice-in-Ok.result.now c.as_slice-in-Ok-2.result.now c.as_slice-in-Ok-3.result.now
    c.in-Ok.ensures.held c.files_of_check.ensures c.as_slice.ensures c.in-len3.len_at_least c.in-len3.len_below c.source-item.is c.target-item.is c.hints-item.is
    c.as_slice-in-Ok.ensures c.as_slice-in-Ok-2.ensures c.as_slice-in-Ok-3.ensures in
    files_refined shelf names _ _ _ all c.judge_pair.result c.judge_pair.ensures.refines
