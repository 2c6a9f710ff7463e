use Rattle.rule_base.specs.Book.{rules_of}
use Rattle.crell_program.specs.Due.{shelf_seen}
use Rattle.crell_program.proofs.Inner.{file_judged, file_spelled, held_one}
use Rattle.crell_program.proofs.program.list_file.Goals as goal

pub returns-in-len1-clause-due : goal.returns-in-len1-clause-due
returns-in-len1-clause-due g c =
    let shelf = shelf_seen g.S.Shelf.told g.S.Shelf.faults g.S.Shelf.taken c.args.shelf.now c.gather.new.shelf in
    let all = held_one shelf c.args.listing c.args.file.now _ c.in-Ok.texts c.as_slice.result.now c.text-item.result c.as_slice-in-Ok.result.now
    c.in-Ok.ensures.held c.files_of_listing.ensures c.as_slice.ensures c.in-len1.len_at_least c.in-len1.len_below c.text-item.is c.as_slice-in-Ok.ensures in
    file_judged shelf c.args.listing c.args.file.now _ all c.list_text.result
    (rules_of (λ x. (goal.InferRule-dyn g x).called x.1) (λ x. (goal.InferRule-dyn g x).takes x.1) c.args._rules.now) c.list_text.ensures.due

pub returns-in-len1-clause-refines : goal.returns-in-len1-clause-refines
returns-in-len1-clause-refines g c =
    let shelf = shelf_seen g.S.Shelf.told g.S.Shelf.faults g.S.Shelf.taken c.args.shelf.now c.gather.new.shelf in
    let all = held_one shelf c.args.listing c.args.file.now _ c.in-Ok.texts c.as_slice.result.now c.text-item.result c.as_slice-in-Ok.result.now
    c.in-Ok.ensures.held c.files_of_listing.ensures c.as_slice.ensures c.in-len1.len_at_least c.in-len1.len_below c.text-item.is c.as_slice-in-Ok.ensures in
    file_spelled shelf c.args.listing c.args.file.now _ all c.list_text.result c.list_text.ensures.spelled
