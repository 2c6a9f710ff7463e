use Rattle.std.proofs.Common.{◌≡◌, ◌∙◌, ap}
use Rattle.derivation_cursor.specs.At.{ahead_of}
use Rattle.fault_walk.proofs.Behind.{faults_last, on_ok}
use Rattle.fault_walk.specs.Told.{faults_more, told_more}
use Rattle.module_derivations.specs.FlatMarks.Flat.{behind, skip}
use Rattle.module_derivations.specs.Empty.{made, said}
use Rattle.module_derivations.specs.Said.{name_of}
use Rattle.module_spelling.specs.Blocks.{wanted_by_value}
use Rattle.named_modules.specs.Faults.{label_faults, value_faults}
use Rattle.fault_walk.proofs.blocks.note_entry.Goals as goal

pub returns-clause-told : goal.returns-clause-told
returns-clause-told c =
    let h = c.args.within.now.heads in
    let ts = c.args.within.now.things in
    let s = ahead_of c.args.c.now in
    let t = c.args.told.now in
    let u = c.args.ty.now in
    let v = (made (behind s)).value in
    let x = name_of (said (skip 2 s)) in
    let a = c.note_value.new.told in
    let b = c.note_label.new.told in
    let first : a ≡ told_more h (value_faults h ts u v) (wanted_by_value h v) t = c.in_ok-note_value.ensures.told
    ∙ ap (λ it. told_more h (value_faults h ts u (made it).value) (wanted_by_value h (made it).value) t) (c.skip_part.ensures.behind) in
    on_ok c.note_label.result
    (λ e. faults_last h (value_faults h ts u v) (label_faults ts x) (wanted_by_value h v) t a b first
    (e ∙ ap (λ q. faults_more (label_faults ts (name_of (said q))) a) (c.in_ok-note_value.ensures.passes.behind ∙ ap behind c.skip_part.ensures.behind)))
    c.note_label.ensures.told
