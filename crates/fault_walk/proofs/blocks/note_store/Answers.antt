use Rattle.std.proofs.Common.{◌≡◌, ◌∙◌, ◌++◌, ap}
use Rattle.derivation_cursor.specs.At.{ahead_of}
use Rattle.fault_walk.proofs.Behind.{faults_last, in_turn, on_ok}
use Rattle.fault_walk.specs.Told.{faults_more, told_more}
use Rattle.module_derivations.specs.FlatMarks.Flat.{skip}
use Rattle.module_derivations.specs.Constants.{operand}
use Rattle.module_derivations.specs.Empty.{made}
use Rattle.module_spelling.specs.Blocks.{wanted_by_operand}
use Rattle.named_modules.specs.Faults.{align_faults, operand_faults}
use Rattle.fault_walk.proofs.blocks.note_store.Goals as goal

pub returns-clause-told : goal.returns-clause-told
returns-clause-told c =
    let h = c.args.within.now.heads in
    let ts = c.args.within.now.things in
    let s = ahead_of c.args.c.now in
    let t = c.args.told.now in
    let o = operand s in
    let p = operand (skip 3 s) in
    let l = (made (skip 6 s)).align_behind.align in
    let a = c.note_operand.new.told in
    let b = c.note_operand-2.new.told in
    let d = c.note_align_behind.new.told in
    let second : b ≡ told_more h (operand_faults h ts p) (wanted_by_operand h p) a = c.in_ok-note_operand-2.ensures.told
    ∙ ap (λ it. told_more h (operand_faults h ts (operand it)) (wanted_by_operand h (operand it)) a) (c.in_ok-note_operand.ensures.passes.behind) in
    on_ok c.note_align_behind.result
    (λ e. in_turn h (operand_faults h ts o) (operand_faults h ts p ++ align_faults l) (wanted_by_operand h o) (wanted_by_operand h p) t a d c.in_ok-note_operand.ensures.told
    (faults_last h (operand_faults h ts p) (align_faults l) (wanted_by_operand h p) a b d second
    (e ∙ ap (λ x. faults_more (align_faults (made x).align_behind.align) b) (c.in_ok-note_operand-2.ensures.passes.behind ∙ ap (skip 3) c.in_ok-note_operand.ensures.passes.behind))))
    c.note_align_behind.ensures.told
