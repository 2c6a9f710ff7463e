use Rattle.std.proofs.Common.{◌≡◌, ◌∙◌, ◌++◌, [], ap}
use Rattle.derivation_cursor.specs.At.{ahead_of}
use Rattle.fault_walk.proofs.Behind.{faults_last, on_ok}
use Rattle.fault_walk.specs.Told.{faults_more}
use Rattle.module_derivations.specs.FlatMarks.Flat.{behind, skip}
use Rattle.module_derivations.specs.Constants.{operand}
use Rattle.module_derivations.specs.Empty.{said}
use Rattle.module_derivations.specs.Said.{name_of}
use Rattle.module_spelling.specs.Blocks.{wanted_by_operand}
use Rattle.named_modules.specs.Faults.{label_faults, operand_faults}
use Rattle.fault_walk.proofs.blocks.note_condition.Goals as goal

pub returns-clause-told : goal.returns-clause-told
returns-clause-told c =
    let h = c.args.within.now.heads in
    let ts = c.args.within.now.things in
    let s = ahead_of c.args.c.now in
    let t = c.args.told.now in
    let o = operand s in
    let x = name_of (said (skip 3 s)) in
    let y = name_of (said (skip 4 s)) in
    let a = c.note_operand.new.told in
    let b = c.note_label.new.told in
    let d = c.note_label-2.new.told in
    let second : b ≡ faults_more (label_faults ts x) a = c.in_ok-note_label.ensures.told
    ∙ ap (λ it. faults_more (label_faults ts (name_of (said it))) a) (c.in_ok-note_operand.ensures.passes.behind) in
    on_ok c.note_label-2.result
    (λ e. faults_last h (operand_faults h ts o) (label_faults ts x ++ label_faults ts y) (wanted_by_operand h o) t a d c.in_ok-note_operand.ensures.told
    (faults_last h (label_faults ts x) (label_faults ts y) [] a b d second
    (e
    ∙ ap (λ it. faults_more (label_faults ts (name_of (said it))) b) (c.in_ok-note_label.ensures.passes.behind ∙ ap behind c.in_ok-note_operand.ensures.passes.behind))))
    c.note_label-2.ensures.told
