use Rattle.std.proofs.Common.{◌≡◌, ◌∙◌, ◌++◌, [], ap}
use Rattle.derivation_cursor.specs.At.{ahead_of}
use Rattle.fault_walk.proofs.Behind.{faults_last, in_turn, on_ok}
use Rattle.fault_walk.specs.Told.{faults_more, told_more}
use Rattle.module_derivations.specs.FlatMarks.Flat.{skip}
use Rattle.module_derivations.specs.Constants.{operand}
use Rattle.module_derivations.specs.Empty.{made}
use Rattle.module_derivations.specs.Types.{any_type}
use Rattle.module_spelling.specs.Blocks.{wanted_by_operand}
use Rattle.named_modules.specs.Faults.{align_faults, operand_faults, value_type_faults}
use Rattle.fault_walk.proofs.blocks.note_load.Goals as goal

pub returns-clause-told : goal.returns-clause-told
returns-clause-told c =
    let h = c.args.within.now.heads in
    let ts = c.args.within.now.things in
    let s = ahead_of c.args.c.now in
    let t = c.args.told.now in
    let w = any_type s in
    let o = operand (skip 2 s) in
    let l = (made (skip 5 s)).align_behind.align in
    let a = c.read_valued.new.told in
    let b = c.note_operand.new.told in
    let d = c.note_align_behind.new.told in
    let first : a ≡ told_more h (value_type_faults h w) [] t = c.in_ok-read_valued.ensures.told
    ∙ ap (λ x. told_more x (value_type_faults x (w)) [] t) c.sight.ensures in
    let second : b ≡ told_more h (operand_faults h ts o) (wanted_by_operand h o) a = c.in_ok-note_operand.ensures.told
    ∙ ap (λ it. told_more h (operand_faults h ts (operand it)) (wanted_by_operand h (operand it)) a) (c.in_ok-read_valued.ensures.passes.behind) in
    on_ok c.note_align_behind.result
    (λ e. in_turn h (value_type_faults h w) (operand_faults h ts o ++ align_faults l) [] (wanted_by_operand h o) t a d first
    (faults_last h (operand_faults h ts o) (align_faults l) (wanted_by_operand h o) a b d second
    (e ∙ ap (λ x. faults_more (align_faults (made x).align_behind.align) b) (c.in_ok-note_operand.ensures.passes.behind ∙ ap (skip 3) c.in_ok-read_valued.ensures.passes.behind))))
    c.note_align_behind.ensures.told
