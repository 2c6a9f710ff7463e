use Rattle.std.proofs.Common.{◌≡◌, ◌∙◌, ◌++◌, ap}
use Rattle.derivation_cursor.specs.At.{ahead_of}
use Rattle.fault_walk.proofs.Behind.{in_turn}
use Rattle.fault_walk.specs.Told.{told_more}
use Rattle.module_derivations.specs.FlatMarks.Flat.{skip}
use Rattle.module_derivations.specs.Constants.{operand}
use Rattle.module_spelling.specs.Blocks.{wanted_by_operand}
use Rattle.named_modules.specs.Faults.{operand_faults}
use Rattle.fault_walk.proofs.lines.note_select.Goals as goal

pub returns-clause-told : goal.returns-clause-told
returns-clause-told c =
    let h = c.args.within.now.heads in
    let ts = c.args.within.now.things in
    let s = ahead_of c.args.c.now in
    let t = c.args.told.now in
    let o = operand s in
    let p = operand (skip 3 s) in
    let q = operand (skip 6 s) in
    let a = c.note_operand.new.told in
    let b = c.note_operand-2.new.told in
    let d = c.note_operand-3.new.told in
    let second : b ≡ told_more h (operand_faults h ts p) (wanted_by_operand h p) a = c.in_ok-note_operand-2.ensures.told
    ∙ ap (λ it. told_more h (operand_faults h ts (operand it)) (wanted_by_operand h (operand it)) a) (c.in_ok-note_operand.ensures.passes.behind) in
    let third : d ≡ told_more h (operand_faults h ts q) (wanted_by_operand h q) b = c.in_ok-note_operand-3.ensures.told
    ∙ ap (λ it. told_more h (operand_faults h ts (operand it)) (wanted_by_operand h (operand it)) b) (c.in_ok-note_operand-2.ensures.passes.behind ∙ ap (skip 3) c.in_ok-note_operand.ensures.passes.behind) in
    in_turn h (operand_faults h ts o) (operand_faults h ts p ++ operand_faults h ts q) (wanted_by_operand h o) (wanted_by_operand h p ++ wanted_by_operand h q) t a d c.in_ok-note_operand.ensures.told
    (in_turn h (operand_faults h ts p) (operand_faults h ts q) (wanted_by_operand h p) (wanted_by_operand h q) a b d second third)
