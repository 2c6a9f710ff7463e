use Rattle.std.proofs.Common.{◌≡◌, ◌∙◌, [], ap, None}
use Rattle.derivation_cursor.specs.At.{ahead_of}
use Rattle.fault_walk.proofs.Behind.{in_turn, on_ok}
use Rattle.fault_walk.specs.Told.{faults_more, told_more}
use Rattle.module_derivations.specs.FlatMarks.Flat.{behind, skip}
use Rattle.module_derivations.specs.Empty.{made}
use Rattle.module_derivations.specs.Lines.{call_end}
use Rattle.module_spelling.specs.Blocks.{wanted_by_end}
use Rattle.named_modules.specs.Constants.{global_name}
use Rattle.named_modules.specs.Faults.{called_faults, result_faults}
use Rattle.fault_walk.proofs.lines.note_callee_call.Goals as goal

pub returns-clause-told : goal.returns-clause-told
returns-clause-told c =
    let h = c.args.within.now.heads in
    let ts = c.args.within.now.things in
    let s = ahead_of c.args.c.now in
    let t = c.args.told.now in
    let k = (made s).result_type in
    let a = c.note_result.new.told in
    let d = c.note_called.new.told in
    let q = behind s in
    let first : a ≡ faults_more (result_faults h k) t = c.in_ok-note_result.ensures.told
    ∙ ap (λ it. faults_more (result_faults it k) t) (c.sight.ensures) in
    on_ok c.note_called.result
    (λ z. in_turn h (result_faults h k) (called_faults h ts None (made q).function_type (global_name (made (behind q)).global_name) (call_end (skip 2 q))) [] (wanted_by_end h (call_end (skip 2 q))) t a d first
    (z
    ∙ ap (λ it. told_more h (called_faults h ts None (made it).function_type (global_name (made (behind it)).global_name) (call_end (skip 2 it))) (wanted_by_end h (call_end (skip 2 it))) a) (c.in_ok-note_result.ensures.passes.behind)))
    c.note_called.ensures.told
