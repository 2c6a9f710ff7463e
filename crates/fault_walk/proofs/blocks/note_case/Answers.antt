use Rattle.std.proofs.Common.{◌≡◌, ◌∙◌, ◌++◌, [], ap}
use Rattle.derivation_cursor.specs.At.{ahead_of}
use Rattle.fault_walk.proofs.Behind.{faults_last, on_ok}
use Rattle.fault_walk.specs.Told.{faults_more, told_more}
use Rattle.module_derivations.specs.FlatMarks.Flat.{behind, skip}
use Rattle.module_derivations.specs.Empty.{made, said}
use Rattle.module_derivations.specs.Said.{name_of}
use Rattle.module_derivations.specs.Types.{any_type}
use Rattle.named_modules.specs.Faults.{int_faults, label_faults, type_faults}
use Rattle.named_modules.specs.Types.{type_of}
use Rattle.fault_walk.proofs.blocks.note_case.Goals as goal

pub returns-clause-told : goal.returns-clause-told
returns-clause-told c =
    let h = c.args.within.now.heads in
    let ts = c.args.within.now.things in
    let s = ahead_of c.args.c.now in
    let t = c.args.told.now in
    let w = any_type s in
    let n = (made (skip 2 s)).integer in
    let x = name_of (said (skip 3 s)) in
    let a = c.read_known.new.told in
    let b = c.note_int.new.told in
    let d = c.note_label.new.told in
    let first : a ≡ faults_more (type_faults h w) t = c.in_ok-ty.ensures.told
    ∙ ap (λ it. told_more it (type_faults it w) [] t) (c.sight.ensures) in
    let second : b ≡ faults_more (int_faults (type_of w) n) a = c.in_ok-note_int.ensures.told
    ∙ ap (λ it. faults_more (int_faults c.in_ok-ty.ty (made it).integer) a) (c.in_ok-ty.ensures.passes.behind)
    ∙ ap (λ it. faults_more (int_faults it (made (skip 2 s)).integer) a) (c.in_ok-ty.ensures.known) in
    on_ok c.note_label.result
    (λ e. faults_last h (type_faults h w) (int_faults (type_of w) n ++ label_faults ts x) [] t a d first
    (faults_last h (int_faults (type_of w) n) (label_faults ts x) [] a b d second
    (e
    ∙ ap (λ it. faults_more (label_faults ts (name_of (said it))) b) (c.in_ok-note_int.ensures.passes.behind ∙ ap behind c.in_ok-ty.ensures.passes.behind))))
    c.note_label.ensures.told
