use Rattle.std.proofs.Common.{◌≡◌, ◌∙◌, ◌++◌, [], ap}
use Rattle.derivation_cursor.specs.At.{ahead_of}
use Rattle.fault_walk.proofs.Behind.{faults_last}
use Rattle.fault_walk.specs.Told.{faults_more}
use Rattle.module_derivations.specs.FlatMarks.Flat.{behind, skip}
use Rattle.module_derivations.specs.Empty.{made}
use Rattle.module_derivations.specs.Types.{any_type}
use Rattle.named_modules.specs.Faults.{align_faults, int_faults, type_faults}
use Rattle.named_modules.specs.Types.{type_of}
use Rattle.fault_walk.proofs.blocks.note_count.Goals as goal

pub returns-clause-told : goal.returns-clause-told
returns-clause-told c =
    let h = c.args.sight.now in
    let s = ahead_of c.args.c.now in
    let t = c.args.told.now in
    let w = any_type s in
    let n = (made (skip 2 s)).integer in
    let l = (made (skip 3 s)).align_behind.align in
    let a = c.read_known.new.told in
    let b = c.note_int.new.told in
    let second : b ≡ faults_more (int_faults (type_of w) n) a = c.in_ok-count.ensures.told
    ∙ ap (λ it. faults_more (int_faults c.in_ok-ty.ty (made it).integer) a) (c.in_ok-ty.ensures.passes.behind)
    ∙ ap (λ it. faults_more (int_faults it (made (skip 2 s)).integer) a) (c.in_ok-ty.ensures.known) in
    let third : c.note_align_behind.new.told ≡ faults_more (align_faults l) b = c.in_ok-note_align_behind.ensures.told
    ∙ ap (λ it. faults_more (align_faults (made it).align_behind.align) b) (c.in_ok-count.ensures.passes.behind ∙ ap behind c.in_ok-ty.ensures.passes.behind) in
    faults_last h (type_faults h w ++ int_faults (type_of w) n) (align_faults l) [] t b c.note_align_behind.new.told
    (faults_last h (type_faults h w) (int_faults (type_of w) n) [] t a b c.in_ok-ty.ensures.told second) third
