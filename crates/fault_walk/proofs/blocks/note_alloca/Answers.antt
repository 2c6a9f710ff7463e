use Rattle.std.proofs.Common.{◌≡◌, ◌∙◌, ◌++◌, [], ap}
use Rattle.derivation_cursor.specs.At.{ahead_of}
use Rattle.fault_walk.proofs.Behind.{faults_last, so_many_counted}
use Rattle.fault_walk.specs.Lines.{counted, counted_faults}
use Rattle.fault_walk.specs.Told.{faults_more, told_more}
use Rattle.module_derivations.specs.FlatMarks.Flat.{skip}
use Rattle.module_derivations.specs.Empty.{made}
use Rattle.module_derivations.specs.Types.{any_type}
use Rattle.module_spelling.specs.Blocks.{so_many, wanted_by_count}
use Rattle.named_modules.specs.Faults.{type_faults}
use Rattle.fault_walk.proofs.blocks.note_alloca.Goals as goal

pub returns-clause-told : goal.returns-clause-told
returns-clause-told c =
    let h = c.args.sight.now in
    let s = ahead_of c.args.c.now in
    let t = c.args.told.now in
    let w = any_type s in
    let k = (made (skip 2 s)).count_behind in
    let a = c.read_stated.new.told in
    let b = c.note_count_behind.new.told in
    let second : b ≡ faults_more (counted_faults h k) a = c.in_ok-count.ensures.told
    ∙ ap (λ it. faults_more (counted_faults h (made it).count_behind) a) (c.in_ok-of.ensures.passes.behind) in
    let both : b ≡ faults_more (type_faults h w ++ counted_faults h k) t = faults_last h (type_faults h w) (counted_faults h k) [] t a b c.in_ok-of.ensures.told second in
    let so : c.in_ok-count.count ≡ counted k.count = c.in_ok-count.ensures.count ∙ ap (λ x. counted (made x).count_behind.count) c.in_ok-of.ensures.passes.behind in
    c.note_counted.ensures w c.in_ok-of.ensures.stated
    ∙ ap (λ n. told_more h [] (so_many h w n) b) so
    ∙ ap (λ ws. told_more h [] ws b) (so_many_counted h w k.count)
    ∙ ap (told_more h [] (wanted_by_count h w k.count)) both
