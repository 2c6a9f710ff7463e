use Rattle.std.proofs.Common.{◌≡◌, ◌∙◌, [], ap}
use Rattle.derivation_cursor.specs.At.{ahead_of}
use Rattle.fault_walk.proofs.Behind.{faults_last}
use Rattle.fault_walk.specs.Told.{faults_more, told_more}
use Rattle.module_derivations.specs.FlatMarks.Flat.{behind, skip}
use Rattle.module_derivations.specs.Constants.{operand}
use Rattle.module_derivations.specs.Types.{any_type}
use Rattle.module_spelling.specs.Blocks.{wanted_by_operand}
use Rattle.named_modules.specs.Faults.{operand_faults, value_type_faults}
use Rattle.fault_walk.proofs.lines.note_cast.Goals as goal

pub returns-clause-told : goal.returns-clause-told
returns-clause-told c =
    let h = c.args.within.now.heads in
    let ts = c.args.within.now.things in
    let s = ahead_of c.args.c.now in
    let t = c.args.told.now in
    let o = operand (behind s) in
    let w = any_type (skip 4 s) in
    let a = c.note_operand.new.told in
    let skipped = c.skip_part.ensures.behind in
    let first : a ≡ told_more h (operand_faults h ts o) (wanted_by_operand h o) t = c.in_ok-note_operand.ensures.told
    ∙ ap (λ it. told_more h (operand_faults h ts (operand it)) (wanted_by_operand h (operand it)) t) (skipped) in
    let second : c.read_valued.new.told ≡ faults_more (value_type_faults h w) a = c.in_ok-read_valued.ensures.told
    ∙ ap (λ it. told_more c.sight.result.now (value_type_faults c.sight.result.now (any_type it)) [] a) (c.in_ok-note_operand.ensures.passes.behind ∙ ap (skip 3) skipped)
    ∙ ap (λ it. told_more it (value_type_faults it (any_type (skip 4 s))) [] a) (c.sight.ensures) in
    faults_last h (operand_faults h ts o) (value_type_faults h w) (wanted_by_operand h o) t a c.read_valued.new.told first second
