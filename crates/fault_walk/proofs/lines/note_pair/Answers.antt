use Rattle.std.proofs.Common.{◌≡◌, ◌∙◌, ap}
use Rattle.derivation_cursor.specs.At.{ahead_of}
use Rattle.fault_walk.proofs.Behind.{in_turn}
use Rattle.fault_walk.specs.Told.{told_more}
use Rattle.module_derivations.specs.FlatMarks.Flat.{behind, skip}
use Rattle.module_derivations.specs.Constants.{operand}
use Rattle.module_derivations.specs.Empty.{made}
use Rattle.module_spelling.specs.Blocks.{wanted_by_operand, wanted_by_value}
use Rattle.named_modules.specs.Faults.{operand_faults, value_faults}
use Rattle.named_modules.specs.Types.{type_of}
use Rattle.fault_walk.proofs.lines.note_pair.Goals as goal

pub returns-clause-told : goal.returns-clause-told
returns-clause-told c =
    let h = c.args.within.now.heads in
    let ts = c.args.within.now.things in
    let s = ahead_of c.args.c.now in
    let t = c.args.told.now in
    let o = operand (behind s) in
    let v = (made (skip 4 s)).value in
    let a = c.note_operand.new.told in
    let skipped = c.skip_part.ensures.behind in
    let first : a ≡ told_more h (operand_faults h ts o) (wanted_by_operand h o) t = c.in_ok-left.ensures.told
    ∙ ap (λ it. told_more h (operand_faults h ts (operand it)) (wanted_by_operand h (operand it)) t) (skipped) in
    let second : c.note_value.new.told ≡ told_more h (value_faults h ts (type_of o.ty) v) (wanted_by_value h v) a = c.in_ok-note_value.ensures.told
    ∙ ap (λ it. told_more h (value_faults h ts c.in_ok-left.left.0 (made it).value) (wanted_by_value h (made it).value) a) (c.in_ok-left.ensures.passes.behind ∙ ap (skip 3) skipped)
    ∙ ap (λ it. told_more h (value_faults h ts it (made (skip 4 s)).value) (wanted_by_value h (made (skip 4 s)).value) a) (ap (λ i. i.ty) c.in_ok-left.ensures.index ∙ ap (λ x. type_of (operand x).ty) skipped) in
    in_turn h (operand_faults h ts o) (value_faults h ts (type_of o.ty) v) (wanted_by_operand h o) (wanted_by_value h v) t a c.note_value.new.told first second
