use Rattle.std.proofs.Common.{◌≡◌, ◌∙◌, [], ap}
use Rattle.derivation_cursor.specs.At.{ahead_of}
use Rattle.fault_walk.proofs.Behind.{in_turn}
use Rattle.fault_walk.specs.Told.{told_more}
use Rattle.module_derivations.specs.FlatMarks.Flat.{behind, skip}
use Rattle.module_derivations.specs.Empty.{made}
use Rattle.module_derivations.specs.Types.{any_type}
use Rattle.module_spelling.specs.Blocks.{wanted_by_value}
use Rattle.named_modules.specs.Faults.{value_faults, value_type_faults}
use Rattle.named_modules.specs.Types.{type_of}
use Rattle.fault_walk.proofs.lines.note_argument.Goals as goal

pub returns-clause-told : goal.returns-clause-told
returns-clause-told c =
    let h = c.args.within.now.heads in
    let ts = c.args.within.now.things in
    let s = ahead_of c.args.c.now in
    let t = c.args.told.now in
    let w = any_type s in
    let v = (made (skip 3 s)).value in
    let a = c.read_valued.new.told in
    let first : a ≡ told_more h (value_type_faults h w) [] t = c.in_ok-ty.ensures.told
    ∙ ap (λ x. told_more x (value_type_faults x (w)) [] t) c.sight.ensures in
    let second : c.note_value.new.told ≡ told_more h (value_faults h ts (type_of w) v) (wanted_by_value h v) a = c.in_ok-note_value.ensures.told
    ∙ ap (λ it. told_more h (value_faults h ts c.in_ok-ty.ty (made it).value) (wanted_by_value h (made it).value) a) (c.skip_part.ensures.behind ∙ ap behind c.in_ok-ty.ensures.passes.behind)
    ∙ ap (λ it. told_more h (value_faults h ts it (made (skip 3 s)).value) (wanted_by_value h (made (skip 3 s)).value) a) (c.in_ok-ty.ensures.valued) in
    in_turn h (value_type_faults h w) (value_faults h ts (type_of w) v) [] (wanted_by_value h v) t a c.note_value.new.told first second
