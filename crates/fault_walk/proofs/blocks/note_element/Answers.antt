use Rattle.std.proofs.Common.{◌≡◌, ◌∙◌, ◌++◌, [], ap, map}
use Rattle.derivation_cursor.specs.At.{ahead_of}
use Rattle.fault_walk.proofs.Behind.{in_turn, on_ok, told_late}
use Rattle.fault_walk.specs.Lines.{built_index}
use Rattle.fault_walk.specs.Stated.{stated}
use Rattle.fault_walk.specs.Told.{told_more}
use Rattle.module_derivations.specs.FlatMarks.Flat.{behind, skip}
use Rattle.module_derivations.specs.Constants.{operand}
use Rattle.module_derivations.specs.Empty.{made}
use Rattle.module_derivations.specs.Types.{any_type}
use Rattle.module_grammar.specs.declared.types.TypeText.{TypeText}
use Rattle.module_spelling.specs.Blocks.{wanted_by_operand, wants_along}
use Rattle.named_modules.specs.Faults.{operand_faults, type_faults}
use Rattle.std.specs.List.{flat_map}
use Rattle.fault_walk.proofs.blocks.note_element.Goals as goal

pub returns-clause-told : goal.returns-clause-told
returns-clause-told c =
    let h = c.args.within.now.heads in
    let ts = c.args.within.now.things in
    let s = ahead_of c.args.c.now in
    let t = c.args.told.now in
    let w = any_type (skip 2 s) in
    let o = operand (skip 4 s) in
    let is = (made (skip 7 s)).indices_behind.indices in
    let a = c.read_stated.new.told in
    let b = c.note_operand.new.told in
    let d = c.note_indices.new.told in
    let fs = flat_map (operand_faults h ts) is in
    let ws = flat_map (wanted_by_operand h) is in
    let along = wants_along h w (map built_index is) in
    let skipped : ahead_of c.skip_part-2.new.c ≡ skip 2 s = c.skip_part-2.ensures.behind ∙ ap behind c.skip_part.ensures.behind in
    let base : ahead_of c.read_stated.new.c ≡ skip 4 s = c.in_ok-of.ensures.passes.behind ∙ ap (skip 2) skipped in
    let first : a ≡ told_more h (type_faults h w) [] t = c.in_ok-of.ensures.told
    ∙ ap (λ it. told_more c.sight.result.now (type_faults c.sight.result.now (any_type it)) [] t) (skipped)
    ∙ ap (λ it. told_more it (type_faults it (any_type (skip 2 s))) [] t) (c.sight.ensures) in
    let second : b ≡ told_more h (operand_faults h ts o) (wanted_by_operand h o) a = c.in_ok-note_operand.ensures.told
    ∙ ap (λ it. told_more h (operand_faults h ts (operand it)) (wanted_by_operand h (operand it)) a) (base) in
    let is_stated : c.in_ok-of.of ≡ stated h w = c.in_ok-of.ensures.stated ∙ ap (λ x. stated x (any_type (ahead_of c.skip_part-2.new.c))) c.sight.ensures ∙ ap (λ x. stated h (any_type x)) skipped in
    let third = λ (e : (w : TypeText) → c.in_ok-of.of ≡ stated h w → d ≡ told_more h (flat_map (operand_faults h ts) (made (ahead_of c.note_operand.new.c)).indices_behind.indices) (flat_map (wanted_by_operand h) (made (ahead_of c.note_operand.new.c)).indices_behind.indices ++ wants_along h w (map built_index (made (ahead_of c.note_operand.new.c)).indices_behind.indices)) b).
    let told : d ≡ told_more h fs (ws ++ along) b = e w is_stated
    ∙ ap (λ x. told_more h (flat_map (operand_faults h ts) (made x).indices_behind.indices) (flat_map (wanted_by_operand h) (made x).indices_behind.indices ++ wants_along h w (map built_index (made x).indices_behind.indices)) b) (c.in_ok-note_operand.ensures.passes.behind ∙ ap (skip 3) base) in
    in_turn h (type_faults h w) (operand_faults h ts o ++ fs) [] (wanted_by_operand h o ++ (ws ++ along)) t a d first
    (in_turn h (operand_faults h ts o) fs (wanted_by_operand h o) (ws ++ along) a b d second told)
    ∙ told_late h (type_faults h w ++ (operand_faults h ts o ++ fs)) (wanted_by_operand h o) ws along t in
    on_ok c.note_indices.result third c.note_indices.ensures.told
