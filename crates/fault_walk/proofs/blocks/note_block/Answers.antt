use Rattle.std.proofs.Common.{◌≡◌, ◌∙◌, ◌++◌, ap}
use Rattle.derivation_cursor.specs.At.{ahead_of}
use Rattle.fault_walk.proofs.Behind.{in_turn, regrouped}
use Rattle.fault_walk.specs.Flow.{body_faults, wanted_by_body}
use Rattle.fault_walk.specs.Told.{told_more}
use Rattle.module_derivations.specs.FlatMarks.Flat.{behind, skip}
use Rattle.module_derivations.specs.Empty.{made}
use Rattle.module_spelling.specs.Blocks.{wanted_by_line, wanted_by_phi, wanted_by_term}
use Rattle.named_modules.specs.Faults.{line_faults, phi_faults, term_faults}
use Rattle.std.specs.List.{flat_map}
use Rattle.fault_walk.proofs.blocks.note_block.Goals as goal

pub returns-clause-told : goal.returns-clause-told
returns-clause-told g c =
    let h = c.args.within.now.heads in
    let ts = c.args.within.now.things in
    let s = ahead_of c.args.c.now in
    let t = c.args.told.now in
    let calls = g.S.Gaps.called c.args.around.now in
    let w = (made (behind s)).body in
    let e = (made (skip 2 s)).term in
    let a = c.note_body.new.told in
    let b = c.note_term.new.told in
    let fs = flat_map (phi_faults h ts) w.phis in
    let gs = flat_map (line_faults h calls ts) w.lines in
    let us = flat_map (wanted_by_phi h) w.phis in
    let vs = flat_map (wanted_by_line h) w.lines in
    let first : a ≡ told_more h (fs ++ gs) (us ++ vs) t = c.in_ok-note_body.ensures.told
    ∙ ap (λ it. told_more h (body_faults h calls ts (made it).body) (wanted_by_body h (made it).body) t) (c.skip_part.ensures.behind) in
    let second : b ≡ told_more h (term_faults h ts e) (wanted_by_term h e) a = c.in_ok-note_term.ensures.told
    ∙ ap (λ it. told_more h (term_faults h ts (made it).term) (wanted_by_term h (made it).term) a) (c.in_ok-note_body.ensures.passes.behind ∙ ap behind c.skip_part.ensures.behind) in
    in_turn h (fs ++ gs) (term_faults h ts e) (us ++ vs) (wanted_by_term h e) t a b first second
    ∙ regrouped h fs gs (term_faults h ts e) us vs (wanted_by_term h e) t
