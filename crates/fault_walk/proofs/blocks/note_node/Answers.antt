use Rattle.std.proofs.Common.{◌≡◌, ◌∙◌, ◌++◌, [], ap}
use Rattle.derivation_cursor.specs.At.{ahead_of}
use Rattle.fault_walk.proofs.Behind.{in_turn, on_ok}
use Rattle.fault_walk.specs.Flow.{wanted_by_entry}
use Rattle.fault_walk.specs.Told.{told_more}
use Rattle.module_derivations.specs.FlatMarks.Flat.{skip}
use Rattle.module_derivations.specs.Blocks.{entry}
use Rattle.module_derivations.specs.Empty.{made}
use Rattle.module_derivations.specs.Types.{any_type}
use Rattle.named_modules.specs.Faults.{entry_faults, value_type_faults}
use Rattle.named_modules.specs.Types.{type_of}
use Rattle.std.specs.List.{flat_map}
use Rattle.fault_walk.proofs.blocks.note_node.Goals as goal

pub returns-clause-told : goal.returns-clause-told
returns-clause-told c =
    let h = c.args.within.now.heads in
    let ts = c.args.within.now.things in
    let s = ahead_of c.args.c.now in
    let t = c.args.told.now in
    let w = any_type s in
    let x = entry (skip 2 s) in
    let xs = (made (skip 5 s)).entries_behind.entries in
    let a = c.read_valued.new.told in
    let b = c.note_entry.new.told in
    let d = c.note_entries.new.told in
    let fs = flat_map (entry_faults h ts (type_of w)) xs in
    let ws = flat_map (wanted_by_entry h) xs in
    let first : a ≡ told_more h (value_type_faults h w) [] t = c.in_ok-ty.ensures.told
    ∙ ap (λ x. told_more x (value_type_faults x (w)) [] t) c.sight.ensures in
    let second : b ≡ told_more h (entry_faults h ts (type_of w) x) (wanted_by_entry h x) a = c.in_ok-note_entry.ensures.told
    ∙ ap (λ it. told_more h (entry_faults h ts c.in_ok-ty.ty (entry it)) (wanted_by_entry h (entry it)) a) (c.in_ok-ty.ensures.passes.behind)
    ∙ ap (λ it. told_more h (entry_faults h ts it (entry (skip 2 s))) (wanted_by_entry h (entry (skip 2 s))) a) (c.in_ok-ty.ensures.valued) in
    on_ok c.note_entries.result
    (λ e. in_turn h (value_type_faults h w) (entry_faults h ts (type_of w) x ++ fs) [] (wanted_by_entry h x ++ ws) t a d first
    (in_turn h (entry_faults h ts (type_of w) x) fs (wanted_by_entry h x) ws a b d second
    (e
    ∙ ap (λ it. told_more h (flat_map (entry_faults h ts c.in_ok-ty.ty) (made it).entries_behind.entries) (flat_map (wanted_by_entry h) (made it).entries_behind.entries) b) (c.in_ok-note_entry.ensures.passes.behind ∙ ap (skip 3) c.in_ok-ty.ensures.passes.behind)
    ∙ ap (λ it. told_more h (flat_map (entry_faults h ts it) (made (skip 5 s)).entries_behind.entries) (flat_map (wanted_by_entry h) (made (skip 5 s)).entries_behind.entries) b) (c.in_ok-ty.ensures.valued))))
    c.note_entries.ensures.told
