use Rattle.std.proofs.Common.{◌∙◌, ap, refl}
use Rattle.std.specs.List.{filter_map}
use Rattle.derivation_cursor.specs.At.{ahead_of}
use Rattle.derivation_cursor.specs.declared.cursor.Cursor.{Cursor}
use Rattle.module_derivations.specs.Empty.{made}
use Rattle.named_modules.specs.Faults.{heads_of}
use Rattle.fault_walk.specs.Items.{listed}
use Rattle.fault_walk.specs.declared.told.Told.{Told}
use Rattle.fault_walk.proofs.ItemCases.{all_noted, none_told}
use Rattle.fault_walk.proofs.items.told_of.Goals as goal

pub returns-clause-fault : goal.returns-clause-fault
returns-clause-fault g c =
    let w = (made (ahead_of c.args.c.now)).whole in
    let list = c.as_slice.ensures ∙ c.in_ok-list.ensures ∙ ap (λ (x : Cursor). filter_map listed (made (ahead_of x)).whole.items) c.fork.ensures in
    ap (λ (t : Told). t.fault)
    (all_noted c.args.sight.now (g.S.Gaps.called c.args.around.now) (g.S.Gaps.declared c.args.around.now) w none_told c.note_items.new.told c.note_list.new.told
    (c.requires.sight ∙ ap heads_of c.requires.module) refl c.in_ok-note_items.ensures (c.in_ok-note_list.ensures w.items list))

pub returns-clause-large : goal.returns-clause-large
returns-clause-large g c =
    let w = (made (ahead_of c.args.c.now)).whole in
    let list = c.as_slice.ensures ∙ c.in_ok-list.ensures ∙ ap (λ (x : Cursor). filter_map listed (made (ahead_of x)).whole.items) c.fork.ensures in
    ap (λ (t : Told). t.large)
    (all_noted c.args.sight.now (g.S.Gaps.called c.args.around.now) (g.S.Gaps.declared c.args.around.now) w none_told c.note_items.new.told c.note_list.new.told
    (c.requires.sight ∙ ap heads_of c.requires.module) refl c.in_ok-note_items.ensures (c.in_ok-note_list.ensures w.items list))
