use Rattle.std.proofs.Common.{◌≡◌, ◌∙◌, ◌∷◌, List, ap, rules, sym}
use Rattle.std.specs.List.{flat_map}
use Rattle.derivation_cursor.specs.At.{ahead_of}
use Rattle.module_derivations.specs.Empty.{made}
use Rattle.module_grammar.specs.declared.items.ItemText.{ItemText}
use Rattle.module_spelling.specs.Blocks.{wanted_by_item}
use Rattle.named_modules.specs.Faults.{item_faults}
use Rattle.fault_walk.specs.Items.{functions_in}
use Rattle.fault_walk.specs.Told.{told_more}
use Rattle.fault_walk.proofs.ItemCases.{items_more}
use Rattle.fault_walk.proofs.items.note_items.Goals as goal

pub loop-c-preserved : goal.loop-c-preserved
loop-c-preserved g c =
    let h = c.args.sight.now in
    let faults = item_faults h (g.S.Gaps.called c.args.around.now) (g.S.Gaps.declared c.args.around.now) in
    let i = (made (ahead_of c.rule.new.self)).item in
    let more = (made (ahead_of c.note_item.new.c)).whole.items in
    let is : (made (ahead_of c.loop-c.c)).whole.items ≡ i ∷ more = search rules in
    let now = c.loop-c.invariant.left ∙ ap (functions_in h.types) is in
    record {
      left = c.in_ok-left-in-Some-eq1.ensures.left more now;
      told =
          items_more h faults (wanted_by_item h) i more c.loop-c.told c.note_item.new.told _ (c.in_ok-left-in-Some-eq1.ensures.told more now)
          (sym (ap (λ (items : List ItemText). told_more h (flat_map faults items) (flat_map (wanted_by_item h) items) c.loop-c.told) is) ∙ c.loop-c.invariant.told);
    }
