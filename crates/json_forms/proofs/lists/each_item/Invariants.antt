use Rattle.std.proofs.Common.{◌≡◌, [], drop}
use Rattle.json_forms.specs.JsonValues.View.{items_view}
use Rattle.json_forms.specs.Forms.{items_of}
use Rattle.json_forms.proofs.lists.each_item.Given as goal

abbrev pub invariant-loop-item : goal.invariant-loop-item
invariant-loop-item g l = items_of (λ _. g.F.Form.form l.form) l.read (items_view (drop l.item-index l.items)) ≡ items_of (λ _. g.F.Form.form l.form) [] (items_view l.items)
