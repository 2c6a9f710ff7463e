use Rattle.std.proofs.Common.{◌≡◌, [], drop}
use Rattle.json_forms.specs.JsonValues.View.{items_view}
use Rattle.json_forms.specs.Forms.{items_of}
use Rattle.json_forms.proofs.lists.each_row.Given as goal

abbrev pub invariant-loop-item : goal.invariant-loop-item
invariant-loop-item g l = record {
  read : items_of (g.F.RowForm.row_form l.form) l.read (items_view (drop l.item-index l.items)) ≡ items_of (g.F.RowForm.row_form l.form) [] (items_view l.items);
  indexed : g.F.RowForm.is_of l.index l.read;
}
