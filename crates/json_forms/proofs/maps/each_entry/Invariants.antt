use Rattle.std.proofs.Common.{◌≡◌, []}
use Rattle.json_forms.specs.JsonValues.View.{sorted_view}
use Rattle.json_forms.specs.Forms.{entries_of}
use Rattle.json_forms.proofs.maps.each_entry.Given as goal

abbrev pub invariant-loop-key : goal.invariant-loop-key
invariant-loop-key g l = entries_of (g.F.EntryForm.entry_form l.form) l.read (sorted_view l.key-iterator) ≡ entries_of (g.F.EntryForm.entry_form l.form) [] (sorted_view l.members.entries)
