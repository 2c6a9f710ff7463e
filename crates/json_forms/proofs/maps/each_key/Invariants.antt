use Rattle.std.proofs.Common.{◌≡◌}
use Rattle.json_forms.specs.JsonValues.View.{sorted_view}
use Rattle.json_forms.specs.Forms.{keys_of}
use Rattle.json_forms.proofs.maps.each_key.Given as goal

abbrev pub invariant-loop-key : goal.invariant-loop-key
invariant-loop-key g l = keys_of (g.F.EntryForm.key_form l.form) (sorted_view l.key-iterator) ≡ keys_of (g.F.EntryForm.key_form l.form) (sorted_view l.members.entries)
