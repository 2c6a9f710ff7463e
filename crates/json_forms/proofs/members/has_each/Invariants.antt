use Rattle.std.proofs.Common.{◌≡◌, drop, is_some}
use Rattle.std.specs.List.{list_all}
use Rattle.serde_json.specs.Find.{get}
use Rattle.json_forms.specs.JsonValues.View.{view}
use Rattle.json_forms.specs.Forms.{texts}
use Rattle.json_forms.proofs.members.has_each.Given as goal

abbrev pub invariant-loop-key : goal.invariant-loop-key
invariant-loop-key l = list_all (λ k. is_some (get k (view l.value))) (texts (drop l.key-index l.keys)) ≡ list_all (λ k. is_some (get k (view l.value))) (texts l.keys)
