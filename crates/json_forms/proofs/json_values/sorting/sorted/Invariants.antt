use Rattle.std.proofs.Common.{◌≡◌, map, drop}
use Rattle.json_forms.specs.JsonValues.View.{view, members_view, put_all, sorted_view}
use Rattle.json_forms.proofs.json_values.sorting.sorted.Given as goal

abbrev pub invariant-loop-member : goal.invariant-loop-member
invariant-loop-member l = put_all (map (λ m. (m.0, view m.1)) (drop l.member-index l.members)) (sorted_view l.found.entries) ≡ members_view l.members
