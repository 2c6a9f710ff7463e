use Rattle.std.proofs.Common.{◌≡◌, ◌||◌, ℕ, List, Bool, drop}
use Rattle.std.specs.List.{list_all}
use Rattle.json_forms.specs.JsonValues.View.{members_view}
use Rattle.json_forms.specs.Forms.{texts, is_one_of, all_keys}
use Rattle.json_forms.proofs.members.each_known.Given as goal

abbrev pub invariant-loop-member : goal.invariant-loop-member
invariant-loop-member l =
    let known : List ℕ → Bool = λ key. is_one_of (texts l.needed) key || is_one_of (texts l.others) key in
    list_all (λ m. known m.0.now) (drop l.member-index l.members) ≡ all_keys known (members_view l.members)
