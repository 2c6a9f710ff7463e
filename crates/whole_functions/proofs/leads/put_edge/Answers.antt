use Rattle.std.proofs.Common.{◌≡◌, ◌∙◌, ◌++◌, [], ◌∷◌, ℕ, List, ap, rules}
use Rattle.whole_functions.proofs.Edged.{label_edge, label_place}
use Rattle.whole_functions.proofs.leads.put_edge.Goals as goal

pub returns-in_ok-push-in-Some-clause-rows : goal.returns-in_ok-push-in-Some-clause-rows
returns-in_ok-push-in-Some-clause-rows c known =
    c.in_ok-put_at-in-Some.ensures ∙ label_edge c.args.blocks.now c.in-Some.place c.args.label.now c.in-Some.ensures c.requires c.args.from.now _

pub returns-in_ok-push-in-Some-clause-places : goal.returns-in_ok-push-in-Some-clause-places
returns-in_ok-push-in-Some-clause-places c known =
    let pushed : c.push.new.self ≡ c.args.places.now ++ c.in-Some.place ∷ [] = search rules in
    pushed ∙ ap (λ (ns : List ℕ). c.args.places.now ++ ns) (label_place c.args.blocks.now c.in-Some.place c.args.label.now c.in-Some.ensures c.requires)
