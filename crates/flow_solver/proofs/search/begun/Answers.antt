use Rattle.std.proofs.Common.{◌≡◌, ◌∙◌, ℕ, List, [], ◌∷◌, Option, Some, length, set, ap, sym, subst, rules}
use Rattle.flow_solver.proofs.Found.{began, first_step, no_places}
use Rattle.flow_solver.specs.declared.search.Step.{Step}
use Rattle.flow_solver.specs.Searched.{HasSearched}
use Rattle.flow_solver.proofs.search.begun.Goals as goal

pub returns : goal.returns
returns c closed =
    let h = began c.args.graph.now closed (search rules) in
    let places : c.in_ok-places.places.items ≡ no_places (length c.args.graph.now) = c.in_ok-places.ensures.items_if_clones_equal (λ y by. search rules) ∙ ap no_places c.requires.nodes in
    let steps : c.push.new.self.items ≡ first_step c.args.graph.now closed (search rules) ∷ [] = search rules in
    subst (λ (xs : List Step). HasSearched c.args.graph.now closed xs (set c.in_ok-places.places.items 0 (Some 0)) 0 0) (sym steps)
    (subst (λ (ys : List (Option ℕ)). HasSearched c.args.graph.now closed (first_step c.args.graph.now closed (search rules) ∷ []) (set ys 0 (Some 0)) 0 0) (sym places) h)
