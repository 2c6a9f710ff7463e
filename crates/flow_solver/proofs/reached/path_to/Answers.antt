use Rattle.std.proofs.Common.{◌≡◌, ◌<◌, ◌∙◌, ◌++◌, ◌∷◌, [], ℕ, List, reverse, ap, sym, subst, rules}
use Rattle.std.proofs.lemmas.List.{get_or_read}
use Rattle.flow_solver.specs.declared.search.Step.{Step}
use Rattle.flow_solver.specs.Searched.{node_at}
use Rattle.flow_solver.proofs.Found.{IsBack, back_further, back_whole}
use Rattle.flow_solver.proofs.reached.path_to.Goals as goal

pub loop-at-smaller : goal.loop-at-smaller
loop-at-smaller c =
    let back = back_further c.args.graph.now c.args.closed.now c.args.found.now.steps.items c.args.found.now.places.items c.args.place c.loop-at.at c.loop-at.path.items
    c.loop-at.invariant (λ e. absurd (search rules)) in
    let read = get_or_read c.args.found.now.steps.items c.loop-at.at c.index-in-loop-at.result.now c.loop-at.invariant.here c.index-in-loop-at.ensures (record { node = 0; from = 0 }) in
    subst (λ (s : Step). s.from < c.loop-at.at) (sym read) back.1

pub loop-at-preserved : goal.loop-at-preserved
loop-at-preserved c =
    let back = back_further c.args.graph.now c.args.closed.now c.args.found.now.steps.items c.args.found.now.places.items c.args.place c.loop-at.at c.loop-at.path.items
    c.loop-at.invariant (λ e. absurd (search rules)) in
    let read = get_or_read c.args.found.now.steps.items c.loop-at.at c.index-in-loop-at.result.now c.loop-at.invariant.here c.index-in-loop-at.ensures (record { node = 0; from = 0 }) in
    let node = get_or_read c.args.found.now.steps.items c.loop-at.at c.index.result.now c.loop-at.invariant.here c.index.ensures (record { node = 0; from = 0 }) in
    let items : c.push.new.self.items ≡ c.loop-at.path.items ++ node_at c.args.found.now.steps.items c.loop-at.at ∷ [] =
    c.in_ok-push.ensures.items ∙ ap (λ (s : Step). c.loop-at.path.items ++ s.node ∷ []) node in
    subst (λ (ns : List ℕ). IsBack c.args.graph.now c.args.closed.now c.args.found.now.steps.items c.args.found.now.places.items c.args.place c.index-in-loop-at.result.now.from ns) (sym items)
    (subst (λ (s : Step). IsBack c.args.graph.now c.args.closed.now c.args.found.now.steps.items c.args.found.now.places.items c.args.place s.from (c.loop-at.path.items ++ node_at c.args.found.now.steps.items c.loop-at.at ∷ [])) (sym read) back.0)

pub returns : goal.returns
returns c =
    let zero : c.loop-at.at ≡ 0 = search rules in
    back_whole c.args.graph.now c.args.closed.now c.args.found.now.steps.items c.args.found.now.places.items c.args.place c.loop-at.path.items c.reverse.new.self.items
    (subst (λ k. IsBack c.args.graph.now c.args.closed.now c.args.found.now.steps.items c.args.found.now.places.items c.args.place k c.loop-at.path.items) zero c.loop-at.invariant)
    c.requires.place (c.reverse.ensures.items ∙ ap reverse c.in_ok-push-2.ensures.items)
