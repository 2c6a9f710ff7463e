use Rattle.std.proofs.Common.{◌≡◌, ◌<◌, List, ℕ, length, get_or, sym, ap, subst, ◌∙◌, rules}
use Rattle.std.proofs.lemmas.List.{get_or_read}
use Rattle.flow_solver.specs.declared.search.Step.{Step}
use Rattle.flow_solver.specs.Ways.{IsOpen, led_to}
use Rattle.flow_solver.specs.Searched.{Comes, node_at}
use Rattle.flow_solver.proofs.Searching.{next_by}
use Rattle.flow_solver.proofs.search.come_to_all.Goals as goal

pub loop-next-preserved : goal.loop-next-preserved
loop-next-preserved c =
    let read = get_or_read c.args.search.now.steps.items c.args.at c.index.result.now (search rules) (search rules) (record { node = 0; from = 0 }) in
    let node : node_at c.loop-next.search.steps.items c.args.at ≡ c.index.result.now.node =
    c.loop-next.invariant.1 ∙ sym (ap (λ (s : Step). s.node) read) in
    let items : c.led_to-next-items.result.now ≡ led_to c.args.graph.now (node_at c.loop-next.search.steps.items c.args.at) =
    c.led_to-next-items.ensures ∙ ap (led_to c.args.graph.now) (sym node) in
    let next = next_by c.args.graph.now c.args.closed.now c.loop-next.search.steps.items c.loop-next.search.places.items c.args.at c.loop-next.next-index
    c.loop-next.invariant.0 c.requires.within c.loop-next.invariant.2
    (subst (IsOpen c.args.closed.now) (sym c.loop-next.invariant.1) c.requires.passes)
    (subst (λ (ns : List ℕ). c.loop-next.next-index < length ns) items (search rules))
    c.come.new.search.steps.items c.come.new.search.places.items
    (subst (λ (ns : List ℕ). Comes c.loop-next.search.steps.items c.loop-next.search.places.items (get_or ns c.loop-next.next-index 0) c.args.at c.come.new.search.steps.items c.come.new.search.places.items) items (c.in_ok-come.ensures)) in
    (next.0, next.1 ∙ c.loop-next.invariant.1, next.2)
