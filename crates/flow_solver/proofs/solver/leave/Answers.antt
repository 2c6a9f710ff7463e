use Rattle.std.proofs.Common.{arith, ◌≡◌, ◌<◌, ℕ, List, length, get_or, sym, subst, ap}
use Rattle.std.proofs.lemmas.List.{get_or_read}
use Rattle.flow_solver.specs.Frameworks.{value_at}
use Rattle.flow_solver.specs.Ways.{led_to}
use Rattle.flow_solver.proofs.Edges.{led_within}
use Rattle.flow_solver.proofs.Solved.{entered}
use Rattle.flow_solver.proofs.solver.leave.Goals as goal

pub transfer-requires : goal.transfer-requires
transfer-requires g c =
    let f = g.F.Facts.framework c.args.facts.now in
    let within : c.args.node < length c.args.sets.now.items = subst (λ k. c.args.node < k) (sym c.requires.leaving.above.many) c.requires.node in
    subst f.IsValue (sym (get_or_read c.args.sets.now.items c.args.node c.index.result.now within c.index.ensures f.top)) (c.requires.leaving.above.value c.args.node)

pub enter-requires-clause-node : goal.enter-requires-clause-node
enter-requires-clause-node g c =
    let ns = c.led_to-next-items.result.now in
    let is : ns ≡ led_to c.args.graph.now c.args.node = c.led_to-next-items.ensures in
    let turn : c.loop-next.next-index < length (led_to c.args.graph.now c.args.node) = subst (λ (xs : List ℕ). c.loop-next.next-index < length xs) is c.loop-next-test.true in
    let to : get_or (led_to c.args.graph.now c.args.node) c.loop-next.next-index 0 < length c.args.graph.now =
    led_within c.args.graph.now c.requires.within c.args.node c.loop-next.next-index c.requires.node turn in
    subst (λ (xs : List ℕ). get_or xs c.loop-next.next-index 0 < length c.loop-next.sets.items) (sym is)
    (subst (λ k. get_or (led_to c.args.graph.now c.args.node) c.loop-next.next-index 0 < k) (sym c.loop-next.invariant.leaving.above.many) to)

pub loop-next-preserved : goal.loop-next-preserved
loop-next-preserved g c =
    let f = g.F.Facts.framework c.args.facts.now in
    let graph = c.args.graph.now in
    let m = c.args.node in
    let t = c.loop-next.next-index in
    let ns = c.led_to-next-items.result.now in
    let is : ns ≡ led_to graph m = c.led_to-next-items.ensures in
    let turn : t < length (led_to graph m) = subst (λ (xs : List ℕ). t < length xs) is c.loop-next-test.true in
    let within : m < length c.args.sets.now.items = subst (λ k. m < k) (sym c.requires.leaving.above.many) c.requires.node in
    let read : c.index.result.now ≡ value_at f c.args.sets.now.items m = get_or_read c.args.sets.now.items m c.index.result.now within c.index.ensures f.top in
    let next : get_or ns t 0 ≡ get_or (led_to graph m) t 0 = ap (λ (xs : List ℕ). get_or xs t 0) is in
    let to : get_or ns t 0 < length graph = subst (λ k. k < length graph) (sym next) (led_within graph c.requires.within m t c.requires.node turn) in
    let left : c.in_ok-left.left ≡ f.transfer m (value_at f c.args.sets.now.items m) = subst (λ u. c.in_ok-left.left ≡ f.transfer m u) read c.in_ok-left.ensures in
    record {
      leaving = entered f (g.met.F.Facts.monotone c.args.facts.now) graph c.loop-next.sets.items c.enter.new.sets.items c.loop-next.queue c.enter.new.queue
          m (get_or ns t 0) t (value_at f c.args.sets.now.items m) c.in_ok-left.left c.requires.node to turn next (c.requires.leaving.above.value m) left
          c.in_ok-enter.ensures c.loop-next.invariant.leaving;
      weight = omega (arith, c.in_ok-enter.ensures.weight, c.loop-next.invariant.weight);
    }
