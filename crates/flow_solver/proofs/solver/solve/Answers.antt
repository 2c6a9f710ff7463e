use Rattle.std.proofs.Common.{◌<◌, sym, subst, ◌∙◌}
use Rattle.flow_solver.proofs.Solved.{begun, is_greatest, taken}
use Rattle.flow_solver.proofs.solver.solve.Goals as goal

pub loop-node-init : goal.loop-node-init
loop-node-init g c =
    begun (g.F.Facts.framework c.args.facts.now) (g.met.F.Facts.monotone c.args.facts.now) c.args.graph.now c.in_ok-sets.sets.items c.in_ok-queue.queue
    (c.in_ok-sets.ensures.many ∙ c.len.ensures.many) (λ n at. c.in_ok-sets.ensures.starts n (subst (λ k. n < k) (sym c.len.ensures.many) at))
    c.in_ok-queue.ensures.many c.in_ok-queue.ensures.queue c.in_ok-queue.ensures.waits

pub leave-requires-clause-leaving : goal.leave-requires-clause-leaving
leave-requires-clause-leaving g c =
    taken (g.F.Facts.framework c.args.facts.now) (g.met.F.Facts.monotone c.args.facts.now) c.args.graph.now c.loop-node.sets.items c.loop-node.queue c.next.new.self c.in-Some.node
    c.in-Some.ensures.none c.loop-node.invariant c.in-Some.ensures.queue c.in-Some.ensures.waits

pub returns : goal.returns
returns g c = record {
  solution = is_greatest (g.F.Facts.framework c.args.facts.now) (g.met.F.Facts.monotone c.args.facts.now) c.args.graph.now c.loop-node.sets.items c.loop-node.queue
      c.loop-node.invariant c.in_default.ensures.none;
  safe = c.loop-node.invariant.above.safe;
}
