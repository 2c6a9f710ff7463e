use Rattle.std.proofs.Common.{◌≤◌}
use Rattle.flow_solver.specs.Frameworks.{value_at}
use Rattle.flow_solver.specs.Solving.{IsLeaving, weight}
use Rattle.flow_solver.proofs.solver.leave.Given as goal

-- it has entered those so far
abbrev pub invariant-loop-next : goal.invariant-loop-next
invariant-loop-next g l =
    let f = g.F.Facts.framework l.facts in
    record {
      leaving : IsLeaving f l.graph l.node (value_at f l.initial.sets.items l.node) l.sets.items l.queue l.next-index;
      weight : weight f l.sets.items l.queue ≤ weight f l.initial.sets.items l.initial.queue;
    }
