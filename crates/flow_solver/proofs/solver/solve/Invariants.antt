use Rattle.flow_solver.specs.Solving.{IsSolving, weight}
use Rattle.flow_solver.proofs.solver.solve.Given as goal

abbrev pub invariant-loop-node : goal.invariant-loop-node
invariant-loop-node g l = IsSolving (g.F.Facts.framework l.facts) l.graph l.sets.items l.queue

abbrev pub decreases-loop-node : goal.decreases-loop-node
decreases-loop-node g l = weight (g.F.Facts.framework l.facts) l.sets.items l.queue
