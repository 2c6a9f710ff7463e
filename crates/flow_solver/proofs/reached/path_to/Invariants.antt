use Rattle.flow_solver.proofs.Found.{IsBack}
use Rattle.flow_solver.proofs.reached.path_to.Given as goal

-- the nodes so far stand behind those of the way to this step
abbrev pub invariant-loop-at : goal.invariant-loop-at
invariant-loop-at l = IsBack l.graph l.closed l.found.steps.items l.found.places.items l.place l.at l.path.items

abbrev pub decreases-loop-at : goal.decreases-loop-at
decreases-loop-at l = l.at
