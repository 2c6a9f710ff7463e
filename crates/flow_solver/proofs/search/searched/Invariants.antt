use Rattle.std.proofs.Common.{◌-◌, ◌≤◌, length}
use Rattle.flow_solver.specs.Searched.{HasSearched}
use Rattle.flow_solver.proofs.search.searched.Given as goal

-- it has gone through the steps so far
abbrev pub invariant-loop-at : goal.invariant-loop-at
invariant-loop-at l = HasSearched l.graph l.closed l.search.steps.items l.search.places.items l.at 0 × (l.at ≤ length l.search.steps.items)

abbrev pub decreases-loop-at : goal.decreases-loop-at
decreases-loop-at l = length l.graph - l.at
