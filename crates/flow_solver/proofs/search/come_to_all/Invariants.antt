use Rattle.std.proofs.Common.{◌≡◌, ◌<◌, length}
use Rattle.flow_solver.specs.Searched.{HasSearched, node_at}
use Rattle.flow_solver.proofs.search.come_to_all.Given as goal

-- it has gone through the turns so far
abbrev pub invariant-loop-next : goal.invariant-loop-next
invariant-loop-next l =
    HasSearched l.graph l.closed l.search.steps.items l.search.places.items l.at l.next-index
    × (node_at l.search.steps.items l.at ≡ node_at l.initial.search.steps.items l.at)
    × (l.at < length l.search.steps.items)
