use Rattle.std.proofs.Common.{◌≡◌, ◌+◌, drop, filter, length}
use Rattle.postcondition.specs.EdgeCrossing.Crossing.{goes}
use Rattle.postcondition.proofs.edge_crossing.edges.count_gone.Given as goal

abbrev pub invariant-loop-k : goal.invariant-loop-k
invariant-loop-k g l =
    l.gone + length (filter (goes l.phis.0 l.phis.1) (drop l.k (g.S.FactSet.contents l.facts))) ≡ length (filter (goes l.phis.0 l.phis.1) (g.S.FactSet.contents l.facts))
