use Rattle.std.proofs.Common.{◌≡◌, drop, filter}
use Rattle.erhl_assert.specs.Facts.{with_facts, on_side}
use Rattle.postcondition.specs.EdgeCrossing.Crossing.{stays}
use Rattle.postcondition.proofs.edge_crossing.edges.put_staying.Given as goal

abbrev pub invariant-loop-k : goal.invariant-loop-k
invariant-loop-k g l =
    on_side l.side (with_facts (filter (stays l.phis.0 l.phis.1) (drop l.k (g.S.FactSet.contents l.facts)))) l.after
    ≡ on_side l.side (with_facts (filter (stays l.phis.0 l.phis.1) (g.S.FactSet.contents l.facts))) l.initial.after
