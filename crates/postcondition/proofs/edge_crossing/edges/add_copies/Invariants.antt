use Rattle.std.proofs.Common.{◌≡◌, drop}
use Rattle.erhl_assert.specs.Course.{within}
use Rattle.fact_sets.specs.ErhlSides.Beside.{adds_all_beside}
use Rattle.postcondition.specs.EdgeCrossing.Crossing.{copies}
use Rattle.postcondition.proofs.edge_crossing.edges.add_copies.Given as goal

abbrev pub invariant-loop-k : goal.invariant-loop-k
invariant-loop-k g l =
    within (adds_all_beside l.others l.side (copies (drop l.k (g.S.FactSet.contents l.facts))) l.after)
    ≡ within (adds_all_beside l.others l.side (copies (g.S.FactSet.contents l.facts)) l.initial.after)
