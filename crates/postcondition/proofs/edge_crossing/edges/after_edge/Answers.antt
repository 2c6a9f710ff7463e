use Rattle.erhl_assert.specs.Edges.{Edge}
use Rattle.postcondition.proofs.EdgeCrossing.Crossing.{known_after}
use Rattle.postcondition.proofs.edge_crossing.edges.after_edge.Goals as goal

pub returns-in-Ok-clause-after : goal.returns-in-Ok-clause-after
returns-in-Ok-clause-after g c =
    let e : Edge = record { from = c.args.edge.now.from.now; source = c.args.edge.now.source.now; target = c.args.edge.now.target.now } in
    known_after e c.args.sides.now c.in-Ok.after c.in-Ok.ensures.ok
