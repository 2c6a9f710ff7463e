use Rattle.std.proofs.Common.{filter}
use Rattle.erhl_assert.specs.Facts.{with_facts, on_side}
use Rattle.postcondition.specs.EdgeCrossing.Crossing.{stays}
use Rattle.postcondition.proofs.EdgeCrossing.Staying.{more_put}
use Rattle.postcondition.proofs.edge_crossing.edges.put_staying.Goals as goal

pub loop-k-preserved : goal.loop-k-preserved
loop-k-preserved g c =
    let fs = g.S.FactSet.contents c.args.facts.now in
    more_put c.args.phis.now.0 c.args.phis.now.1 c.loop-k.k fs c.args.side c.loop-k.after c.put_at.new.after
    (on_side c.args.side (with_facts (filter (stays c.args.phis.now.0 c.args.phis.now.1) fs)) c.args.after.now) c.in_ok-put_at.ensures c.loop-k.invariant
