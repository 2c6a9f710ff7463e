use Rattle.erhl_assert.specs.Course.{within}
use Rattle.fact_sets.specs.ErhlSides.Beside.{adds_all_beside}
use Rattle.postcondition.specs.EdgeCrossing.Crossing.{copies}
use Rattle.postcondition.proofs.EdgeCrossing.Copying.{copied_on}
use Rattle.postcondition.proofs.edge_crossing.edges.add_copies.Goals as goal

pub loop-k-preserved : goal.loop-k-preserved
loop-k-preserved g c =
    let fs = g.S.FactSet.contents c.args.facts.now in
    copied_on c.loop-k.k fs c.args.others c.args.side c.loop-k.after c.add_copy_at.new.after
    (within (adds_all_beside c.args.others c.args.side (copies fs) c.args.after.now)) c.loop-k.invariant c.in_ok-add_copy_at.ensures
