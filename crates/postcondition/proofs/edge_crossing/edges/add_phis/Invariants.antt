use Rattle.std.proofs.Common.{◌≡◌, drop}
use Rattle.erhl_assert.specs.Course.{within}
use Rattle.erhl_assert.specs.Growth.{adds_all}
use Rattle.erhl_assert.specs.Edges.{phi_facts}
use Rattle.postcondition.proofs.edge_crossing.edges.add_phis.Given as goal

abbrev pub invariant-loop-phi : goal.invariant-loop-phi
invariant-loop-phi g l =
    within (adds_all l.side (phi_facts l.from (drop l.phi-index l.phis)) l.after) ≡ within (adds_all l.side (phi_facts l.from l.phis) l.initial.after)
