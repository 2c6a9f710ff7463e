use Rattle.std.proofs.Common.{◌≤◌, ◌+◌, filter, length, arith}
use Rattle.postcondition.specs.EdgeCrossing.Crossing.{goes}
use Rattle.postcondition.proofs.EdgeCrossing.Staying.{gone_on, gone_within, no_more}
use Rattle.postcondition.proofs.edge_crossing.edges.count_gone.Goals as goal

pub overflow_add-gone : goal.overflow_add-gone
overflow_add-gone g c =
    let fs = g.S.FactSet.contents c.args.facts.now in
    let some : c.loop-k.gone + c.gone_at-gone.result ≤ length (filter (goes c.args.phis.now.0 c.args.phis.now.1) fs) =
    gone_within c.args.phis.now.0 c.args.phis.now.1 c.loop-k.k fs c.loop-k.gone c.gone_at-gone.result (length (filter (goes c.args.phis.now.0 c.args.phis.now.1) fs)) c.loop-k.invariant c.gone_at-gone.ensures in
    let all : length (filter (goes c.args.phis.now.0 c.args.phis.now.1) fs) ≤ length fs = no_more (goes c.args.phis.now.0 c.args.phis.now.1) fs in
    omega (arith, some, all, c.len-k-end.ensures, c.len-k-end.type_inv)

pub loop-k-preserved : goal.loop-k-preserved
loop-k-preserved g c =
    let fs = g.S.FactSet.contents c.args.facts.now in
    gone_on c.args.phis.now.0 c.args.phis.now.1 c.loop-k.k fs c.loop-k.gone c.gone_at-gone.result (length (filter (goes c.args.phis.now.0 c.args.phis.now.1) fs)) c.loop-k.invariant c.gone_at-gone.ensures
