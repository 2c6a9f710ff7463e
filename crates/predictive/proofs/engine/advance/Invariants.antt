use Rattle.predictive.specs.Predictive.{IsFollowed, at_end}
use Rattle.predictive.specs.Frames.{framed}
use Rattle.predictive.specs.Moves.{Leads, wanted}
use Rattle.predictive.proofs.Stacks.{moves_left}
use Rattle.predictive.proofs.engine.advance.Given as goal

abbrev pub invariant-loop-item : goal.invariant-loop-item
invariant-loop-item g l =
    IsFollowed (g.G.Table.sets l.table) (wanted (framed l.top.rest.now l.top.rule l.below)) at_end
    × Leads (g.G.Table.grammar l.table) g.A.Action.begun g.A.Action.shifted g.A.Action.reduced l.ahead (framed l.fn.top.rest.now l.fn.top.rule l.fn.below) (g.A.Action.state l.fn.actions) (framed l.top.rest.now l.top.rule l.below) (g.A.Action.state l.actions)

abbrev pub decreases-loop-item : goal.decreases-loop-item
decreases-loop-item g l = moves_left (g.G.Table.sets l.table) (framed l.top.rest.now l.top.rule l.below)
