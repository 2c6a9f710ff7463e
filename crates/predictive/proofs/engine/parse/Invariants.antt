use Rattle.std.proofs.Common.{take}
use Rattle.predictive.specs.Frames.{framed}
use Rattle.predictive.proofs.Holding.{Holds}
use Rattle.predictive.proofs.engine.parse.Given as goal

abbrev pub invariant-loop-place : goal.invariant-loop-place
invariant-loop-place g l =
    Holds (g.G.Table.grammar l.table) (g.G.Table.sets l.table) g.A.Action.begun g.A.Action.shifted g.A.Action.reduced l.start (g.A.Action.state l.fn.actions) (take l.place l.kinds) (framed l.top.rest.now l.top.rule l.below) (g.A.Action.state l.actions)
