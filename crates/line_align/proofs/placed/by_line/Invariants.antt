use Rattle.std.proofs.Common.{take}
use Rattle.line_align.specs.Placed.{AreKept}
use Rattle.line_align.proofs.placed.by_line.Given as goal

-- the steps so far are kept
abbrev pub invariant-loop-step : goal.invariant-loop-step
invariant-loop-step l = AreKept l.kept.items l.last (take l.step-index l.steps)
