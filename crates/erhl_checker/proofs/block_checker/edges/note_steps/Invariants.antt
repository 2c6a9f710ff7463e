use Rattle.std.proofs.Common.{◌≡◌, ◌++◌, map, drop}
use Rattle.erhl_checker.proofs.block_checker.edges.note_steps.Given as goal

abbrev pub invariant-loop-step : goal.invariant-loop-step
invariant-loop-step l = map (λ s. s.now) l.steps ++ drop l.step-index l.more ≡ map (λ s. s.now) l.initial.steps ++ l.more
