use Rattle.std.proofs.Common.{◌≡◌, drop, map}
use Rattle.erhl_assert.specs.Course.{within}
use Rattle.erhl_assert.specs.Steps.{after_steps}
use Rattle.erhl_checker.specs.CheckedPair.Asked.{asked}
use Rattle.erhl_checker.proofs.hint_steps.steps.after_steps.Given as goal

-- the steps that are left lead on from what is known to what all lead to
abbrev pub invariant-loop-step : goal.invariant-loop-step
invariant-loop-step g l =
    let w = asked (λ x. (goal.InferRule-dyn g x).called x.1) (λ x. (goal.InferRule-dyn g x).takes x.1) l.pair in
    within (after_steps w (map (λ s. s.now) (drop l.step-index l.steps)) l.known) ≡ within (after_steps w (map (λ s. s.now) l.steps) l.initial.known)
