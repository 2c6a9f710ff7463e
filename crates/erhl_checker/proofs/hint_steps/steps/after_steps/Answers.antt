use Rattle.std.proofs.Common.{rules}
use Rattle.erhl_checker.specs.CheckedPair.Asked.{asked}
use Rattle.erhl_checker.proofs.HintSteps.Stepping.{step_stops, step_refuses, step_done}
use Rattle.erhl_checker.proofs.hint_steps.steps.after_steps.Goals as goal

pub returns-in-Some : goal.returns-in-Some
returns-in-Some g c =
    step_refuses (asked _ _ c.args.pair.now) c.args.steps.now c.loop-step.step-index c.loop-step.known _ c.loop-step.invariant c.step-item.result c.loop-step-test.true c.step-item.is
    c.in-Ok.refusal c.after_step.new.known c.in-Ok.ensures c.in-Some.reason c.in-Some.is

pub returns-in-Err : goal.returns-in-Err
returns-in-Err g c = λ l limit.
    let more = c.in-Err.ensures l limit in
    (more.0, step_stops (asked _ _ c.args.pair.now) c.args.steps.now c.loop-step.step-index c.loop-step.known _ c.loop-step.invariant c.step-item.result c.loop-step-test.true c.step-item.is more.1)

pub loop-step-preserved : goal.loop-step-preserved
loop-step-preserved g c =
    step_done (asked _ _ c.args.pair.now) c.args.steps.now c.loop-step.step-index c.loop-step.known _ c.loop-step.invariant c.step-item.result c.loop-step-test.true c.step-item.is
    c.in-Ok.refusal c.after_step.new.known c.in-Ok.ensures (search rules)
