use Rattle.ir_machine.specs.Machine.{call_step}
use Rattle.ir_machine.specs.Places.{world_in}
use Rattle.ir_machine.specs.Stepping.{behind_line}
use Rattle.ir_machine.proofs.Branching.{fails_answers, no_memory}
use Rattle.ir_machine.proofs.Entering.{entered_answers, function_at, own_does}
use Rattle.ir_machine.proofs.calling.do_call.Goals as goal

pub returns-in_err-enter-in-Some-clause-answers : goal.returns-in_err-enter-in-Some-clause-answers
returns-in_err-enter-in-Some-clause-answers g c = λ rest at.
    let named = function_at c.args.here.now.whole.now.functions c.args.call.now.callee c.in-Some.at (rw c.as_slice.ensures at c.in-Some.ensures) in
    fails_answers (call_step c.args.here.now.whole.now c.args.call.now (behind_line c.args.here.now.function.now c.args.here.now.block.now c.args.frame.now) rest (world_in c.args.state.now.world)) _ _ _ (own_does c.args.here.now.whole.now c.args.call.now (behind_line c.args.here.now.function.now c.args.here.now.block.now c.args.frame.now) rest (world_in c.args.state.now.world) named.0 named.1) (no_memory _ c.from_residual.ensures.0 c.from_residual.ensures.1)

pub returns-in_ok-enter-in-Some-clause-answers : goal.returns-in_ok-enter-in-Some-clause-answers
returns-in_ok-enter-in-Some-clause-answers g c = λ rest at.
    let named = function_at c.args.here.now.whole.now.functions c.args.call.now.callee c.in-Some.at (rw c.as_slice.ensures at c.in-Some.ensures) in
    entered_answers c.args.here.now.whole.now c.args.call.now (behind_line c.args.here.now.function.now c.args.here.now.block.now c.args.frame.now) rest (world_in c.args.state.now.world) named.0 _ _ _ named.1 (c.in_ok-enter-in-Some.ensures.does named.0 rest named.2 at)
