use Rattle.ir_machine.specs.Machine.{jump}
use Rattle.ir_machine.specs.State.{scope_of}
use Rattle.ir_machine.specs.Stepping.{at_end_of}
use Rattle.ir_machine.proofs.Branching.{jump_does, no_memory, told_fails, told_made, untold_fails}
use Rattle.ir_machine.proofs.stepping.do_told.Goals as goal

pub returns-in_err-go_to-in-Some-clause-answers : goal.returns-in_err-go_to-in-Some-clause-answers
returns-in_err-go_to-in-Some-clause-answers g c = λ rest world.
    let next = jump (scope_of c.args.here.now.whole.now) (at_end_of c.args.here.now.function.now c.args.here.now.block.now c.args.frame.now) rest world in
    told_fails _ next _ _ c.in-Some.label _ _ (jump_does (scope_of c.args.here.now.whole.now) (at_end_of c.args.here.now.function.now c.args.here.now.block.now c.args.frame.now) rest world c.in-Some.label) (c.in-Some.ensures next)
    (no_memory _ c.from_residual.ensures.0 c.from_residual.ensures.1)

pub returns-in_ok-go_to-in-Some-clause-answers : goal.returns-in_ok-go_to-in-Some-clause-answers
returns-in_ok-go_to-in-Some-clause-answers g c = λ rest world.
    let next = jump (scope_of c.args.here.now.whole.now) (at_end_of c.args.here.now.function.now c.args.here.now.block.now c.args.frame.now) rest world in
    told_made _ next _ _ c.in-Some.label c.in_ok-go_to-in-Some.field-0 _ (c.in-Some.ensures next) (c.in_ok-go_to-in-Some.ensures.does rest world)

pub returns-in-None-clause-answers : goal.returns-in-None-clause-answers
returns-in-None-clause-answers g c = λ rest world.
    let next = jump (scope_of c.args.here.now.whole.now) (at_end_of c.args.here.now.function.now c.args.here.now.block.now c.args.frame.now) rest world in
    untold_fails _ next _ _ _ (c.in-None.ensures next)
