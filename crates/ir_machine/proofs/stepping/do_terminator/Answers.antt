use Rattle.ir_machine.specs.Machine.{case_of, side_of, without_own}
use Rattle.ir_machine.specs.Places.{world_in}
use Rattle.ir_machine.specs.State.{scope_of}
use Rattle.ir_machine.specs.Stepping.{at_end_of}
use Rattle.ir_machine.proofs.Branching.{condition_answers, jump_does, no_memory, switch_answers, term_fails, term_is, term_made}
use Rattle.ir_machine.proofs.Resting.{moved_answers, void_done}
use Rattle.ir_machine.proofs.stepping.do_terminator.Goals as goal

pub returns-in-Ret-clause-answers : goal.returns-in-Ret-clause-answers
returns-in-Ret-clause-answers g c = λ rest on. term_is (scope_of c.args.here.now.whole.now) _ _ (at_end_of c.args.here.now.function.now c.args.here.now.block.now c.args.frame.now) rest (world_in c.args.state.now.world) _ _ _ _ c.in-Ret.is (c.do_return.ensures.answers rest on.runs on.below)

pub returns-in_err-do_void_return-in-RetVoid-clause-answers : goal.returns-in_err-do_void_return-in-RetVoid-clause-answers
returns-in_err-do_void_return-in-RetVoid-clause-answers g c = λ rest on.
    term_fails (scope_of c.args.here.now.whole.now) _ _ (at_end_of c.args.here.now.function.now c.args.here.now.block.now c.args.frame.now) rest (world_in c.args.state.now.world) _ _ _ c.in-RetVoid.is (void_done rest (without_own c.args.frame.now.own.items (world_in c.args.state.now.world))) (no_memory _ c.from_residual.ensures.0 c.from_residual.ensures.1)

pub returns-in_ok-do_void_return-in-RetVoid-clause-answers : goal.returns-in_ok-do_void_return-in-RetVoid-clause-answers
returns-in_ok-do_void_return-in-RetVoid-clause-answers g c = λ rest on.
    term_made (scope_of c.args.here.now.whole.now) _ _ (at_end_of c.args.here.now.function.now c.args.here.now.block.now c.args.frame.now) rest (world_in c.args.state.now.world) _ _ c.in_ok-do_void_return-in-RetVoid.field-0 c.in-RetVoid.is (c.in_ok-do_void_return-in-RetVoid.ensures.does rest on.runs on.below)

pub returns-in_err-go_to-in-Br-clause-answers : goal.returns-in_err-go_to-in-Br-clause-answers
returns-in_err-go_to-in-Br-clause-answers g c = λ rest on.
    term_fails (scope_of c.args.here.now.whole.now) _ _ (at_end_of c.args.here.now.function.now c.args.here.now.block.now c.args.frame.now) rest (world_in c.args.state.now.world) _ _ _ c.in-Br.is (jump_does (scope_of c.args.here.now.whole.now) (at_end_of c.args.here.now.function.now c.args.here.now.block.now c.args.frame.now) rest (world_in c.args.state.now.world) c.in-Br.label) (no_memory _ c.from_residual-in_err-go_to-in-Br.ensures.0 c.from_residual-in_err-go_to-in-Br.ensures.1)

pub returns-in_ok-go_to-in-Br-clause-answers : goal.returns-in_ok-go_to-in-Br-clause-answers
returns-in_ok-go_to-in-Br-clause-answers g c = λ rest on. moved_answers c.args.here.now.whole.now c.args.here.now.function.now c.args.here.now.block.now c.args.frame.now c.args.state.now rest on c.go_to.new.frame c.go_to.ensures.function _ _ _ _
    (term_made (scope_of c.args.here.now.whole.now) _ _ (at_end_of c.args.here.now.function.now c.args.here.now.block.now c.args.frame.now) rest (world_in c.args.state.now.world) _ _ c.in_ok-go_to-in-Br.field-0 c.in-Br.is (c.in_ok-go_to-in-Br.ensures.does rest (world_in c.args.state.now.world)))

pub returns-in-CondBr-clause-answers : goal.returns-in-CondBr-clause-answers
returns-in-CondBr-clause-answers g c = λ rest on. moved_answers c.args.here.now.whole.now c.args.here.now.function.now c.args.here.now.block.now c.args.frame.now c.args.state.now rest on c.do_branch.new.frame c.do_branch.ensures.function _ _ _ _
    (condition_answers (scope_of c.args.here.now.whole.now) (at_end_of c.args.here.now.function.now c.args.here.now.block.now c.args.frame.now) rest (world_in c.args.state.now.world) c.operand_value-value.result _ _ _ _ _ c.in-CondBr.branch c.in-CondBr.is c.operand_value-value.ensures.value
    (c.do_branch.ensures.answers (side_of c.in-CondBr.branch.on_true c.in-CondBr.branch.on_false) c.side_of.ensures rest (world_in c.args.state.now.world)))

pub returns-in-Switch-clause-answers : goal.returns-in-Switch-clause-answers
returns-in-Switch-clause-answers g c = λ rest on. moved_answers c.args.here.now.whole.now c.args.here.now.function.now c.args.here.now.block.now c.args.frame.now c.args.state.now rest on c.do_branch-in-Switch.new.frame c.do_branch-in-Switch.ensures.function _ _ _ _
    (switch_answers (scope_of c.args.here.now.whole.now) (at_end_of c.args.here.now.function.now c.args.here.now.block.now c.args.frame.now) rest (world_in c.args.state.now.world) c.operand_value-value-in-Switch.result _ _ _ _ _ c.in-Switch.switch c.in-Switch.is c.operand_value-value-in-Switch.ensures.value
    (c.do_branch-in-Switch.ensures.answers (case_of c.in-Switch.switch.value.ty c.in-Switch.switch.default c.in-Switch.switch.cases) c.case_of.ensures rest (world_in c.args.state.now.world)))
