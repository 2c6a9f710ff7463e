use Rattle.std.proofs.Common.{refl}
use Rattle.std.specs.declared.alloc.AllocError.{AllocError}
use Rattle.ir_machine.specs.Places.{world_in}
use Rattle.ir_machine.specs.Stepping.{behind_line}
use Rattle.ir_machine.proofs.Behind.{alloca_does, alloca_done, calm_does, calm_done, line_fails, line_made, store_does, store_done}
use Rattle.ir_machine.proofs.Branching.{no_memory}
use Rattle.ir_machine.proofs.stepping.do_line.Goals as goal

pub returns-in_err-do_calm-in-Calm-clause-answers : goal.returns-in_err-do_calm-in-Calm-clause-answers
returns-in_err-do_calm-in-Calm-clause-answers g c = λ rest on at.
    line_fails c.args.here.now.whole.now _ _ (behind_line c.args.here.now.function.now c.args.here.now.block.now c.args.frame.now) rest (world_in c.args.state.now.world) _ _ c.in-Calm.is _ (calm_done c.args.here.now.whole.now (behind_line c.args.here.now.function.now c.args.here.now.block.now c.args.frame.now) rest (world_in c.args.state.now.world) c.in-Calm.calm) (no_memory _ c.from_residual.ensures.0 c.from_residual.ensures.1)

pub returns-in_ok-do_calm-in-Calm-clause-answers : goal.returns-in_ok-do_calm-in-Calm-clause-answers
returns-in_ok-do_calm-in-Calm-clause-answers g c = λ rest on at.
    line_made c.args.here.now.whole.now _ _ (behind_line c.args.here.now.function.now c.args.here.now.block.now c.args.frame.now) rest (world_in c.args.state.now.world) _ _ c.in-Calm.is {E = AllocError} c.in_ok-do_calm-in-Calm.field-0
    (calm_does c.args.here.now.whole.now c.args.here.now.function.now c.args.here.now.block.now c.args.frame.now c.args.state.now rest on c.do_calm.new.frame c.args.state.now refl refl {E = AllocError} c.in-Calm.calm c.in_ok-do_calm-in-Calm.field-0 c.in_ok-do_calm-in-Calm.ensures.done)

pub returns-in_err-do_alloca-in-Alloca-clause-answers : goal.returns-in_err-do_alloca-in-Alloca-clause-answers
returns-in_err-do_alloca-in-Alloca-clause-answers g c = λ rest on at.
    line_fails c.args.here.now.whole.now _ _ (behind_line c.args.here.now.function.now c.args.here.now.block.now c.args.frame.now) rest (world_in c.args.state.now.world) _ _ c.in-Alloca.is _ (alloca_done c.args.here.now.whole.now (behind_line c.args.here.now.function.now c.args.here.now.block.now c.args.frame.now) rest (world_in c.args.state.now.world) c.in-Alloca.alloca) (no_memory _ c.from_residual-in_err-do_alloca-in-Alloca.ensures.0 c.from_residual-in_err-do_alloca-in-Alloca.ensures.1)

pub returns-in_ok-do_alloca-in-Alloca-clause-answers : goal.returns-in_ok-do_alloca-in-Alloca-clause-answers
returns-in_ok-do_alloca-in-Alloca-clause-answers g c = λ rest on at.
    line_made c.args.here.now.whole.now _ _ (behind_line c.args.here.now.function.now c.args.here.now.block.now c.args.frame.now) rest (world_in c.args.state.now.world) _ _ c.in-Alloca.is {E = AllocError} c.in_ok-do_alloca-in-Alloca.field-0
    (alloca_does c.args.here.now.whole.now c.args.here.now.function.now c.args.here.now.block.now c.args.frame.now c.args.state.now rest on c.do_alloca.new.frame (record c.args.state.now { world = c.do_alloca.new.world }) refl refl {E = AllocError} c.in-Alloca.alloca c.in_ok-do_alloca-in-Alloca.field-0 c.in_ok-do_alloca-in-Alloca.ensures.done)

pub returns-in_err-do_store-in-Store-clause-answers : goal.returns-in_err-do_store-in-Store-clause-answers
returns-in_err-do_store-in-Store-clause-answers g c = λ rest on at.
    line_fails c.args.here.now.whole.now _ _ (behind_line c.args.here.now.function.now c.args.here.now.block.now c.args.frame.now) rest (world_in c.args.state.now.world) _ _ c.in-Store.is _ (store_done c.args.here.now.whole.now (behind_line c.args.here.now.function.now c.args.here.now.block.now c.args.frame.now) rest (world_in c.args.state.now.world) c.in-Store.store) (no_memory _ c.from_residual-in_err-do_store-in-Store.ensures.0 c.from_residual-in_err-do_store-in-Store.ensures.1)

pub returns-in_ok-do_store-in-Store-clause-answers : goal.returns-in_ok-do_store-in-Store-clause-answers
returns-in_ok-do_store-in-Store-clause-answers g c = λ rest on at.
    line_made c.args.here.now.whole.now _ _ (behind_line c.args.here.now.function.now c.args.here.now.block.now c.args.frame.now) rest (world_in c.args.state.now.world) _ _ c.in-Store.is {E = AllocError} c.in_ok-do_store-in-Store.field-0
    (store_does c.args.here.now.whole.now c.args.here.now.function.now c.args.here.now.block.now c.args.frame.now c.args.state.now rest on c.do_store.new.frame (record c.args.state.now { world = c.do_store.new.world }) refl refl {E = AllocError} c.in-Store.store c.in_ok-do_store-in-Store.field-0 c.in_ok-do_store-in-Store.ensures.done)
