use Rattle.std.proofs.Common.{refl}
use Rattle.ir_machine.proofs.Steps.{goes_back, put_back}
use Rattle.ir_machine.proofs.stepping.go_back.Goals as goal

pub returns-in-Ok-clause-does : goal.returns-in-Ok-clause-does
returns-in-Ok-clause-does c = λ p rest runs waits.
    goes_back c.args.«module».now c.args.frame.now c.args.state.now (record c.args.state.now { below = c.pop.new.self; world = record c.args.state.now.world { blocks = c.end_own.new.blocks } }) c.in-Some.caller c.resume.new.caller p rest c.args.kind c.args.value _
    runs waits c.in-Some.ensures.items (c.in-Ok.ensures.goes p) (refl) (rw (c.end_own.ensures, c.deref.ensures.value) refl) c.in-Ok.ensures.items refl

pub returns-in-Ok-push-clause-same : goal.returns-in-Ok-push-clause-same
returns-in-Ok-push-clause-same c =
    put_back c.args.«module».now c.args.frame.now c.args.state.now (record c.args.state.now { below = c.push.new.self }) c.pop.new.self.items c.in-Some.caller c.resume.new.caller
    c.in-Some.ensures.items c.in-Ok-push.ensures.items c.in-Err.ensures.same refl refl
