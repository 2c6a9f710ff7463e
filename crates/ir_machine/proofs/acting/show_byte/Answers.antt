use Rattle.std.proofs.Common.{sym, subst}
use Rattle.ir_core.specs.declared.values.Byte.{Byte}
use Rattle.ir_machine.specs.Acting.{ByteAnswers}
use Rattle.ir_machine.specs.Machine.{show_byte}
use Rattle.ir_machine.specs.Places.{world_in}
use Rattle.ir_machine.proofs.acting.show_byte.Goals as goal

pub returns-in-Undef-clause-answers : goal.returns-in-Undef-clause-answers
returns-in-Undef-clause-answers g c = λ next.
    subst (λ (b : Byte). ByteAnswers c.pick_byte.result (show_byte b (world_in c.args.world.now) next) (g.C.Chooser.script c.args.chooser.now) next (world_in c.args.world.now)
    (g.C.Chooser.script c.pick_byte.new.chooser)) (sym c.in-Undef.is) (c.pick_byte.ensures next)
