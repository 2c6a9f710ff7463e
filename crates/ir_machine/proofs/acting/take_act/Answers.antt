use Rattle.ir_machine.specs.Places.{world_in}
use Rattle.ir_machine.proofs.Acts.{act_takes}
use Rattle.ir_machine.proofs.acting.take_act.Goals as goal

pub returns-clause-told : goal.returns-clause-told
returns-clause-told g c = λ p ps same.
    act_takes p ps (world_in c.args.world.now) c.choose_act.result (g.C.Chooser.script c.args.chooser.now) (g.C.Chooser.script c.choose_act.new.chooser)
    (world_in c.choose_act.new.world) (c.choose_act.ensures.answers p ps same)
