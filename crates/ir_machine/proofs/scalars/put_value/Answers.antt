use Rattle.ir_machine.proofs.Laying.{value_next}
use Rattle.ir_machine.proofs.scalars.put_value.Goals as goal

pub loop-preserved : goal.loop-preserved
loop-preserved c =
    value_next c.args.value c.args.scalars.now c.loop.index c.loop.values.items c.push.new.self.items _ c.loop-test.true c.in_ok-push.ensures.items c.loop.invariant
