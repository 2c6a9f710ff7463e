use Rattle.fault_walk.proofs.ItemCases.{more_due, more_over}
use Rattle.fault_walk.proofs.items.note_dues.Goals as goal

pub loop-listed-preserved : goal.loop-listed-preserved
loop-listed-preserved c = record {
  told =
      more_due c.args.pick c.args.list.now c.loop-listed.listed-index c.listed-item.result _ _ _ _ _ c.loop-listed-test.true c.listed-item.is c.in_ok-next.ensures.due
      c.in_ok-next.ensures.told c.loop-listed.invariant.told;
  due =
      more_over c.args.pick c.args.list.now c.loop-listed.listed-index c.listed-item.result _ _ _ c.loop-listed-test.true c.listed-item.is c.in_ok-next.ensures.due
      c.loop-listed.invariant.due;
}
