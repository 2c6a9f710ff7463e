use Rattle.std.proofs.Common.{arith}
use Rattle.fault_walk.proofs.ItemCases.{all_taken, more_taken}
use Rattle.fault_walk.proofs.items.note_twice.Goals as goal

pub loop-listed-preserved : goal.loop-listed-preserved
loop-listed-preserved c =
    more_taken c.args.pick c.args.list.now c.loop-listed.listed-index c.listed-item.result _ _ _ _ _ c.loop-listed-test.true c.listed-item.is c.in_ok-take.ensures.names
    c.in_ok-take.ensures.told c.loop-listed.invariant

pub returns : goal.returns
returns c = all_taken c.args.pick c.args.list.now c.loop-listed.listed-index c.loop-listed.taken c.args.told.now c.loop-listed.told (omega arith) c.loop-listed.invariant
