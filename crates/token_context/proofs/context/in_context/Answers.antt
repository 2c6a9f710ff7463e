use Rattle.token_context.proofs.Steps.{next_opened, next_seen}
use Rattle.token_context.proofs.context.in_context.Goals as goal

pub loop-place-preserved : goal.loop-place-preserved
loop-place-preserved c = record {
  opened = next_opened c.args.kinds.now c.loop-place.place c.loop-place.brackets c.step.new.self c.loop-place-test.true c.loop-place.invariant.opened c.in_ok-step.ensures;
  seen =
      next_seen c.args.kinds.now c.loop-place.place c.loop-place.brackets c.closed.result c.in_ok-reading.reading c.loop-place.context.kinds.items c.loop-place.context.deep.items
      c.push.new.self.kinds.items c.push.new.self.deep.items c.loop-place-test.true c.loop-place.invariant.opened c.closed.ensures c.in_ok-reading.ensures c.in_ok-push.ensures.kinds
      c.in_ok-push.ensures.deep c.loop-place.invariant.seen;
}
