use Rattle.std.proofs.Common.{refl}
use Rattle.crell_program.specs.CrellAnswers.Answer.{usage}
use Rattle.crell_program.specs.Delivery.{sink_seen}
use Rattle.crell_program.proofs.Inner.{delivered_as}
use Rattle.crell_program.proofs.program.tell_usage.Goals as goal

pub returns-clause-delivered : goal.returns-clause-delivered
returns-clause-delivered g c =
    let out = sink_seen g.O.Sink.written g.O.Sink.room_left g.O.Sink.faults c.args.out.now c.deliver.new.out in
    let err = sink_seen g.E.Sink.written g.E.Sink.room_left g.E.Sink.faults c.args.err.now c.deliver.new.err in
    delivered_as (usage c.args.text.now) _ _ out err c.deliver.result refl c.as_bytes.ensures.value c.deliver.ensures.delivered
