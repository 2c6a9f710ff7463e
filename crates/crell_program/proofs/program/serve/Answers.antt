use Rattle.std.proofs.Common.{Some, inl, refl}
use Rattle.crell_program.specs.CommandLine.Words.{shown_request}
use Rattle.crell_program.specs.Delivery.{sink_seen}
use Rattle.crell_program.specs.Due.{shelf_seen}
use Rattle.crell_program.proofs.Inner.{delivered_as, unanswered, zero_of}
use Rattle.crell_program.proofs.program.serve.Goals as goal

pub returns-in-Ok-clause-answered : goal.returns-in-Ok-clause-answered
returns-in-Ok-clause-answered g c =
    let out = sink_seen g.O.Sink.written g.O.Sink.room_left g.O.Sink.faults c.args.out.now c.deliver.new.out in
    let err = sink_seen g.E.Sink.written g.E.Sink.room_left g.E.Sink.faults c.args.err.now c.deliver.new.err in
    let answer = c.in-Ok.answer in
    inl (answer, c.in-Ok.ensures.due, delivered_as answer _ _ out err c.deliver.result c.as_slice.ensures c.as_slice-in-Ok.ensures c.deliver.ensures.delivered)

pub returns-in-Ok-clause-headline : goal.returns-in-Ok-clause-headline
returns-in-Ok-clause-headline g c = λ z.
    let out = sink_seen g.O.Sink.written g.O.Sink.room_left g.O.Sink.faults c.args.out.now c.deliver.new.out in
    let err = sink_seen g.E.Sink.written g.E.Sink.room_left g.E.Sink.faults c.args.err.now c.deliver.new.err in
    let answer = c.in-Ok.answer in
    c.in-Ok.ensures.refines (zero_of answer out err c.deliver.result
    (delivered_as answer _ _ out err c.deliver.result c.as_slice.ensures c.as_slice-in-Ok.ensures c.deliver.ensures.delivered) z)

pub returns-in-Err-clause-answered : goal.returns-in-Err-clause-answered
returns-in-Err-clause-answered g c =
    let shelf = shelf_seen g.S.Shelf.told g.S.Shelf.faults g.S.Shelf.taken c.args.shelf.now c.find_answer.new.shelf in
    let out = sink_seen g.O.Sink.written g.O.Sink.room_left g.O.Sink.faults c.args.out.now c.args.out.now in
    let err = sink_seen g.E.Sink.written g.E.Sink.room_left g.E.Sink.faults c.args.err.now c.args.err.now in
    unanswered _ shelf out err (Some (shown_request c.args.request.now)) (refl, refl) (refl, refl)
