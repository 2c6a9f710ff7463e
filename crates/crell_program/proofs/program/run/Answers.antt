use Rattle.std.proofs.Common.{◌≡◌, None, map, refl, string_bytes, subst}
use Rattle.crell_program.specs.declared.command_line.reading.WordsEnd.{WordsEnd}
use Rattle.crell_program.specs.CommandLine.Words.{IfRefused, command_of, shown_request}
use Rattle.crell_program.specs.Delivery.{sink_seen}
use Rattle.crell_program.specs.Due.{shelf_seen}
use Rattle.crell_program.proofs.Inner.{answered_with_usage, answered_for, refinement_for, unanswered, usage_isnt_zero}
use Rattle.crell_program.proofs.program.run.Goals as goal

pub returns-in-Err-Refused-clause-answered : goal.returns-in-Err-Refused-clause-answered
returns-in-Err-Refused-clause-answered g c =
    let shelf = shelf_seen g.S.Shelf.told g.S.Shelf.faults g.S.Shelf.taken c.args.shelf.now c.args.shelf.now in
    let out = sink_seen g.O.Sink.written g.O.Sink.room_left g.O.Sink.faults c.args.out.now c.tell_usage.new.out in
    let err = sink_seen g.E.Sink.written g.E.Sink.room_left g.E.Sink.faults c.args.err.now c.tell_usage.new.err in
    let P : WordsEnd → Type 0 = λ end. IfRefused end (None ≡ command_of (map string_bytes c.args.words.now)) in
    let refused = subst P c.in-Err-Refused.field-0-is c.in-Err-Refused.ensures.refused in
    answered_with_usage _ shelf out err (command_of (map string_bytes c.args.words.now)) _ c.tell_usage.result c.said.ensures refused c.tell_usage.ensures.delivered

pub returns-in-Err-Refused-clause-headline : goal.returns-in-Err-Refused-clause-headline
returns-in-Err-Refused-clause-headline g c = λ z.
    let out = sink_seen g.O.Sink.written g.O.Sink.room_left g.O.Sink.faults c.args.out.now c.tell_usage.new.out in
    let err = sink_seen g.E.Sink.written g.E.Sink.room_left g.E.Sink.faults c.args.err.now c.tell_usage.new.err in
    absurd (usage_isnt_zero out err _ c.tell_usage.result c.tell_usage.ensures.delivered z)

pub returns-in-Ok-clause-answered : goal.returns-in-Ok-clause-answered
returns-in-Ok-clause-answered g c =
    let shelf = shelf_seen g.S.Shelf.told g.S.Shelf.faults g.S.Shelf.taken c.args.shelf.now c.serve.new.shelf in
    let out = sink_seen g.O.Sink.written g.O.Sink.room_left g.O.Sink.faults c.args.out.now c.serve.new.out in
    let err = sink_seen g.E.Sink.written g.E.Sink.room_left g.E.Sink.faults c.args.err.now c.serve.new.err in
    answered_for _ shelf out err (shown_request c.in-Ok.request) (command_of (map string_bytes c.args.words.now)) c.serve.result
    c.in-Ok.ensures.named c.serve.ensures.answered

pub returns-in-Ok-clause-headline : goal.returns-in-Ok-clause-headline
returns-in-Ok-clause-headline g c =
    refinement_for (g.S.Shelf.told c.args.shelf.now) (shown_request c.in-Ok.request) (command_of (map string_bytes c.args.words.now)) c.serve.result
    c.in-Ok.ensures.named c.serve.ensures.headline

pub returns-in-Err-Memory-clause-answered : goal.returns-in-Err-Memory-clause-answered
returns-in-Err-Memory-clause-answered g c =
    let shelf = shelf_seen g.S.Shelf.told g.S.Shelf.faults g.S.Shelf.taken c.args.shelf.now c.args.shelf.now in
    let out = sink_seen g.O.Sink.written g.O.Sink.room_left g.O.Sink.faults c.args.out.now c.args.out.now in
    let err = sink_seen g.E.Sink.written g.E.Sink.room_left g.E.Sink.faults c.args.err.now c.args.err.now in
    unanswered _ shelf out err (command_of (map string_bytes c.args.words.now)) (refl, refl) (refl, refl)
