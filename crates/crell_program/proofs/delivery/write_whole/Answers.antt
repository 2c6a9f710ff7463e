use Rattle.std.proofs.Common.{arith, rules}
use Rattle.std.proofs.lemmas.List.{length-drop}
use Rattle.crell_program.proofs.Writing.{wrote_more, some_in_rest, rest_from, risen_after, stopped, took_none, room_after, no_room}
use Rattle.crell_program.proofs.delivery.write_whole.Goals as goal

pub returns-then-count-eq0-clause-part : goal.returns-then-count-eq0-clause-part
returns-then-count-eq0-clause-part g c = λ _.
    let text = c.args.text.now in
    let done = c.loop-done.done in
    let old = g.K.Sink.written c.args.sink.now in
    let now = g.K.Sink.written c.loop-done.sink in
    let after = g.K.Sink.written c.put.new.self in
    let none = c.if-count-eq0.true in (
      risen_after _ _ _ c.loop-done.invariant.counted
          (c.in-Ok.ensures.none_taken none (some_in_rest text done c.loop-done-test.true)),
      no_room text _ _ _ _ done c.loop-done.invariant.roomy
          (λ h. let taken = (c.in-Ok.ensures.roomy (some_in_rest text done c.loop-done-test.true) h).0 in omega arith),
      stopped old now after text done c.loop-done-test.true c.loop-done.invariant.appended_so_far
          (took_none now after (rest_from done text) _ none c.in-Ok.ensures.appends),
    )

pub loop-done-preserved : goal.loop-done-preserved
loop-done-preserved g c = record {
  within = omega (arith, length-drop c.loop-done.done c.args.text.now, c.in-Ok.ensures.within);
  counted = omega (arith, c.put.ensures.faults, c.loop-done.invariant.counted);
  appended_so_far = wrote_more (g.K.Sink.written c.args.sink.now) (g.K.Sink.written c.loop-done.sink) (g.K.Sink.written c.put.new.self)
      c.args.text.now c.loop-done.done c.in-Ok.count c.loop-done.invariant.appended_so_far c.in-Ok.ensures.appends;
  roomy = room_after c.args.text.now _ _ _ _ _ _ c.loop-done.done c.in-Ok.count c.loop-done.invariant.roomy c.loop-done.invariant.within
      (c.in-Ok.ensures.roomy (some_in_rest c.args.text.now c.loop-done.done c.loop-done-test.true));
}

pub returns-in-Err-clause-part : goal.returns-in-Err-clause-part
returns-in-Err-clause-part g c = λ _. (
  risen_after _ _ _ c.loop-done.invariant.counted c.in-Err.ensures.failed,
  no_room c.args.text.now _ _ _ _ c.loop-done.done c.loop-done.invariant.roomy
      (c.in-Err.ensures.roomy (some_in_rest c.args.text.now c.loop-done.done c.loop-done-test.true)),
  stopped (g.K.Sink.written c.args.sink.now) (g.K.Sink.written c.loop-done.sink) (g.K.Sink.written c.put.new.self)
      c.args.text.now c.loop-done.done c.loop-done-test.true c.loop-done.invariant.appended_so_far c.in-Err.ensures.nothing,
)

pub returns-in-Err-clause-whole : goal.returns-in-Err-clause-whole
returns-in-Err-clause-whole g c = search rules
