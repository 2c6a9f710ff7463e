use Rattle.std.proofs.Common.{◌∙◌, ◌<◌, ◌≤◌, length, arith}
use Rattle.derivation_cursor.proofs.Steps.{one_less, pass_nothing, pass_rule, same_twice}
use Rattle.derivation_cursor.proofs.cursor.Cursor.pass.Goals as goal

pub returns-in-None-step : goal.returns-in-None-step
returns-in-None-step c =
    pass_nothing c.args.self.now c.loop-left.self c.step.new.self c.loop-left.left c.args.rule c.loop-left.invariant.same c.in-None-step.ensures.same
    c.in-None-step.ensures.step.0 c.in-None-step.ensures.step.1 c.loop-left.invariant.passed c.loop-left.invariant.shorter

pub loop-left-preserved-then-number-lt-FIRST_TOKEN : goal.loop-left-preserved-then-number-lt-FIRST_TOKEN
loop-left-preserved-then-number-lt-FIRST_TOKEN c =
    let e = c.in-Some-step.ensures.step in
    let l : length c.step.new.self.numbers.now < length c.loop-left.self.numbers.now =
    one_less c.loop-left.self.numbers.now c.step.new.self.numbers.now c.in-Some-step.number e in
    let small : c.from.result ≤ 255 = grind arith in
    let some : 0 < c.loop-left.left = c.loop-left-test.true in
    let room = c.loop-left.invariant.room in
    let shorter = c.loop-left.invariant.shorter in
    record {
      same = same_twice c.args.self.now c.loop-left.self c.step.new.self c.loop-left.invariant.same c.in-Some-step.ensures.same;
      passed =
          pass_rule c.loop-left.self c.step.new.self c.in-Some-step.number c.loop-left.left c.from.result c.in-Some-step.ensures.same e
          c.if-number-lt-FIRST_TOKEN.true (c.from.ensures ∙ c.arity-then-number-lt-FIRST_TOKEN.ensures) some
          ∙ c.loop-left.invariant.passed;
      room = omega (arith, l, small, some, room);
      shorter = omega (arith, l, shorter);
    }
