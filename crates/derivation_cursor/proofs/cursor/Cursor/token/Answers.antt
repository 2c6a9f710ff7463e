use Rattle.std.proofs.Common.{arith}
use Rattle.derivation_cursor.proofs.Steps.{takes_rule, takes_token}
use Rattle.derivation_cursor.proofs.cursor.Cursor.token.Goals as goal

pub returns-then-number-lt-FIRST_TOKEN : goal.returns-then-number-lt-FIRST_TOKEN
returns-then-number-lt-FIRST_TOKEN c =
    takes_rule c.args.self.now c.step.new.self c.pass.new.self c.in-Some.number c.in-Some.ensures.same c.in-Some.ensures.step
    c.if-number-lt-FIRST_TOKEN.true c.pass.ensures

pub returns-else-number-lt-FIRST_TOKEN : goal.returns-else-number-lt-FIRST_TOKEN
returns-else-number-lt-FIRST_TOKEN c =
    let past = c.if-number-lt-FIRST_TOKEN.false in
    takes_token c.args.self.now c.step.new.self c.in-Some.number c.token_at.result c.in-Some.ensures.same c.in-Some.ensures.step
    (λ h. omega (arith, h, past)) c.token_at.ensures
