use Rattle.std.proofs.Common.{◌≡◌, ◌+◌, ◌*◌, arith, sym, get_or}
use Rattle.predictive.proofs.Laid.{none_chosen, rule_of_none, rule_of_code}
use Rattle.predictive.proofs.dense.choice.Goals as goal

pub returns-then-ahead-width : goal.returns-then-ahead-width
returns-then-ahead-width c = λ d dense inside. sym (none_chosen d c.args.width c.args.non c.args.ahead c.args.choices.now dense (omega arith))

pub returns-in-0 : goal.returns-in-0
returns-in-0 c = λ d dense inside.
    let e : c.number_at.result ≡ get_or c.args.choices.now (c.args.non * c.args.width + c.args.ahead) 0 = cc in
    rule_of_none d c.args.width c.args.non c.args.ahead c.number_at.result c.args.choices.now dense inside (omega arith) e c.in-0.is

pub returns-in_default : goal.returns-in_default
returns-in_default c = λ d dense inside.
    let e : c.number_at.result ≡ get_or c.args.choices.now (c.args.non * c.args.width + c.args.ahead) 0 = cc in
    rule_of_code d c.args.width c.args.non c.args.ahead c.number_at.result c.args.choices.now dense inside (omega arith) e (omega arith)
