use Rattle.std.proofs.Common.{◌≡◌, ◌+◌, get_or, length, ◌∙◌}
use Rattle.predictive.proofs.Laid.{side_there, not_past}
use Rattle.predictive.proofs.dense.side.Goals as goal

pub returns-in-Some : goal.returns-in-Some
returns-in-Some c = λ d is inside.
    let begins : c.from-begins.result ≡ get_or c.args.starts.now c.args.rule 0 = cc in
    let ends : c.from-ends.result ≡ get_or c.args.starts.now (c.args.rule + 1) 0 = cc in
    c.in-Some.ensures.lookup.0.2 ∙ (side_there d c.args.starts.now c.args.symbols.now is c.args.rule c.from-begins.result c.from-ends.result inside begins ends).2

pub returns-in-None : goal.returns-in-None
returns-in-None c = λ d is inside.
    let begins : c.from-begins.result ≡ get_or c.args.starts.now c.args.rule 0 = cc in
    let ends : c.from-ends.result ≡ get_or c.args.starts.now (c.args.rule + 1) 0 = cc in
    let there = side_there d c.args.starts.now c.args.symbols.now is c.args.rule c.from-begins.result c.from-ends.result inside begins ends in
    absurd (not_past c.from-begins.result c.from-ends.result (length c.args.symbols.now) there.0 there.1 c.in-None.ensures.lookup.0)
