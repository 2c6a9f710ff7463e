use Rattle.std.proofs.Common.{◌≡◌, ◌+◌, ◌*◌, get_or, ap, sym, arith}
use Rattle.module_grammar.specs.Sets.{listing}
use Rattle.module_derivations.proofs.parser_tables.tables.TokenGrammarTable.choose.Goals as goal
use Rattle.predictive.proofs.Laid.{none_chosen, rule_of_code, rule_of_none}

pub returns-then-ahead-ge76 : goal.returns-then-ahead-ge76
returns-then-ahead-ge76 c = sym (none_chosen listing 76 c.args.non c.args.ahead c.choices-choices.result.now c.choices-choices.ensures (omega arith))

pub returns-in-0 : goal.returns-in-0
returns-in-0 c =
    let at : c.from.result * 76 + c.from-2.result ≡ c.args.non * 76 + c.args.ahead = omega arith in
    rule_of_none listing 76 c.args.non c.args.ahead (get_or c.choices-choices.result.now (c.from.result * 76 + c.from-2.result) 0) c.choices-choices.result.now c.choices-choices.ensures c.requires
    (omega arith) (ap (λ i. get_or c.choices-choices.result.now i 0) at) c.in-0.is

pub returns-in_default : goal.returns-in_default
returns-in_default c =
    let at : c.from.result * 76 + c.from-2.result ≡ c.args.non * 76 + c.args.ahead = omega arith in
    rule_of_code listing 76 c.args.non c.args.ahead (get_or c.choices-choices.result.now (c.from.result * 76 + c.from-2.result) 0) c.choices-choices.result.now c.choices-choices.ensures c.requires
    (omega arith) (ap (λ i. get_or c.choices-choices.result.now i 0) at) (omega (arith, c.in_default))
