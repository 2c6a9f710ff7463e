use Rattle.std.proofs.Common.{sym, ◌∙◌, refl}
use Rattle.token_context.proofs.NameSurroundings.Reading.{in_order, in_tokens, no_types, types_marked, types_unmarked}
use Rattle.token_context.proofs.name_surroundings.around.types_before.Goals as goal

pub returns-in_default : goal.returns-in_default
returns-in_default c =
    no_types c.args.text.now c.args.tokens.now c.args.kinds.now c.requires.text c.args.place _ c.args.closed c.requires.place refl c.requires.closed
    (sym c.pair_if.ensures ∙ c.in_default.is)

pub between-tokens-requires-clause-order : goal.between-tokens-requires-clause-order
between-tokens-requires-clause-order c =
    in_order c.args.text.now c.args.tokens.now c.args.kinds.now c.requires.text c.args.place _ c.args.closed c.requires.place refl c.requires.closed 25 1 c.in-Some.pair
    (sym c.pair_if.ensures ∙ c.in-Some.is)

pub between-tokens-requires-clause-inside : goal.between-tokens-requires-clause-inside
between-tokens-requires-clause-inside c =
    in_tokens c.args.text.now c.args.tokens.now c.args.kinds.now c.requires.text c.args.place _ c.args.closed c.requires.place refl c.requires.closed

pub between-kinds-requires-clause-order : goal.between-kinds-requires-clause-order
between-kinds-requires-clause-order c =
    in_order c.args.text.now c.args.tokens.now c.args.kinds.now c.requires.text c.args.place _ c.args.closed c.requires.place refl c.requires.closed 25 1 c.in-Some.pair
    (sym c.pair_if.ensures ∙ c.in-Some.is)

pub returns-in-Ok : goal.returns-in-Ok
returns-in-Ok c =
    types_marked c.args.text.now c.args.tokens.now c.args.kinds.now c.requires.text c.args.place _ c.args.closed c.requires.place refl c.requires.closed c.in-Some.pair
    (sym c.pair_if.ensures ∙ c.in-Some.is) c.between-tokens.result.now c.between-tokens.ensures c.between-kinds.result.now c.between-kinds.ensures
    c.in_ok-numbers.field-0 c.in_ok-numbers.ensures c.in-Ok.numbers c.in-Ok.is

pub returns-in-Err : goal.returns-in-Err
returns-in-Err c =
    types_unmarked c.args.text.now c.args.tokens.now c.args.kinds.now c.requires.text c.args.place _ c.args.closed c.requires.place refl c.requires.closed c.in-Some.pair
    (sym c.pair_if.ensures ∙ c.in-Some.is) c.between-tokens.result.now c.between-tokens.ensures c.between-kinds.result.now c.between-kinds.ensures
    c.in_ok-numbers.field-0 c.in_ok-numbers.ensures c.in-Err.field-0 c.in-Err.is
