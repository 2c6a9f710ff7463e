use Rattle.std.proofs.Common.{sym, ◌∙◌, refl}
use Rattle.token_context.proofs.NameSurroundings.Reading.{in_order, in_tokens, name_inside, no_params, params_marked, params_unmarked}
use Rattle.token_context.proofs.name_surroundings.around.params_before.Goals as goal

pub returns-in_default : goal.returns-in_default
returns-in_default c =
    no_params c.args.text.now c.args.tokens.now c.args.kinds.now c.requires.text c.args.place _ c.args.closed c.requires.place refl c.requires.closed
    (sym c.pair_if.ensures ∙ c.in_default.is)

pub overflow_sub-pair : goal.overflow_sub-pair
overflow_sub-pair c =
    (name_inside c.args.text.now c.args.tokens.now c.args.kinds.now c.requires.text c.args.place _ c.args.closed c.requires.place refl c.requires.closed c.in-Some.pair
    (sym c.pair_if.ensures ∙ c.in-Some.is)).0

pub start_at-start-requires : goal.start_at-start-requires
start_at-start-requires c =
    (name_inside c.args.text.now c.args.tokens.now c.args.kinds.now c.requires.text c.args.place _ c.args.closed c.requires.place refl c.requires.closed c.in-Some.pair
    (sym c.pair_if.ensures ∙ c.in-Some.is)).1

pub between-tokens-requires-clause-order : goal.between-tokens-requires-clause-order
between-tokens-requires-clause-order c =
    in_order c.args.text.now c.args.tokens.now c.args.kinds.now c.requires.text c.args.place _ c.args.closed c.requires.place refl c.requires.closed 2 51 c.in-Some.pair
    (sym c.pair_if.ensures ∙ c.in-Some.is)

pub between-tokens-requires-clause-inside : goal.between-tokens-requires-clause-inside
between-tokens-requires-clause-inside c =
    in_tokens c.args.text.now c.args.tokens.now c.args.kinds.now c.requires.text c.args.place _ c.args.closed c.requires.place refl c.requires.closed

pub between-kinds-requires-clause-order : goal.between-kinds-requires-clause-order
between-kinds-requires-clause-order c =
    in_order c.args.text.now c.args.tokens.now c.args.kinds.now c.requires.text c.args.place _ c.args.closed c.requires.place refl c.requires.closed 2 51 c.in-Some.pair
    (sym c.pair_if.ensures ∙ c.in-Some.is)

pub returns-in-Ok : goal.returns-in-Ok
returns-in-Ok c =
    params_marked c.args.text.now c.args.tokens.now c.args.kinds.now c.requires.text c.args.place _ c.args.closed c.requires.place refl c.requires.closed c.in-Some.pair
    (sym c.pair_if.ensures ∙ c.in-Some.is) c.between-tokens.result.now c.between-tokens.ensures c.between-kinds.result.now c.between-kinds.ensures
    c.in_ok-numbers.field-0 c.in_ok-numbers.ensures c.in-Ok.numbers c.in-Ok.is c.start_at-start.result c.start_at-start.ensures

pub returns-in-Err : goal.returns-in-Err
returns-in-Err c =
    params_unmarked c.args.text.now c.args.tokens.now c.args.kinds.now c.requires.text c.args.place _ c.args.closed c.requires.place refl c.requires.closed c.in-Some.pair
    (sym c.pair_if.ensures ∙ c.in-Some.is) c.between-tokens.result.now c.between-tokens.ensures c.between-kinds.result.now c.between-kinds.ensures
    c.in_ok-numbers.field-0 c.in_ok-numbers.ensures c.in-Err.field-0 c.in-Err.is
