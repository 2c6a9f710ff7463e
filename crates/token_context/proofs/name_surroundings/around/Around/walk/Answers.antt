use Rattle.std.proofs.Common.{ap, nat_eq, ◌∙◌}
use Rattle.std.specs.HashMap.{get}
use Rattle.token_context.specs.NameSurroundings.Between.{seen}
use Rattle.token_context.specs.NameSurroundings.Told.{params_told, types_told}
use Rattle.token_context.proofs.NameSurroundings.Stated.{none_before, none_behind, all_types, all_params}
use Rattle.token_context.proofs.Steps.{next_opened}
use Rattle.token_context.specs.Brackets.{State}
use Rattle.token_context.proofs.name_surroundings.around.Around.walk.Goals as goal

pub loop-place-init : goal.loop-place-init
loop-place-init c = record {
  opened = c.new-brackets.ensures;
  types = none_before (seen c.args.text.now c.args.tokens.now c.args.kinds.now) (types_told (get nat_eq c.new-called.result));
  params = none_behind (seen c.args.text.now c.args.tokens.now c.args.kinds.now) (params_told (get nat_eq c.new-declared.result));
}

pub tell_types-requires-clause-closed : goal.tell_types-requires-clause-closed
tell_types-requires-clause-closed c = c.closed-closed.ensures ∙ ap (λ (s : State). s.closed) c.loop-place.invariant.opened

pub tell_types-requires-clause-told : goal.tell_types-requires-clause-told
tell_types-requires-clause-told c = c.loop-place.invariant.types

pub tell_params-requires-clause-closed : goal.tell_params-requires-clause-closed
tell_params-requires-clause-closed c = c.closed-closed.ensures ∙ ap (λ (s : State). s.closed) c.loop-place.invariant.opened

pub tell_params-requires-clause-told : goal.tell_params-requires-clause-told
tell_params-requires-clause-told c = c.loop-place.invariant.params

pub loop-place-preserved : goal.loop-place-preserved
loop-place-preserved c = record {
  opened = next_opened c.args.kinds.now c.loop-place.place c.loop-place.brackets c.step.new.self c.loop-place-test.true c.loop-place.invariant.opened c.in_ok-step.ensures;
  types = c.in_ok-tell_types.ensures;
  params = c.in_ok-tell_params.ensures;
}

pub returns-clause-types : goal.returns-clause-types
returns-clause-types c =
    all_types c.args.text.now c.args.tokens.now c.args.kinds.now c.requires c.loop-place.place (types_told (get nat_eq c.loop-place.called)) c.loop-place-test.false c.loop-place.invariant.types

pub returns-clause-params : goal.returns-clause-params
returns-clause-params c =
    all_params c.args.text.now c.args.tokens.now c.args.kinds.now c.requires c.loop-place.place (params_told (get nat_eq c.loop-place.declared)) c.loop-place-test.false c.loop-place.invariant.params
