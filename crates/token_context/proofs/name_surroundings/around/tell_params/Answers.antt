use Rattle.std.proofs.Common.{nat_eq, subst}
use Rattle.std.specs.HashMap.{get}
use Rattle.std.specs.Option.{option_map}
use Rattle.token_context.specs.NameSurroundings.Between.{seen}
use Rattle.token_context.specs.NameSurroundings.Held.{AreParamsBefore}
use Rattle.token_context.specs.NameSurroundings.Told as told
use Rattle.token_context.proofs.NameSurroundings.Told.{made_of_more, no_params_told, params_told}
use Rattle.token_context.proofs.name_surroundings.around.tell_params.Goals as goal

pub returns-in_ok-insert : goal.returns-in_ok-insert
returns-in_ok-insert c =
    params_told c.args.text.now c.args.tokens.now c.args.kinds.now c.requires.text c.args.place (told.params_told (get nat_eq c.args.declared.now)) (told.params_told (get nat_eq c.insert.new.self))
    c.in-Some.start (told.params_in c.in-Some.params)
    (subst (λ o. AreParamsBefore (seen c.args.text.now c.args.tokens.now c.args.kinds.now) c.args.place (option_map told.params_behind o)) c.in-Some.is c.in_ok-start.ensures)
    (made_of_more told.params_in (get nat_eq c.args.declared.now) (get nat_eq c.insert.new.self) c.in-Some.start c.in-Some.params c.in_ok-insert.ensures.updates.0) c.requires.told

pub returns-in_default : goal.returns-in_default
returns-in_default c =
    no_params_told c.args.text.now c.args.tokens.now c.args.kinds.now c.requires.text c.args.place (told.params_told (get nat_eq c.args.declared.now))
    (subst (λ o. AreParamsBefore (seen c.args.text.now c.args.tokens.now c.args.kinds.now) c.args.place (option_map told.params_behind o)) c.in_default.is c.in_ok-start.ensures) c.requires.told
