use Rattle.std.proofs.Common.{nat_eq, subst}
use Rattle.std.specs.HashMap.{get}
use Rattle.std.specs.Option.{option_map}
use Rattle.token_context.specs.NameSurroundings.Between.{seen}
use Rattle.token_context.specs.NameSurroundings.Held.{AreTypesBefore}
use Rattle.token_context.specs.NameSurroundings.Told as told
use Rattle.token_context.proofs.NameSurroundings.Reading.{below_tokens}
use Rattle.token_context.proofs.NameSurroundings.Told.{made_of_more, no_types_told, types_told}
use Rattle.token_context.proofs.name_surroundings.around.tell_types.Goals as goal

pub returns-in_ok-insert : goal.returns-in_ok-insert
returns-in_ok-insert c =
    types_told c.args.text.now c.args.tokens.now c.args.kinds.now c.requires.text c.args.place (told.types_told (get nat_eq c.args.called.now)) (told.types_told (get nat_eq c.insert.new.self))
    c.start_at.result (told.types_in c.in-Some.types)
    (subst (λ o. AreTypesBefore (seen c.args.text.now c.args.tokens.now c.args.kinds.now) c.args.place (option_map told.types_in o)) c.in-Some.is c.in_ok-types.ensures)
    c.start_at.ensures
    (below_tokens c.args.text.now c.args.tokens.now c.args.kinds.now c.requires.text c.args.place c.requires.place)
    (made_of_more told.types_in (get nat_eq c.args.called.now) (get nat_eq c.insert.new.self) c.start_at.result c.in-Some.types c.in_ok-insert.ensures.updates.0) c.requires.told

pub returns-in_default : goal.returns-in_default
returns-in_default c =
    no_types_told c.args.text.now c.args.tokens.now c.args.kinds.now c.requires.text c.args.place (told.types_told (get nat_eq c.args.called.now))
    (subst (λ o. AreTypesBefore (seen c.args.text.now c.args.tokens.now c.args.kinds.now) c.args.place (option_map told.types_in o)) c.in_default.is c.in_ok-types.ensures) c.requires.told
