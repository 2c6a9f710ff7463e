use Rattle.std.proofs.Common.{◌≡◌, nat_eq, take}
use Rattle.std.specs.HashMap.{get}
use Rattle.token_context.specs.NameSurroundings.Between.{seen}
use Rattle.token_context.specs.NameSurroundings.Held.{AreParamsTold, AreTypesTold}
use Rattle.token_context.specs.NameSurroundings.Told.{params_told, types_told}
use Rattle.token_context.specs.Brackets.{after_all, start}
use Rattle.token_context.proofs.name_surroundings.around.Around.walk.Given as goal

-- what is open behind the tokens so far, and what is told by them
abbrev pub invariant-loop-place : goal.invariant-loop-place
invariant-loop-place l = record {
  opened : l.brackets ≡ after_all start 0 (take l.place l.kinds);
  types : AreTypesTold (seen l.text l.tokens l.kinds) l.place (types_told (get nat_eq l.called));
  params : AreParamsTold (seen l.text l.tokens l.kinds) l.place (params_told (get nat_eq l.declared));
}
