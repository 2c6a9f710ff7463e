use Rattle.std.proofs.Common.{◌≡◌, ◌≤◌, length, map, take, vec_capacity}
use Rattle.module_grammar.specs.Spelled.{kind_in}
use Rattle.module_tokens.proofs.kinds.kinds_of.Given as goal

-- the kinds of the tokens so far, with room for those of all
abbrev pub invariant-loop-token : goal.invariant-loop-token
invariant-loop-token l = record {
  kinds : l.kinds.items ≡ map (kind_in l.language l.text) (take l.token-index l.tokens);
  room : length l.tokens ≤ vec_capacity l.kinds;
}
