use Rattle.std.proofs.Common.{◌≡◌, List, map, take}
use Rattle.module_grammar.specs.Symbols.{Symbol, kind_of}
use Rattle.token_context.proofs.context.in_context.Given as goal
use Rattle.token_context.specs.Brackets.{after_all, start}
use Rattle.token_context.specs.Readings.{IsContext}

-- what is open behind the tokens so far, and what they are where they stand
abbrev pub invariant-loop-place : goal.invariant-loop-place
invariant-loop-place l = record {
  opened : l.brackets ≡ after_all start 0 (take l.place l.kinds);
  seen : (own : List Symbol) → map kind_of own ≡ l.kinds → IsContext (take l.place own) l.context.kinds.items l.context.deep.items;
}
