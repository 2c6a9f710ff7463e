-- What a parser writes down of a text: its derivation, as the numbers of marks.
use Rattle.std.specs.Prelude.{◌≡◌, ℕ, List, [], ◌∷◌, map, Result, Ok, Err}
use Rattle.derivation_writer.specs.declared.stop.Stop.{Stop}
use Rattle.derivation_writer.specs.declared.stop.Stop.TheVariants as stop
use Rattle.module_derivations.specs.FlatMarks.Flat as flat
use Rattle.module_derivations.specs.FlatMarks.Flat.{Written, mark_of}
use Rattle.module_derivations.specs.Ahead.{chosen, marks, says}
use Rattle.module_grammar.specs.Tokens.{token_grammar}
use Rattle.module_spelling.specs.Faults.{IsStuck, PassesLimit}
use Rattle.module_spelling.specs.Opened.{IsWithin}
use Rattle.predictive.specs.Grammar.{Forest, Forms, yield}
use Rattle.predictive.specs.declared.symbol.Symbol.TheVariants.{Non}

-- the place of the next token, and the numbers that are written down
abbrev pub written_by : ℕ → List ℕ → Written
written_by place numbers = record { place = place; marks = map mark_of numbers }

abbrev pub begun : Written → ℕ → Written
begun w p = flat.begun chosen says w p

abbrev pub shifted : Written → ℕ → Written
shifted w k = flat.shifted chosen says w k

abbrev pub reduced : Written → ℕ → Written
reduced w p = w

-- a derivation's numbers, no token of which passes a limit; or the first token that isn't expected, before which no limit is passed; or the limit
-- that a token passes before anything isn't expected
--
-- Of the kinds of `i8*`, from the nonterminal of types, they are those of: the rule of integers, the token 0, the rule of a star, the token 1, the
-- rule of no star.
abbrev pub IsDerived : ℕ → List ℕ → Result (List ℕ) Stop → Type 0
IsDerived n kinds (Ok numbers) =
    (f : Forest) × Forms token_grammar f (Non n ∷ []) × (yield f ≡ kinds) × IsWithin f × (map mark_of numbers ≡ marks f)
IsDerived n kinds (Err (stop.Stuck k)) = IsStuck n kinds k
IsDerived n kinds (Err (stop.Limit l)) = (k : ℕ) × PassesLimit n kinds k l
