-- The mark of a watch that is told trees is of the first token that passes a limit.
use Rattle.std.specs.Prelude.{◌≡◌, ◌<◌, ℕ, [], ◌∷◌, length, MatchOption, Option}
use Rattle.ir_core.specs.declared.limits.Limit.{Limit}
use Rattle.module_grammar.specs.Tokens.{token_grammar}
use Rattle.module_spelling.specs.Opened.{IsWithin, Passes, PassesFirst}
use Rattle.predictive.specs.Grammar.{Forest, Forms, after_some, after_trees, yield}
use Rattle.predictive.specs.declared.symbol.Symbol.TheVariants.{Non}
use Rattle.derivation_writer.specs.TokenLimits.Watched.{begun, fresh, reduced, shifted}

-- a type without its stars
abbrev pub base_number : ℕ
base_number = 34

-- the trees are a derivation of the nonterminal, which isn't a type without its stars
pub record IsWatched (n : ℕ) (f : Forest) : Type 0 where
  pub formed : Forms token_grammar f (Non n ∷ [])
  pub other : n ≡ base_number → ⊥

-- what the mark says after so many tokens
abbrev pub SaysBefore : ℕ → Forest → Option Limit → Type 0
SaysBefore n f m = MatchOption m ((k : ℕ) (l : Limit) → k < n → Passes f k l → ⊥) (λ l. (k : ℕ) × (k < n) × PassesFirst f k l)

-- what it says after all of them
abbrev pub SaysWhole : Forest → Option Limit → Type 0
SaysWhole f m = MatchOption m (IsWithin f) (λ l. (k : ℕ) × (k < length (yield f)) × PassesFirst f k l)

pub record MarksFirst : Type 0 where
  pub before : (n : ℕ) (f : Forest) → IsWatched n f → (count : ℕ) → SaysBefore count f (after_some begun shifted reduced count f fresh).mark
  pub whole : (n : ℕ) (f : Forest) → IsWatched n f → SaysWhole f (after_trees begun shifted reduced f fresh).mark
  -- it is one of the tokens that passes a limit
  pub inside : (n : ℕ) (f : Forest) → IsWatched n f → (k : ℕ) (l : Limit) → Passes f k l → k < length (yield f)
