-- Words of private functions: how what stands between parentheses is read, and what a name or `unnamed_addr` behind them is.
use Rattle.std.specs.Prelude.{◌≡◌, ◌+◌, ◌↔◌, ℕ, suc, cond, ◌&&◌, nat_eq, List, [], ◌∷◌, ◌++◌, length, Option, Some, None}
use Rattle.std.specs.List.{Contains}
use Rattle.ir_core.specs.declared.limits.Limit.{Limit}
use Rattle.ir_core.specs.declared.limits.Limit.TheVariants as limit
use Rattle.module_grammar.specs.Symbols.{Symbol, foreign, kind_of, open_paren, unnamed_addr, void}
use Rattle.module_grammar.specs.Tokens.{token_grammar}
use Rattle.module_spelling.specs.Context.{AreKinds, StandFor, StandsFor, all_seen, called_number, declared_number}
use Rattle.module_spelling.specs.Faults.{IsDeepAt, IsDeepBehind}
use Rattle.module_spelling.specs.Opened.{IsWithin, Passes}
use Rattle.predictive.specs.Grammar.{Forest, Forms, yield}
use Rattle.predictive.specs.declared.symbol.Symbol.TheVariants.{Non}
use Rattle.token_context.specs.declared.brackets.Opened.{Opened}
use Rattle.token_context.specs.declared.reading.Reading.{Reading}
use Rattle.token_context.specs.declared.reading.Reading.TheVariants.{Whole, Deep, Other}

-- tokens of these kinds are of the nonterminal within the limits, or are too deep, or aren't of it
abbrev pub Reads : ℕ → List ℕ → Reading → Type 0
Reads n kinds Whole = (f : Forest) × Forms token_grammar f (Non n ∷ []) × (yield f ≡ kinds) × IsWithin f
Reads n kinds Deep = (f : Forest) × Forms token_grammar f (Non n ∷ []) × (yield f ≡ kinds) × ((k : ℕ) × Passes f k limit.Depth)
Reads n kinds Other = (f : Forest) → Forms token_grammar f (Non n ∷ []) → yield f ≡ kinds → ⊥

-- by the limit that is passed
abbrev pub reading_of : Option Limit → Reading
reading_of None = Whole
reading_of (Some l) = Deep

-- the kinds of names of functions, of debugging or not
abbrev pub global_kind : ℕ
global_kind = 1

abbrev pub debug_kind : ℕ
debug_kind = 2

-- what has to stand in a pair, by what stands before it and behind it
abbrev pub due_in_parens : ℕ → ℕ → Option ℕ
due_in_parens behind k =
    cond (nat_eq k global_kind && nat_eq behind (kind_of void)) (Some called_number)
    (cond (nat_eq k (kind_of unnamed_addr) && nat_eq behind debug_kind) (Some declared_number) None)

abbrev pub due : Opened → ℕ → Option ℕ
due pair k = cond (nat_eq pair.kind (kind_of open_paren)) (due_in_parens pair.behind k) None

-- what stands in the pair, which ends before this place, is read so, where something has to stand there
abbrev pub IsRead : Option ℕ → List ℕ → ℕ → ℕ → Reading → Type 0
IsRead None kinds place end r = r ≡ Whole
IsRead (Some n) kinds place end r =
    (front inside rest : List ℕ) (o c : ℕ) → kinds ≡ front ++ (o ∷ (inside ++ (c ∷ rest))) → place ≡ length front
    → end ≡ length front + suc (suc (length inside)) → Reads n inside r

-- a token of this kind at this place, directly before which that pair ends, if one does
abbrev pub IsReadBehind : Option Opened → List ℕ → ℕ → ℕ → Reading → Type 0
IsReadBehind None kinds end k r = r ≡ Whole
IsReadBehind (Some pair) kinds end k r = IsRead (due pair k) kinds pair.place end r

-- a token behind these, the last one first, is itself, or none of the grammar, since what stands before is too deep or for another reason
abbrev pub IsSeen : List Symbol → Symbol → Reading → Type 0
IsSeen before s Whole = StandsFor before s s × (IsDeepBehind before s → ⊥)
IsSeen before s Deep = StandsFor before s foreign × IsDeepBehind before s
IsSeen before s Other = StandsFor before s foreign × (IsDeepBehind before s → ⊥)

abbrev pub kind_seen : ℕ → Reading → ℕ
kind_seen k Whole = k
kind_seen k Deep = kind_of foreign
kind_seen k Other = kind_of foreign

abbrev pub deep_seen : ℕ → Reading → List ℕ
deep_seen place Whole = []
deep_seen place Deep = place ∷ []
deep_seen place Other = []

-- the tokens that are these by themselves are of these kinds where they stand, and those at these places are too deep
pub record IsContext (own : List Symbol) (kinds places : List ℕ) : Type 0 where
  pub stand : StandFor own (all_seen own kinds)
  pub are_kinds : AreKinds own kinds
  pub deep : (k : ℕ) → Contains places k ↔ IsDeepAt own k
