-- Predictive grammars, by LL(1) sets: Aho, Sethi and Ullman, "Compilers", 4.4 (FIRST, FOLLOW, and the table of a predictive parser).
-- What is ahead of a parser is a number: 0 at the end of the text, else one more than the kind of the next token.
-- The examples are of rows of brackets, `row = | "(" row ")" row`, with kind 0 for `(` and 1 for `)`: 1 and 2 where they are ahead.
use Rattle.std.specs.Prelude.{◌≡◌, ◌<◌, ◌+◌, ℕ, suc, Bool, true, false, cond, ◌&&◌, ◌||◌, nat_eq, List, [], ◌∷◌, Option, Some}
use Rattle.predictive.specs.declared.symbol.Symbol.{Symbol}
use Rattle.predictive.specs.declared.symbol.Symbol.TheVariants.{Kind, Non}
use Rattle.predictive.specs.Grammar.{Grammar}

pub record Sets : Type 0 where
  -- nonterminals are the numbers below it
  pub count : ℕ
  -- the empty text is one of the nonterminal: it is of a row
  pub nullable : ℕ → Bool
  -- a text of the nonterminal begins with what is ahead: a row with 1
  pub first : ℕ → ℕ → Bool
  -- after a text of the nonterminal this may be ahead: 0 and 2 after a row
  pub follow : ℕ → ℕ → Bool
  -- the rule by which the nonterminal goes on, by what is ahead: a row by its second rule at 1, by its first at 0 and 2
  pub table : ℕ → ℕ → Option ℕ
  -- a bound on the rules that are opened before the nonterminal's first token, hence no left recursion
  pub cost : ℕ → ℕ
  -- a rule whose nonterminals are all of lower rank, hence a text
  pub shortest : ℕ → ℕ
  pub rank : ℕ → ℕ

-- `)` `(` has 2 ahead
abbrev pub ahead : List ℕ → ℕ
ahead [] = 0
ahead (k ∷ ks) = suc k

-- each symbol may be empty: not so in `(` row
abbrev pub nullable_row : Sets → List Symbol → Bool
nullable_row s [] = true
nullable_row s (Kind c ∷ row) = false
nullable_row s (Non n ∷ row) = s.nullable n && nullable_row s row

-- row `)` begins with 1, or with 2 where its row is empty
abbrev pub first_row : Sets → List Symbol → ℕ → Bool
first_row s [] k = false
first_row s (Kind c ∷ row) k = nat_eq (suc c) k
first_row s (Non n ∷ row) k = s.first n k || (s.nullable n && first_row s row k)

-- may be ahead where a row of symbols stands, and after it what `next` says: an empty row is selected by what follows it
abbrev pub select : Sets → List Symbol → (ℕ → Bool) → ℕ → Bool
select s row next k = first_row s row k || (nullable_row s row && next k)

-- each nonterminal in the row of symbols is one, and what may be ahead after it is in its FOLLOW: in `(` row `)` row, where 0 may
-- come next, 2 is in the first row's and 0 in the second's
abbrev pub IsFollowed : Sets → List Symbol → (ℕ → Bool) → Type 0
IsFollowed s [] next = Unit {0}
IsFollowed s (Kind c ∷ row) next = IsFollowed s row next
IsFollowed s (Non n ∷ row) next =
    (n < s.count) × ((k : ℕ) → select s row next k ≡ true → s.follow n k ≡ true) × IsFollowed s row next

-- costs up to the first symbol that isn't nullable: of `(` row nothing, of row row twice a row's
abbrev pub cost_row : Sets → List Symbol → ℕ
cost_row s [] = 0
cost_row s (Kind c ∷ row) = 0
cost_row s (Non n ∷ row) = s.cost n + cond (s.nullable n) (cost_row s row) 0

-- the row's nonterminals are of lower rank
abbrev pub RanksBelow : Sets → List Symbol → ℕ → Type 0
RanksBelow s [] r = Unit {0}
RanksBelow s (Kind c ∷ row) r = RanksBelow s row r
RanksBelow s (Non n ∷ row) r = (n < s.count) × (s.rank n < r) × RanksBelow s row r

pub record IsPredictive (g : Grammar) (s : Sets) : Type 0 where
  pub nullable : (p : ℕ) → p < g.count → nullable_row s (g.right p) ≡ true → s.nullable (g.left p) ≡ true
  pub first : (p : ℕ) → p < g.count → (k : ℕ) → first_row s (g.right p) k ≡ true → s.first (g.left p) k ≡ true
  pub follow : (p : ℕ) → p < g.count → IsFollowed s (g.right p) (s.follow (g.left p))
  -- no two rules of a nonterminal are selected by the same
  pub table : (p : ℕ) → p < g.count → (k : ℕ) → select s (g.right p) (s.follow (g.left p)) k ≡ true → s.table (g.left p) k ≡ Some p
  pub entry : (n k p : ℕ) → s.table n k ≡ Some p → (p < g.count) × (g.left p ≡ n)
  pub cost : (p : ℕ) → p < g.count → suc (cost_row s (g.right p)) < s.cost (g.left p)
  pub shortest : (n : ℕ) → n < s.count → (s.shortest n < g.count) × (g.left (s.shortest n) ≡ n) × RanksBelow s (g.right (s.shortest n)) (s.rank n)

-- only the end may be ahead
abbrev pub at_end : ℕ → Bool
at_end k = nat_eq k 0

-- a nonterminal after which a text may end: a row
abbrev pub MayEnd : Sets → ℕ → Type 0
MayEnd s n = (n < s.count) × (s.follow n 0 ≡ true)
