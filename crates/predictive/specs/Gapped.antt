-- A parser's grammar for a typed grammar with gaps: a kind of token that stands in no text is a gap there, and a nonterminal in the
-- parser's grammar, whose rules keep nothing of what they read.
--
-- Where `comment` has the one rule `{ gap }`, the parser's grammar has `comment = { row }`, `row = | ( row ) row`.
use Rattle.std.specs.Prelude.{◌≡◌, ◌<◌, ◌≤◌, ℕ, Bool, true, false, nat_eq, List, [], ◌∷◌, map}
use Rattle.predictive.specs.Grammar.{Grammar, Derives}
use Rattle.predictive.specs.declared.symbol.Symbol.{Symbol}
use Rattle.predictive.specs.declared.symbol.Symbol.TheVariants.{Kind, Non}
use Rattle.predictive.specs.Meaning.{Meaning, EachOf, State}
use Rattle.predictive.specs.Fills.{Fills}

pub record Gapped (m : Meaning) : Type 1 where
  -- the kind that is a gap, and the nonterminal that stands for it
  pub kind : ℕ
  pub non : ℕ
  -- the tokens that fill it
  pub Fit : List m.Token → Type 0
  pub grammar : Grammar
  pub act : ℕ → List m.Part → List m.Part

abbrev pub is_gap : (m : Meaning) → Gapped m → m.Token → Bool
is_gap m x t = nat_eq (m.kind_of t) x.kind

-- the tokens are what is written, its gaps filled
abbrev pub Writes : (m : Meaning) → Gapped m → List m.Token → List m.Token → Type 0
Writes m x written tokens = Fills (is_gap m x) x.Fit written tokens

-- a value of a nonterminal, and a text that is written of it
abbrev pub Text : (m : Meaning) → Gapped m → ℕ → Type 0
Text m x n = (v : m.Value n) × (ts : List m.Token) × Writes m x (m.written n v) ts

abbrev pub opened_kind : Bool → ℕ → ℕ → Symbol
opened_kind true k non = Non non
opened_kind false k non = Kind k

-- a right side with the nonterminal in place of the gap
abbrev pub opened : ℕ → ℕ → List Symbol → List Symbol
opened kind non [] = []
opened kind non (Kind k ∷ s) = opened_kind (nat_eq k kind) k non ∷ opened kind non s
opened kind non (Non n ∷ s) = Non n ∷ opened kind non s

-- its nonterminals are below this one
abbrev pub IsTyped : ℕ → List Symbol → Type 0
IsTyped non [] = Unit {0}
IsTyped non (Kind k ∷ s) = IsTyped non s
IsTyped non (Non n ∷ s) = (n < non) × IsTyped non s

-- its nonterminals are this one and those above
abbrev pub IsLoose : ℕ → List Symbol → Type 0
IsLoose non [] = Unit {0}
IsLoose non (Kind k ∷ s) = IsLoose non s
IsLoose non (Non n ∷ s) = (non ≤ n) × IsLoose non s

-- what the tokens of a loose right side say, put onto a stack; its nonterminals leave nothing there
abbrev pub pushed : (m : Meaning) → (s : List Symbol) → EachOf m.Content (λ n. Unit {0}) s → List m.Part → List m.Part
pushed m [] vs below = below
pushed m (Kind k ∷ s) vs below = pushed m s vs.1 (m.kept (m.token k vs.0) below)
pushed m (Non n ∷ s) vs below = pushed m s vs.1 below

-- The rules of the meaning come first, opened; those behind them are of fillings, and drop what they read. The gap says nothing.
pub record IsGapped (m : Meaning) (x : Gapped m) : Type 0 where
  pub more : m.grammar.count ≤ x.grammar.count
  pub left : (p : ℕ) → p < m.grammar.count → x.grammar.left p ≡ m.grammar.left p
  pub right : (p : ℕ) → p < m.grammar.count → x.grammar.right p ≡ opened x.kind x.non (m.grammar.right p)
  pub act : (p : ℕ) → p < m.grammar.count → (s : List m.Part) → x.act p s ≡ m.act p s
  pub typed_left : (p : ℕ) → p < m.grammar.count → m.grammar.left p < x.non
  pub typed : (p : ℕ) → p < m.grammar.count → IsTyped x.non (m.grammar.right p)
  pub loose_left : (p : ℕ) → m.grammar.count ≤ p → p < x.grammar.count → x.non ≤ x.grammar.left p
  pub loose : (p : ℕ) → m.grammar.count ≤ p → p < x.grammar.count → IsLoose x.non (x.grammar.right p)
  pub drops :
      (p : ℕ) → m.grammar.count ≤ p → p < x.grammar.count → (vs : EachOf m.Content (λ n. Unit {0}) (x.grammar.right p)) (below : List m.Part)
      → x.act p (pushed m (x.grammar.right p) vs below) ≡ below
  pub says_nothing : (k : ℕ) → nat_eq k x.kind ≡ true → (c : m.Content k) (s : List m.Part) → m.kept (m.token k c) s ≡ s
  -- what fills a gap is what the nonterminal derives
  pub fit : (ts : List m.Token) → Derives x.grammar (Non x.non ∷ []) (map m.kind_of ts) → x.Fit ts
  pub derived : (ts : List m.Token) → x.Fit ts → Derives x.grammar (Non x.non ∷ []) (map m.kind_of ts)

-- a rule of the parser's grammar is reduced
abbrev pub reduced : (m : Meaning) → Gapped m → State m → ℕ → State m
reduced m x s p = record { tokens = s.tokens; parts = x.act p s.parts }
