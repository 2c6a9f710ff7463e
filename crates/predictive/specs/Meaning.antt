-- What the symbols of a grammar stand for, how that is written, and what a parser's acts do with it: an attribute grammar with one
-- synthesized attribute a nonterminal, the value that was read.
--
-- Where `pair` is a nonterminal with the one rule `( value , value )`, `Value pair` are the pairs, `written pair p` is the five tokens
-- of `p`, and the rule's act takes two values from the stack and puts a pair.
use Rattle.std.specs.Prelude.{◌≡◌, ◌<◌, ℕ, List, [], ◌∷◌, ◌++◌}
use Rattle.predictive.specs.Grammar.{Grammar}
use Rattle.predictive.specs.declared.symbol.Symbol.{Symbol}
use Rattle.predictive.specs.declared.symbol.Symbol.TheVariants.{Kind, Non}

pub record Meaning : Type 1 where
  pub Token : Type 0
  -- the engine sees a token as its kind
  pub kind_of : Token → ℕ
  -- what a token of a kind says beside its kind: a name, a number, or nothing
  pub Content : ℕ → Type 0
  pub token : (k : ℕ) → Content k → Token
  -- what a nonterminal stands for, and how that is written
  pub Value : ℕ → Type 0
  pub written : (n : ℕ) → Value n → List Token
  -- what stands on the stack, top first; `kept` leaves tokens out that say nothing beside their kind
  pub Part : Type 0
  pub kept : Token → List Part → List Part
  pub part : (n : ℕ) → Value n → Part
  pub grammar : Grammar
  -- what the reduction of a rule does to the stack (a semantic action)
  pub act : ℕ → List Part → List Part

-- one of each symbol: a content for each kind, a value for each nonterminal
abbrev pub EachOf : (ℕ → Type 0) → (ℕ → Type 0) → List Symbol → Type 0
EachOf C V [] = Unit {0}
EachOf C V (Kind k ∷ s) = C k × EachOf C V s
EachOf C V (Non n ∷ s) = V n × EachOf C V s

abbrev pub Each : (m : Meaning) → List Symbol → Type 0
Each m s = EachOf m.Content m.Value s

-- a value, and the tokens behind it where symbols are left
abbrev pub joined : (m : Meaning) → (n : ℕ) → m.Value n → (s : List Symbol) → List m.Token → List m.Token
joined m n v [] ts = m.written n v
joined m n v (_ ∷ _) ts = m.written n v ++ ts

-- one of each symbol, written one after another
abbrev pub row : (m : Meaning) → (s : List Symbol) → Each m s → List m.Token
row m [] vs = []
row m (Kind k ∷ s) vs = m.token k vs.0 ∷ row m s vs.1
row m (Non n ∷ s) vs = joined m n vs.0 s (row m s vs.1)

-- one of each symbol, put onto a stack one after another
abbrev pub onto : (m : Meaning) → (s : List Symbol) → Each m s → List m.Part → List m.Part
onto m [] vs below = below
onto m (Kind k ∷ s) vs below = onto m s vs.1 (m.kept (m.token k vs.0) below)
onto m (Non n ∷ s) vs below = onto m s vs.1 (m.part n vs.0 ∷ below)

-- what a parser's acts work on: the tokens that are left, and the stack
pub record State (m : Meaning) : Type 0 where
  pub tokens : List m.Token
  pub parts : List m.Part

-- a rule begins: nothing is done
abbrev pub begun : (m : Meaning) → State m → ℕ → State m
begun m s p = s

-- a token is shifted: the next one goes onto the stack
abbrev pub shifted : (m : Meaning) → State m → ℕ → State m
shifted m s k = go s.tokens
  where
    go : List m.Token → State m
    go [] = s
    go (t ∷ ts) = record { tokens = ts; parts = m.kept t s.parts }

-- a rule is reduced
abbrev pub reduced : (m : Meaning) → State m → ℕ → State m
reduced m s p = record { tokens = s.tokens; parts = m.act p s.parts }

-- a rule's act makes one value of the values of its right side, and that is written as they are
abbrev pub Law : (m : Meaning) → ℕ → Type 0
Law m p =
    (vs : Each m (m.grammar.right p))
    → (v : m.Value (m.grammar.left p))
    × ((below : List m.Part) → m.act p (onto m (m.grammar.right p) vs below) ≡ m.part (m.grammar.left p) v ∷ below)
    × (m.written (m.grammar.left p) v ≡ row m (m.grammar.right p) vs)

-- each rule keeps its law, and tokens are their kinds and contents
pub record IsLawful (m : Meaning) : Type 0 where
  pub law : (p : ℕ) → p < m.grammar.count → Law m p
  pub content : (t : m.Token) → (c : m.Content (m.kind_of t)) × (m.token (m.kind_of t) c ≡ t)
  pub kind : (k : ℕ) (c : m.Content k) → m.kind_of (m.token k c) ≡ k
  pub some : (k : ℕ) → m.Content k
