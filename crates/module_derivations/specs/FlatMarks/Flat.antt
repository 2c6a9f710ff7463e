-- Flat derivations: the rules that begin and the tokens that say something, in the order of the text. A rule is written down where its
-- nonterminal has others beside it, and a token where it says more than its kind.
--
-- Where `pair` is a nonterminal with the one rule `( value , value )`, and `value` has the rules `number` and `name`, the derivation of
-- `(7,x)` is: the rule of numbers, the token 1, the rule of names, the token 3.
use Rattle.std.specs.Prelude.{◌≡◌, ◌+◌, ◌-◌, ℕ, zero, suc, Bool, cond, nat_lt, List, [], ◌∷◌, ◌++◌, length}
use Rattle.predictive.specs.Grammar.{Forest, End, Leaf, Node, after_trees, yield}

-- a rule that begins, or a token, by its place among the text's
pub data Mark : Type 0 where
  Rule : ℕ → Mark
  Token : ℕ → Mark

-- marks by number: rules are below 2^31, tokens from there on
abbrev pub mark_of : ℕ → Mark
mark_of n = cond (nat_lt n 2147483648) (Rule n) (Token (n - 2147483648))

module _ (chosen says : ℕ → Bool) where
  -- what is written down as a rule begins, and of the token at a place
  abbrev pub rule_marks : ℕ → List Mark
  rule_marks p = cond (chosen p) (Rule p ∷ []) []

  abbrev pub token_marks : ℕ → ℕ → List Mark
  token_marks k i = cond (says k) (Token i ∷ []) []

  -- what is written down of trees whose first token is at this place
  abbrev pub marks_from : ℕ → Forest → List Mark
  marks_from i End = []
  marks_from i (Leaf k f) = token_marks k i ++ marks_from (suc i) f
  marks_from i (Node p kids f) = rule_marks p ++ (marks_from i kids ++ marks_from (i + length (yield kids)) f)

-- ---- what a parser's acts work on: the place of the next token, and what is written down

pub record Written : Type 0 where
  pub place : ℕ
  pub marks : List Mark

module _ (chosen says : ℕ → Bool) where
  abbrev pub begun : Written → ℕ → Written
  begun w p = record { place = w.place; marks = w.marks ++ rule_marks chosen says p }

  abbrev pub shifted : Written → ℕ → Written
  shifted w k = record { place = suc w.place; marks = w.marks ++ token_marks chosen says k w.place }

  abbrev pub reduced : Written → ℕ → Written
  reduced w p = w

-- what a parser writes down along trees, from the first token on, are their marks
abbrev pub AreWritten : Type 0
AreWritten =
    (chosen says : ℕ → Bool) (f : Forest)
    → after_trees (begun chosen says) (shifted chosen says) (reduced chosen says) f (record { place = 0; marks = [] })
    ≡ record { place = length (yield f); marks = marks_from chosen says 0 f }

-- ---- what stands ahead: a list of parts, one for a token, one for a rule

module _ {P : Type 0} where
  abbrev pub behind : List P → List P
  behind [] = []
  behind (p ∷ ps) = ps

  abbrev pub skip : ℕ → List P → List P
  skip zero ps = ps
  skip (suc n) ps = skip n (behind ps)

-- What marks make, by the part that the token at a place is, and by the one that a rule makes of the parts behind its beginning. So many of
-- these are the rule's own.
abbrev pub parts : {P : Type 0} → (ℕ → ℕ) → (ℕ → List P → P) → (ℕ → P) → List Mark → List P
parts arity node leaf [] = []
parts arity node leaf (Token i ∷ ms) = leaf i ∷ parts arity node leaf ms
parts arity node leaf (Rule p ∷ ms) = node p (parts arity node leaf ms) ∷ skip (arity p) (parts arity node leaf ms)
