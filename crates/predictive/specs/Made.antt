-- A derivation of a value: the rule at its root, and the derivation trees of the rule's right side, whose acts leave the value on the
-- stack. For the pair of 1 and 2 that is the rule `( value , value )` over the trees of `(`, 1, `,`, 2 and `)`.
use Rattle.std.specs.Prelude.{◌≡◌, ◌<◌, ℕ, List, [], ◌∷◌, ◌++◌, map}
use Rattle.predictive.specs.Grammar.{Forest, Forms, yield, after_trees}
use Rattle.predictive.specs.declared.symbol.Symbol.{Symbol}
use Rattle.predictive.specs.declared.symbol.Symbol.TheVariants.{Kind, Non}
use Rattle.predictive.specs.Meaning.{Meaning, Each, begun, shifted, reduced}

pub record Made (m : Meaning) (n : ℕ) (v : m.Value n) : Type 0 where
  pub rule : ℕ
  pub kids : Forest
  pub inside : rule < m.grammar.count
  pub left : m.grammar.left rule ≡ n
  pub forms : Forms m.grammar kids (m.grammar.right rule)
  pub yields : yield kids ≡ map m.kind_of (m.written n v)
  pub runs :
      (rest : List m.Token) (below : List m.Part)
      → reduced m (after_trees (begun m) (shifted m) (reduced m) kids (record { tokens = m.written n v ++ rest; parts = below })) rule
      ≡ record { tokens = rest; parts = m.part n v ∷ below }

-- a derivation of each nonterminal's value
abbrev pub MadeEach : (m : Meaning) → (s : List Symbol) → Each m s → Type 0
MadeEach m [] vs = Unit {0}
MadeEach m (Kind k ∷ s) vs = MadeEach m s vs.1
MadeEach m (Non n ∷ s) vs = Made m n vs.0 × MadeEach m s vs.1
