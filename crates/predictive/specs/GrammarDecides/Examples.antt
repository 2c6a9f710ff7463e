-- Rows of brackets, as they are decided: kind 0 is `(`, and kind 1 is `)`. Nothing is known of the grammar but its rules and its table.
use Rattle.std.specs.Prelude.{◌≡◌, ℕ, List, [], ◌∷◌, Option, Some, None}
use Rattle.std.proofs.Common.{inl, inr}
use Rattle.predictive.specs.declared.symbol.Symbol.{Symbol}
use Rattle.predictive.specs.Examples.{brackets}
use Rattle.predictive.specs.Grammar.{Grammar, Forest, End, Leaf, Node}
use Rattle.predictive.specs.Listed.{grammar_of, sets_of}
use Rattle.predictive.specs.Predictive.{IsPredictive, MayEnd}
use Rattle.predictive.specs.GrammarDecides.Decision.{Verdict, decided}

abbrev pub trees_of : (g : Grammar) (row : List Symbol) (kinds : List ℕ) → Verdict g row kinds → Option Forest
trees_of g row kinds (inl text) = Some text.0
trees_of g row kinds (inr fault) = None

abbrev pub place_of : (g : Grammar) (row : List Symbol) (kinds : List ℕ) → Verdict g row kinds → Option ℕ
place_of g row kinds (inl text) = None
place_of g row kinds (inr fault) = Some fault.0

abbrev pub HasTrees : List ℕ → Forest → Type 0
HasTrees kinds f =
    (is : IsPredictive (grammar_of brackets) (sets_of brackets)) (may : MayEnd (sets_of brackets) 0)
    → trees_of _ _ _ (decided (grammar_of brackets) (sets_of brackets) is 0 may kinds) ≡ Some f

abbrev pub HasFault : List ℕ → ℕ → Type 0
HasFault kinds place =
    (is : IsPredictive (grammar_of brackets) (sets_of brackets)) (may : MayEnd (sets_of brackets) 0)
    → place_of _ _ _ (decided (grammar_of brackets) (sets_of brackets) is 0 may kinds) ≡ Some place

-- ()
abbrev pub PairIsRow : Type 0
PairIsRow = HasTrees (0 ∷ 1 ∷ []) (Node 1 (Leaf 0 (Node 0 End (Leaf 1 (Node 0 End End)))) End)

-- ()) has one too many
abbrev pub LastIsTooMany : Type 0
LastIsTooMany = HasFault (0 ∷ 1 ∷ 1 ∷ []) 2

-- (() has one too few, so the fault is behind the last
abbrev pub OneIsMissing : Type 0
OneIsMissing = HasFault (0 ∷ 0 ∷ 1 ∷ []) 3
