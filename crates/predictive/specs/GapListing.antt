-- A typed grammar with a gap as a parser has it: its rules without what they make, the gap's nonterminal in place of the gap, and behind
-- them the rules of what fills it.
use Rattle.std.specs.Prelude.{◌-◌, ℕ, Bool, true, nat_le, nat_lt, ◌&&◌, cond, List, [], ◌∷◌, ◌++◌, length, map}
use Rattle.predictive.specs.Listed.{Facts, Listed, Rule as PlainRule, grammar_of, rule_at}
use Rattle.predictive.specs.declared.symbol.Symbol.{Symbol}
use Rattle.predictive.specs.declared.symbol.Symbol.TheVariants.{Kind, Non}
use Rattle.predictive.specs.Typed.{Rule, Vocabulary, act_at, meaning_of}
use Rattle.predictive.specs.Gapped.{Gapped, opened}

-- the gap's kind, its nonterminal, and the rules of that and of those above it
pub record Gap : Type 0 where
  pub kind : ℕ
  pub non : ℕ
  pub rules : List PlainRule

abbrev pub opened_rule : {w : Vocabulary} → Gap → Rule w → PlainRule
opened_rule gap r = record { left = r.left; right = opened gap.kind gap.non r.right }

abbrev pub opened_rules : {w : Vocabulary} → Gap → List (Rule w) → List PlainRule
opened_rules gap rules = map (λ r. opened_rule gap r) rules ++ gap.rules

abbrev pub listed_with : {w : Vocabulary} → List Facts → List (Rule w) → Gap → Listed
listed_with facts rules gap = record { facts = facts; rules = opened_rules gap rules }

-- what a right side's tokens say is taken from the stack, the last one first, and dropped
abbrev pub dropped : (w : Vocabulary) → List Symbol → List w.Part → List w.Part
dropped w [] s = s
dropped w (Kind k ∷ row) s = w.unkept k (dropped w row s) (λ c s. s)
dropped w (Non n ∷ row) s = dropped w row s

abbrev pub act_with : (w : Vocabulary) → List (Rule w) → Gap → ℕ → List w.Part → List w.Part
act_with w rules gap p s =
    cond (nat_lt p (length rules)) (act_at w 0 rules p s) (dropped w (rule_at gap.rules (p - length rules)).right s)

abbrev pub gapped :
    (w : Vocabulary) (written : (n : ℕ) → w.Value n → List w.Token) (first : Rule w) (rules : List (Rule w)) (gap : Gap)
    → (List w.Token → Type 0) → Gapped (meaning_of w written first rules)
gapped w written first rules gap Fit = record {
  kind = gap.kind;
  non = gap.non;
  Fit = Fit;
  grammar = grammar_of (listed_with [] rules gap);
  act = λ p s. act_with w rules gap p s;
}

-- ---- the test that the rules stand apart

abbrev pub typed_test : ℕ → List Symbol → Bool
typed_test non [] = true
typed_test non (Kind k ∷ s) = typed_test non s
typed_test non (Non n ∷ s) = nat_lt n non && typed_test non s

abbrev pub loose_test : ℕ → List Symbol → Bool
loose_test non [] = true
loose_test non (Kind k ∷ s) = loose_test non s
loose_test non (Non n ∷ s) = nat_le non n && loose_test non s

abbrev pub are_typed : {w : Vocabulary} → ℕ → List (Rule w) → Bool
are_typed non [] = true
are_typed non (r ∷ rs) = (nat_lt r.left non && typed_test non r.right) && are_typed non rs

abbrev pub are_loose : ℕ → List PlainRule → Bool
are_loose non [] = true
are_loose non (r ∷ rs) = (nat_le non r.left && loose_test non r.right) && are_loose non rs

-- the nonterminals of the typed rules are below the gap's, and those of the others aren't
abbrev pub stand_apart : {w : Vocabulary} → List (Rule w) → Gap → Bool
stand_apart rules gap = are_typed gap.non rules && are_loose gap.non gap.rules
