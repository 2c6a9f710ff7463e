-- The grammar of tokens has what the laws ask of a grammar.
use Rattle.std.proofs.Common.{◌≡◌, ◌<◌, ◌+◌, ℕ, zero, suc, Bool, true, ◌&&◌, List, [], ◌∷◌, length, refl, subst, arith}
use Rattle.std.proofs.lemmas.Bool.{and_parts}
use Rattle.predictive.specs.GapListing.{opened_rules}
use Rattle.module_grammar.specs.Rules.{rules}
use Rattle.module_grammar.specs.Tokens.{gap, token_grammar}
use Rattle.predictive.specs.Listed.{Rule, rule_at}
use Rattle.derivation_writer.specs.TokenLimits.Roles.{role_of}
use Rattle.derivation_writer.proofs.TokenLimits.Facts.{Counts, Stands, counts, stands}

abbrev all_from : (ℕ → Rule → Bool) → ℕ → List Rule → Bool
all_from test m [] = true
all_from test m (r ∷ rs) = test m r && all_from test (suc m) rs

at_index :
    (test : ℕ → Rule → Bool) (m : ℕ) (rs : List Rule) → all_from test m rs ≡ true → (p : ℕ) → p < length rs
    → test (m + p) (rule_at rs p) ≡ true
at_index test m [] e p h = absurd (grind arith)
at_index test m (r ∷ rs) e zero h = subst (λ j. test j r ≡ true) (omega arith) (and_parts _ _ e).0
at_index test m (r ∷ rs) e (suc p) h = subst (λ j. test j (rule_at rs p) ≡ true) (omega arith) (at_index test (suc m) rs (and_parts _ _ e).1 p (grind arith))

at_number : (test : ℕ → Rule → Bool) (rs : List Rule) → all_from test 0 rs ≡ true → (p : ℕ) → p < length rs → test p (rule_at rs p) ≡ true
at_number test rs e p h = subst (λ j. test j (rule_at rs p) ≡ true) (omega arith) (at_index test 0 rs e p h)

all_stand : all_from (λ p r. stands p r.left r.right) 0 (opened_rules gap rules) ≡ true
unfolding role_of
all_stand = refl

all_count : all_from (λ p r. counts p r.left r.right) 0 (opened_rules gap rules) ≡ true
unfolding role_of
all_count = refl

pub tokens_stand : Stands token_grammar
unfolding role_of
tokens_stand = record {
  stands = at_number (λ p r. stands p r.left r.right) (opened_rules gap rules) all_stand;
  pointed = refl;
  role = refl;
}

pub tokens_count : Counts token_grammar
unfolding role_of
tokens_count = record {
  counts = at_number (λ p r. counts p r.left r.right) (opened_rules gap rules) all_count;
  role = refl;
}
