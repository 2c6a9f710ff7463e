-- A typed grammar is predictive where the list of its rules is, by the computed test.
use Rattle.std.proofs.Common.{◌≡◌, ◌<◌, ℕ, zero, suc, true, List, [], ◌∷◌, length, map, Some, refl, ap, sym, ◌∙◌, subst, arith}
use Rattle.predictive.proofs.ByTest.{by_test}
use Rattle.predictive.specs.Grammar.{Grammar}
use Rattle.predictive.specs.Listed.{Facts, rule_at, grammar_of, sets_of, is_predictive}
use Rattle.predictive.specs.Predictive.{Sets, nullable_row, first_row, select, IsFollowed, cost_row, RanksBelow, IsPredictive}
use Rattle.predictive.specs.Listing.{listed, plain}
use Rattle.predictive.specs.Typed.{Rule, Vocabulary, meaning_of, nth}

count_is : (w : Vocabulary) (rules : List (Rule w)) → length (map plain rules) ≡ length rules
count_is w [] = refl
count_is w (r ∷ rs) = ap (λ n. suc n) (count_is w rs)

pub rule_is : (w : Vocabulary) (first : Rule w) (rules : List (Rule w)) (p : ℕ) → p < length rules → rule_at (map plain rules) p ≡ plain (nth first rules p)
rule_is w first [] p h = absurd (grind arith)
rule_is w first (r ∷ rs) zero h = refl
rule_is w first (r ∷ rs) (suc p) h = rule_is w first rs p (grind arith)

-- two grammars of the same rules
moved : (g h : Grammar) (s : Sets) → g.count ≡ h.count → ((p : ℕ) → p < h.count → (g.left p ≡ h.left p) × (g.right p ≡ h.right p)) → IsPredictive g s → IsPredictive h s
moved g h s e same is = record {
  nullable = λ p i q. subst (λ l. s.nullable l ≡ true) (same p i).0 (is.nullable p (inside p i) (subst (λ r. nullable_row s r ≡ true) (sym (same p i).1) q));
  first = λ p i k q. subst (λ l. s.first l k ≡ true) (same p i).0 (is.first p (inside p i) k (subst (λ r. first_row s r k ≡ true) (sym (same p i).1) q));
  follow = λ p i.
      subst (λ l. IsFollowed s (h.right p) (s.follow l)) (same p i).0
      (subst (λ r. IsFollowed s r (s.follow (g.left p))) (same p i).1 (is.follow p (inside p i)));
  table = λ p i k q.
      subst (λ l. s.table l k ≡ Some p) (same p i).0
      (is.table p (inside p i) k
      (subst (λ l. select s (g.right p) (s.follow l) k ≡ true) (sym (same p i).0)
      (subst (λ r. select s r (s.follow (h.left p)) k ≡ true) (sym (same p i).1) q)));
  entry = λ n k p q.
      let x = is.entry n k p q in
      let i : p < h.count = subst (λ c. p < c) e x.0 in
      (i, sym (same p i).0 ∙ x.1);
  cost = λ p i.
      subst (λ l. suc (cost_row s (h.right p)) < s.cost l) (same p i).0
      (subst (λ r. suc (cost_row s r) < s.cost (g.left p)) (same p i).1 (is.cost p (inside p i)));
  shortest = λ n i.
      let x = is.shortest n i in
      let j : s.shortest n < h.count = subst (λ c. s.shortest n < c) e x.0 in
      (j, sym (same (s.shortest n) j).0 ∙ x.1, subst (λ r. RanksBelow s r (s.rank n)) (same (s.shortest n) j).1 x.2);
}
  where
    inside : (p : ℕ) → p < h.count → p < g.count
    inside p i = subst (λ c. p < c) (sym e) i

pub predictive :
    (w : Vocabulary) (written : (n : ℕ) → w.Value n → List w.Token) (first : Rule w) (rules : List (Rule w)) (facts : List Facts)
    → is_predictive (listed facts rules) ≡ true → IsPredictive (meaning_of w written first rules).grammar (sets_of (listed facts rules))
predictive w written first rules facts e =
    moved
    (grammar_of (listed facts rules))
    (meaning_of w written first rules).grammar
    (sets_of (listed facts rules))
    (count_is w rules)
    (λ p h. (ap (λ r. r.left) (rule_is w first rules p h), ap (λ r. r.right) (rule_is w first rules p h)))
    (by_test (listed facts rules) e)
