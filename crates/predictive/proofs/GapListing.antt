-- A grammar that is given by its rules has a gap where the rules stand apart, by the computed test.
use Rattle.std.proofs.Common.{◌≡◌, ◌<◌, ◌≤◌, ◌+◌, ◌-◌, ℕ, zero, suc, Bool, true, false, ◌&&◌, nat_eq, nat_le, nat_lt, cond, List, [], ◌∷◌, length, map, refl, ap, sym, ◌∙◌, subst, arith}
use Rattle.std.proofs.lemmas.Bool.{leb-true, ltb-true, lt-ltb, le-ltb}
use Rattle.predictive.specs.Grammar.{Derives}
use Rattle.predictive.specs.Listed.{Rule as PlainRule, rule_at}
use Rattle.predictive.specs.declared.symbol.Symbol.{Symbol}
use Rattle.predictive.specs.declared.symbol.Symbol.TheVariants.{Kind, Non}
use Rattle.predictive.specs.Meaning.{Meaning, EachOf}
use Rattle.predictive.specs.Typed.{IsVocabulary, Rule, Vocabulary, act_at, meaning_of, nth}
use Rattle.predictive.specs.Gapped.{IsGapped, IsLoose, IsTyped, pushed}
use Rattle.predictive.specs.GapListing.{Gap, are_loose, are_typed, dropped, gapped, loose_test, opened_rule, opened_rules, stand_apart, typed_test}

pub both : (a b : Bool) → (a && b) ≡ true → (a ≡ true) × (b ≡ true)
both true b e = (refl, e)
both false b e = cc

at_most : (a b : ℕ) → nat_le a b ≡ true → a ≤ b
at_most a b e = leb-true a b e

is_typed : (non : ℕ) (s : List Symbol) → typed_test non s ≡ true → IsTyped non s
is_typed non [] e = tt
is_typed non (Kind k ∷ s) e = is_typed non s e
is_typed non (Non n ∷ s) e = let parts = both (nat_lt n non) (typed_test non s) e in (ltb-true n non parts.0, is_typed non s parts.1)

is_loose : (non : ℕ) (s : List Symbol) → loose_test non s ≡ true → IsLoose non s
is_loose non [] e = tt
is_loose non (Kind k ∷ s) e = is_loose non s e
is_loose non (Non n ∷ s) e = let parts = both (nat_le non n) (loose_test non s) e in (at_most non n parts.0, is_loose non s parts.1)

loose_at : (non : ℕ) (rs : List PlainRule) → are_loose non rs ≡ true → (q : ℕ) → q < length rs → (non ≤ (rule_at rs q).left) × IsLoose non (rule_at rs q).right
loose_at non [] e q h = absurd (grind arith)
loose_at non (r ∷ rs) e zero h =
    let here = both (nat_le non r.left && loose_test non r.right) (are_loose non rs) e in
    let parts = both (nat_le non r.left) (loose_test non r.right) here.0 in
    (at_most non r.left parts.0, is_loose non r.right parts.1)
loose_at non (r ∷ rs) e (suc q) h =
    loose_at non rs (both (nat_le non r.left && loose_test non r.right) (are_loose non rs) e).1 q (grind arith)

-- a rule in front of others, and one behind
in_front : {w : Vocabulary} (gap : Gap) (first : Rule w) (rules : List (Rule w)) (p : ℕ) → p < length rules → rule_at (opened_rules gap rules) p ≡ opened_rule gap (nth first rules p)
in_front gap first [] p h = absurd (grind arith)
in_front gap first (r ∷ rs) zero h = refl
in_front gap first (r ∷ rs) (suc p) h = in_front gap first rs p (grind arith)

pub behind : {w : Vocabulary} (gap : Gap) (rules : List (Rule w)) (q : ℕ) → rule_at (opened_rules gap rules) (length rules + q) ≡ rule_at gap.rules q
behind gap [] q = let none : 0 + q ≡ q = omega (arith) in ap (λ i. rule_at gap.rules i) none
behind gap (r ∷ rs) q =
    let one : suc (length rs) + q ≡ suc (length rs + q) = omega (arith) in
    ap (λ i. rule_at (opened_rules gap (r ∷ rs)) i) one ∙ behind gap rs q

pub count_is : {w : Vocabulary} (gap : Gap) (rules : List (Rule w)) → length (opened_rules gap rules) ≡ length rules + length gap.rules
count_is gap [] = let none : length gap.rules ≡ 0 + length gap.rules = omega (arith) in none
count_is gap (r ∷ rs) =
    let one : suc (length rs + length gap.rules) ≡ suc (length rs) + length gap.rules = omega (arith) in
    ap (λ n. suc n) (count_is gap rs) ∙ one

module _ (w : Vocabulary) (are : IsVocabulary w) (written : (n : ℕ) → w.Value n → List w.Token) (first : Rule w) (rules : List (Rule w)) (gap : Gap) where
  abbrev m : Meaning
  m = meaning_of w written first rules

  typed_at : (rs : List (Rule w)) → are_typed gap.non rs ≡ true → (p : ℕ) → p < length rs → ((nth first rs p).left < gap.non) × IsTyped gap.non (nth first rs p).right
  typed_at [] e p h = absurd (grind arith)
  typed_at (r ∷ rs) e zero h =
      let here = both (nat_lt r.left gap.non && typed_test gap.non r.right) (are_typed gap.non rs) e in
      let parts = both (nat_lt r.left gap.non) (typed_test gap.non r.right) here.0 in
      (ltb-true r.left gap.non parts.0, is_typed gap.non r.right parts.1)
  typed_at (r ∷ rs) e (suc p) h =
      typed_at rs (both (nat_lt r.left gap.non && typed_test gap.non r.right) (are_typed gap.non rs) e).1 p (grind arith)

  drops : (s : List Symbol) (vs : EachOf w.Content (λ n. Unit {0}) s) (below : List w.Part) → dropped w s (pushed (meaning_of w written first rules) s vs below) ≡ below
  drops [] vs below = refl
  drops (Kind k ∷ s) vs below =
      ap (λ l. w.unkept k l (λ c s. s)) (drops s vs.1 (w.kept (w.token k vs.0) below)) ∙ are.kept k vs.0 below (λ c s. s)
  drops (Non n ∷ s) vs below = drops s vs.1 below

  -- the place of a rule behind the typed ones
  pub at_behind :
      (p : ℕ) → length rules ≤ p → p < length (opened_rules gap rules)
      → (p - length rules < length gap.rules) × (rule_at (opened_rules gap rules) p ≡ rule_at gap.rules (p - length rules))
  at_behind p above h =
      let count : length (opened_rules gap rules) ≡ length rules + length gap.rules = count_is gap rules in
      let at : p ≡ length rules + (p - length rules) = omega (arith, above) in
      (omega (arith, above, h, count), ap (λ i. rule_at (opened_rules gap rules) i) at ∙ behind gap rules (p - length rules))

  -- the nonterminal of a typed rule is below the gap's
  pub left_below : stand_apart rules gap ≡ true → (p : ℕ) → p < length rules → (rule_at (opened_rules gap rules) p).left < gap.non
  left_below apart p h =
      subst (λ r. r.left < gap.non) (sym (in_front gap first rules p h))
      (typed_at rules (both (are_typed gap.non rules) (are_loose gap.non gap.rules) apart).0 p h).0

  pub is_gapped :
      (Fit : List w.Token → Type 0) → stand_apart rules gap ≡ true
      → ((k : ℕ) → nat_eq k gap.kind ≡ true → (c : w.Content k) (s : List w.Part) → w.kept (w.token k c) s ≡ s)
      → ((ts : List w.Token) → Derives (gapped w written first rules gap Fit).grammar (Non gap.non ∷ []) (map w.kind_of ts) → Fit ts)
      → ((ts : List w.Token) → Fit ts → Derives (gapped w written first rules gap Fit).grammar (Non gap.non ∷ []) (map w.kind_of ts))
      → IsGapped (meaning_of w written first rules) (gapped w written first rules gap Fit)
  is_gapped Fit apart nothing fit derived =
      let parts = both (are_typed gap.non rules) (are_loose gap.non gap.rules) apart in
      record {
        more = let count : length (opened_rules gap rules) ≡ length rules + length gap.rules = count_is gap rules in omega (arith, count);
        left = λ p h. ap (λ r. r.left) (in_front gap first rules p h);
        right = λ p h. ap (λ r. r.right) (in_front gap first rules p h);
        act = λ p h s.
            ap (λ b. cond b (act_at w 0 rules p s) (dropped w (rule_at gap.rules (p - length rules)).right s)) (lt-ltb p (length rules) h);
        typed_left = λ p h. (typed_at rules parts.0 p h).0;
        typed = λ p h. (typed_at rules parts.0 p h).1;
        loose_left = λ p above h.
            let at = at_behind p above h in
            subst (λ r. gap.non ≤ r.left) (sym at.1) (loose_at gap.non gap.rules parts.1 (p - length rules) at.0).0;
        loose = λ p above h.
            let at = at_behind p above h in
            subst (λ r. IsLoose gap.non r.right) (sym at.1) (loose_at gap.non gap.rules parts.1 (p - length rules) at.0).1;
        drops = λ p above h vs below.
            let at = at_behind p above h in
            ap (λ b. cond b (act_at w 0 rules p (pushed (meaning_of w written first rules) (rule_at (opened_rules gap rules) p).right vs below)) (dropped w (rule_at gap.rules (p - length rules)).right (pushed (meaning_of w written first rules) (rule_at (opened_rules gap rules) p).right vs below))) (le-ltb p (length rules) above)
            ∙ ap (λ r. dropped w r.right (pushed (meaning_of w written first rules) (rule_at (opened_rules gap rules) p).right vs below)) (sym at.1)
            ∙ drops (rule_at (opened_rules gap rules) p).right vs below;
        says_nothing = nothing;
        fit = fit;
        derived = derived;
      }
