-- The parts of a derivation's symbols are passed one after another.
use Rattle.std.proofs.Common.{◌≡◌, ◌<◌, ◌+◌, ℕ, zero, suc, Bool, true, false, cond, nat_eq, List, [], ◌∷◌, ◌++◌, length, refl, ap, sym, ◌∙◌, append_assoc, subst, arith}
use Rattle.std.proofs.lemmas.Bool.{eqb-true}
use Rattle.predictive.proofs.GapListing.{both}
use Rattle.predictive.specs.Grammar.{Forest, End, Leaf, Node, Forms, Grammar, yield}
use Rattle.predictive.specs.GapListing.{Gap, opened_rules}
use Rattle.predictive.specs.Listed.{Rule as PlainRule, rule_at, grammar_of}
use Rattle.predictive.specs.GapListing.{listed_with}
use Rattle.predictive.specs.Typed.{Rule, Vocabulary}
use Rattle.predictive.specs.declared.symbol.Symbol.{Symbol}
use Rattle.predictive.specs.declared.symbol.Symbol.TheVariants.{Kind, Non}
use Rattle.module_derivations.specs.FlatMarks.Flat as flat
use Rattle.module_derivations.specs.FlatMarks.Flat.{Mark, behind, marks_from, parts, rule_marks, skip, token_marks}
use Rattle.module_derivations.specs.FlatMarks.Seeing.{IsSeeing, Seeing, are_sized, breadth, is_sized_as}

pub skip_skip : {P : Type 0} (a b : ℕ) (s : List P) → skip (a + b) s ≡ skip b (skip a s)
skip_skip zero b s = let e : 0 + b ≡ b = omega arith in ap (λ n. skip n s) e
skip_skip (suc a) b s = let e : suc a + b ≡ suc (a + b) = omega arith in ap (λ n. skip n s) e ∙ skip_skip a b (behind s)

module _ (w : Vocabulary) (rules : List (Rule w)) (gap : Gap) (a : Seeing w) (is : IsSeeing w rules gap a) where
  abbrev g : Grammar
  g = grammar_of (listed_with [] rules gap)

  -- what the test says of each rule
  abbrev Sized : Bool → ℕ → PlainRule → Type 0
  Sized true p r = (a.size r.left ≡ 1) × (a.arity p ≡ breadth w a r.right)
  Sized false p r = a.size r.left ≡ breadth w a r.right

  by_test : (b : Bool) (p : ℕ) (r : PlainRule) → is_sized_as w a b p r ≡ true → Sized b p r
  by_test true p r e =
      let parts = both (nat_eq (a.size r.left) 1) (nat_eq (a.arity p) (breadth w a r.right)) e in
      (eqb-true (a.size r.left) 1 parts.0, eqb-true (a.arity p) (breadth w a r.right) parts.1)
  by_test false p r e = eqb-true (a.size r.left) (breadth w a r.right) e

  sized_in : (i : ℕ) (rs : List PlainRule) → are_sized w a i rs ≡ true → (q : ℕ) → q < length rs → (p : ℕ) → p ≡ i + q → Sized (a.chosen p) p (rule_at rs q)
  sized_in i [] e q h p at = absurd (grind arith)
  sized_in i (r ∷ rs) e zero h p at =
      let here : p ≡ i = omega (arith, at) in
      subst (λ p. Sized (a.chosen p) p r) (sym here) (by_test (a.chosen i) i r (both (is_sized_as w a (a.chosen i) i r) (are_sized w a (suc i) rs) e).0)
  sized_in i (r ∷ rs) e (suc q) h p at =
      sized_in (suc i) rs (both (is_sized_as w a (a.chosen i) i r) (are_sized w a (suc i) rs) e).1 q (grind arith) p (grind arith)

  sized_at : (p : ℕ) → p < g.count → Sized (a.chosen p) p (rule_at (opened_rules gap rules) p)
  sized_at p h = sized_in 0 (opened_rules gap rules) is.sized p h p (grind arith)

  module _ (leaf : ℕ → a.Part) where
    abbrev pub ahead : List Mark → List a.Part
    ahead ms = parts a.arity a.node leaf ms

    abbrev pub marks : ℕ → Forest → List Mark
    marks i f = marks_from a.chosen a.says i f

    leaf_passed_as : (b : Bool) (i : ℕ) (ms more : List Mark) → skip (cond b 1 0) (ahead ((cond b (flat.Token i ∷ []) [] ++ ms) ++ more)) ≡ ahead (ms ++ more)
    leaf_passed_as true i ms more = refl
    leaf_passed_as false i ms more = refl

    pub leaf_passed : (k i : ℕ) (ms more : List Mark) → skip (cond (a.says k) 1 0) (ahead ((token_marks a.chosen a.says k i ++ ms) ++ more)) ≡ ahead (ms ++ more)
    leaf_passed k i ms more = leaf_passed_as (a.says k) i ms more

    node_passed_as :
        (b : Bool) (p : ℕ) (r : PlainRule) → Sized b p r → (kids others more : List Mark)
        → ((more : List Mark) → skip (breadth w a r.right) (ahead (kids ++ more)) ≡ ahead more)
        → skip (a.size r.left) (ahead ((cond b (flat.Rule p ∷ []) [] ++ (kids ++ others)) ++ more)) ≡ ahead (others ++ more)
    node_passed_as true p r sized kids others more passes =
        let all = ahead ((kids ++ others) ++ more) in
        ap (λ n. skip n (a.node p all ∷ skip (a.arity p) all)) sized.0
        ∙ ap (λ n. skip n all) sized.1
        ∙ ap (λ l. skip (breadth w a r.right) (ahead l)) (append_assoc kids others more)
        ∙ passes (others ++ more)
    node_passed_as false p r sized kids others more passes =
        ap (λ n. skip n (ahead ((kids ++ others) ++ more))) sized
        ∙ ap (λ l. skip (breadth w a r.right) (ahead l)) (append_assoc kids others more)
        ∙ passes (others ++ more)

    pub node_passed :
        (p : ℕ) → p < g.count → (kids others more : List Mark)
        → ((more : List Mark) → skip (breadth w a (g.right p)) (ahead (kids ++ more)) ≡ ahead more)
        → skip (a.size (g.left p)) (ahead ((rule_marks a.chosen a.says p ++ (kids ++ others)) ++ more)) ≡ ahead (others ++ more)
    node_passed p h kids others more passes =
        node_passed_as (a.chosen p) p (rule_at (opened_rules gap rules) p) (sized_at p h) kids others more passes

    pub passed : (f : Forest) (s : List Symbol) → Forms g f s → (i : ℕ) (more : List Mark) → skip (breadth w a s) (ahead (marks i f ++ more)) ≡ ahead more
    passed End [] formed i more = refl
    passed (Leaf k f) (Kind c ∷ s) formed i more =
        let ms = marks (suc i) f in
        let all = ahead ((token_marks a.chosen a.says k i ++ ms) ++ more) in
        ap (λ j. skip (cond (a.says j) 1 0 + breadth w a s) all) formed.0
        ∙ skip_skip (cond (a.says k) 1 0) (breadth w a s) all
        ∙ ap (λ ps. skip (breadth w a s) ps) (leaf_passed k i ms more)
        ∙ passed f s formed.1 (suc i) more
    passed (Node p kids f) (Non n ∷ s) formed i more =
        let ms = marks i kids in
        let others = marks (i + length (yield kids)) f in
        let all = ahead ((rule_marks a.chosen a.says p ++ (ms ++ others)) ++ more) in
        ap (λ j. skip (a.size j + breadth w a s) all) (sym formed.1)
        ∙ skip_skip (a.size (g.left p)) (breadth w a s) all
        ∙ ap (λ ps. skip (breadth w a s) ps) (node_passed p formed.0 ms others more (λ more. passed kids (g.right p) formed.2 i more))
        ∙ passed f s formed.3 (i + length (yield kids)) more
    passed End (x ∷ s) formed i more = absurd formed
    passed (Leaf k f) [] formed i more = absurd formed
    passed (Leaf k f) (Non n ∷ s) formed i more = absurd formed
    passed (Node p kids f) [] formed i more = absurd formed
    passed (Node p kids f) (Kind c ∷ s) formed i more = absurd formed
