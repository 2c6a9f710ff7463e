-- What the rules of the grammar of tokens have in common, by a test over all of them.
use Rattle.std.proofs.Common.{◌≡◌, ◌<◌, ◌≤◌, ◌+◌, ℕ, zero, suc, Bool, true, false, not, ◌&&◌, ◌||◌, nat_eq, nat_le, nat_lt, List, [], ◌∷◌, length, refl, subst, ◌⊎◌, inl, inr, arith}
use Rattle.std.proofs.lemmas.Bool.{eq-eqb, eqb-true, le-leb, ltb-true}
use Rattle.predictive.proofs.GapListing.{both}
use Rattle.predictive.specs.GapListing.{opened_rules}
use Rattle.module_grammar.specs.Rules.{rules}
use Rattle.module_grammar.specs.Tokens.{gap, token_grammar}
use Rattle.module_spelling.specs.Opened.{definition, lines_at}
use Rattle.predictive.specs.Listed.{Rule, rule_at}
use Rattle.predictive.specs.declared.symbol.Symbol.{Symbol as Sign}
use Rattle.predictive.specs.declared.symbol.Symbol.TheVariants.{Kind, Non}

-- neither a module nor an item stands there
abbrev pub is_inner : List Sign → Bool
is_inner [] = true
is_inner (Kind k ∷ s) = is_inner s
is_inner (Non n ∷ s) = nat_le 2 n && is_inner s

-- arguments of a call, which stand between parentheses
abbrev pub call_end : ℕ
call_end = 67

abbrev pub has_token : List Sign → Bool
has_token [] = false
has_token (Kind k ∷ s) = true
has_token (Non n ∷ s) = nat_eq n call_end || has_token s

implies : Bool → Bool → Bool
implies a b = not a || b

-- A module is none or an item and more; below an item no definition begins, and an item itself begins no line. Each line has a token, and none
-- begins in text that isn't kept.
rule_test : ℕ → Rule → Bool
rule_test p r =
    implies (nat_eq r.left 0) (nat_lt p 2)
    && (implies (nat_le 1 r.left) (is_inner r.right)
    && (implies (nat_eq r.left 1) (nat_eq (lines_at p) 0)
    && (implies (nat_le 2 r.left) (not (nat_eq p definition))
    && (implies (not (nat_eq (lines_at p) 0)) (has_token r.right)
    && (implies (nat_eq r.left call_end) (has_token r.right)
    && implies (nat_le 92 r.left) (nat_eq (lines_at p) 0))))))

rules_test : ℕ → List Rule → Bool
rules_test p [] = true
rules_test p (r ∷ rs) = rule_test p r && rules_test (suc p) rs

tested : rules_test 0 (opened_rules gap rules) ≡ true
unfolding rules_test rule_test implies
tested = refl

tested_at : (rs : List Rule) (i p : ℕ) → rules_test i rs ≡ true → p < length rs → rule_test (i + p) (rule_at rs p) ≡ true
unfolding rules_test
tested_at [] i p e h = absurd (grind arith)
tested_at (r ∷ rs) i zero e h = let here : i ≡ i + 0 = omega arith in subst (λ j. rule_test j r ≡ true) here (both (rule_test i r) (rules_test (suc i) rs) e).0
tested_at (r ∷ rs) i (suc p) e h =
    let next : suc i + p ≡ i + suc p = omega arith in
    subst (λ j. rule_test j (rule_at rs p) ≡ true) next (tested_at rs (suc i) p (both (rule_test i r) (rules_test (suc i) rs) e).1 (grind arith))

-- what is so of a rule of this number
pub record Facts (p : ℕ) (r : Rule) : Type 0 where
  pub first : r.left ≡ 0 → p < 2
  pub inner : 1 ≤ r.left → is_inner r.right ≡ true
  pub item : r.left ≡ 1 → lines_at p ≡ 0
  pub other : 2 ≤ r.left → nat_eq p definition ≡ false
  pub shown : (lines_at p ≡ 0) ⊎ (has_token r.right ≡ true)
  pub ended : r.left ≡ call_end → has_token r.right ≡ true
  pub dropped : 92 ≤ r.left → lines_at p ≡ 0

follows : (a b : Bool) → implies a b ≡ true → a ≡ true → b ≡ true
unfolding implies
follows true b e is = e
follows false b e is = cc

negated : (b : Bool) → not b ≡ true → b ≡ false
negated true e = cc
negated false e = refl

either : (a b : Bool) → implies (not a) b ≡ true → (a ≡ true) ⊎ (b ≡ true)
unfolding implies
either true b e = inl refl
either false b e = inr e

facts : (p : ℕ) (r : Rule) → rule_test p r ≡ true → Facts p r
unfolding rule_test
facts p r e =
    let a : Bool = implies (nat_eq r.left 0) (nat_lt p 2) in
    let b : Bool = implies (nat_le 1 r.left) (is_inner r.right) in
    let c : Bool = implies (nat_eq r.left 1) (nat_eq (lines_at p) 0) in
    let d : Bool = implies (nat_le 2 r.left) (not (nat_eq p definition)) in
    let f : Bool = implies (not (nat_eq (lines_at p) 0)) (has_token r.right) in
    let o : Bool = implies (nat_eq r.left call_end) (has_token r.right) in
    let g : Bool = implies (nat_le 92 r.left) (nat_eq (lines_at p) 0) in
    let at_a = both a (b && (c && (d && (f && (o && g))))) e in
    let at_b = both b (c && (d && (f && (o && g)))) at_a.1 in
    let at_c = both c (d && (f && (o && g))) at_b.1 in
    let at_d = both d (f && (o && g)) at_c.1 in
    let at_f = both f (o && g) at_d.1 in
    let at_o = both o g at_f.1 in
    record {
      first = λ left. ltb-true p 2 (follows (nat_eq r.left 0) (nat_lt p 2) at_a.0 (eq-eqb r.left 0 left));
      inner = λ left. follows (nat_le 1 r.left) (is_inner r.right) at_b.0 (le-leb 1 r.left left);
      item = λ left. eqb-true (lines_at p) 0 (follows (nat_eq r.left 1) (nat_eq (lines_at p) 0) at_c.0 (eq-eqb r.left 1 left));
      other = λ left. negated (nat_eq p definition) (follows (nat_le 2 r.left) (not (nat_eq p definition)) at_d.0 (le-leb 2 r.left left));
      shown = none_or (either (nat_eq (lines_at p) 0) (has_token r.right) at_f.0);
      ended = λ left. follows (nat_eq r.left call_end) (has_token r.right) at_o.0 (eq-eqb r.left call_end left);
      dropped = λ left. eqb-true (lines_at p) 0 (follows (nat_le 92 r.left) (nat_eq (lines_at p) 0) at_o.1 (le-leb 92 r.left left));
    }
  where
    none_or : (nat_eq (lines_at p) 0 ≡ true) ⊎ (has_token r.right ≡ true) → (lines_at p ≡ 0) ⊎ (has_token r.right ≡ true)
    none_or (inl e) = inl (eqb-true (lines_at p) 0 e)
    none_or (inr e) = inr e

abbrev pub Tested : ℕ → Type 0
Tested p = Facts p (rule_at (opened_rules gap rules) p)

pub of_rule : (p : ℕ) → p < token_grammar.count → Tested p
of_rule p h =
    let same : 0 + p ≡ p = omega arith in
    facts p (rule_at (opened_rules gap rules) p)
    (subst (λ j. rule_test j (rule_at (opened_rules gap rules) p) ≡ true) same (tested_at (opened_rules gap rules) 0 p tested h))
