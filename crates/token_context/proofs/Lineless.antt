-- No line begins in types or parameters.
use Rattle.std.proofs.Common.{◌≡◌, ◌<◌, ℕ, zero, suc, ◌+◌, Bool, true, false, not, cond, ◌&&◌, ◌||◌, nat_eq, List, [], ◌∷◌, ◌++◌, get_or, length, refl, ap, sym, ◌∙◌, subst, arith}
use Rattle.std.proofs.lemmas.Bool.{eqb-true}
use Rattle.predictive.proofs.GapListing.{both}
use Rattle.predictive.specs.GapListing.{opened_rules}
use Rattle.ir_core.specs.declared.limits.Limit.TheVariants as limit
use Rattle.module_grammar.specs.Rules.{rules}
use Rattle.module_grammar.specs.Tokens.{gap, token_grammar}
use Rattle.module_spelling.specs.Opened.{Passes, definition, is_among, lines, lines_at, lines_in}
use Rattle.predictive.specs.Grammar.{Forest, End, Leaf, Node, Forms}
use Rattle.predictive.specs.Listed.{Rule, rule_at}
use Rattle.predictive.specs.declared.symbol.Symbol.{Symbol as Sign}
use Rattle.predictive.specs.declared.symbol.Symbol.TheVariants.{Kind, Non}

-- the nonterminals of types and parameters
abbrev pub lineless : ℕ → Bool
lineless n = is_among n (38 ∷ 40 ∷ 39 ∷ 33 ∷ 34 ∷ 35 ∷ 36 ∷ 37 ∷ 7 ∷ 8 ∷ 9 ∷ 19 ∷ 20 ∷ 21 ∷ 22 ∷ [])

row_test : List Sign → Bool
row_test [] = true
row_test (Kind k ∷ row) = row_test row
row_test (Non n ∷ row) = lineless n && row_test row

rule_test : ℕ → Rule → Bool
rule_test p r = not (lineless r.left) || (row_test r.right && (nat_eq (lines_at p) 0 && not (nat_eq p definition)))

rules_test : ℕ → List Rule → Bool
rules_test p [] = true
rules_test p (r ∷ rs) = rule_test p r && rules_test (suc p) rs

tested : rules_test 0 (opened_rules gap rules) ≡ true
unfolding rules_test rule_test row_test
tested = refl

tested_at : (rs : List Rule) (i p : ℕ) → rules_test i rs ≡ true → p < length rs → rule_test (i + p) (rule_at rs p) ≡ true
unfolding rules_test
tested_at [] i p e h = absurd (grind arith)
tested_at (r ∷ rs) i zero e h = let here : i ≡ i + 0 = omega arith in subst (λ j. rule_test j r ≡ true) here (both (rule_test i r) (rules_test (suc i) rs) e).0
tested_at (r ∷ rs) i (suc p) e h =
    let next : suc i + p ≡ i + suc p = omega arith in
    subst (λ j. rule_test j (rule_at rs p) ≡ true) next (tested_at rs (suc i) p (both (rule_test i r) (rules_test (suc i) rs) e).1 (grind arith))

record Tested (p : ℕ) : Type 0 where
  pub row : row_test (token_grammar.right p) ≡ true
  pub no_lines : lines_at p ≡ 0
  pub other : nat_eq p definition ≡ false

of_rule : (p : ℕ) → p < token_grammar.count → lineless (token_grammar.left p) ≡ true → Tested p
unfolding rule_test
of_rule p h left =
    let same : 0 + p ≡ p = omega arith in
    let test : rule_test p (rule_at (opened_rules gap rules) p) ≡ true = subst (λ j. rule_test j (rule_at (opened_rules gap rules) p) ≡ true) same (tested_at (opened_rules gap rules) 0 p tested h) in
    go (lineless (token_grammar.left p)) left (nat_eq p definition) refl test
  where
    go :
        (b : Bool) → b ≡ true → (d : Bool) → nat_eq p definition ≡ d
        → (not b || (row_test (token_grammar.right p) && (nat_eq (lines_at p) 0 && not d))) ≡ true → Tested p
    go false e d is t = cc
    go true e true is t = let parts = both (row_test (token_grammar.right p)) (nat_eq (lines_at p) 0 && false) t in let end = both (nat_eq (lines_at p) 0) false parts.1 in let no_more : false ≡ true = end.1 in cc
    go true e false is t =
        let parts = both (row_test (token_grammar.right p)) (nat_eq (lines_at p) 0 && true) t in
        record { row = parts.0; no_lines = eqb-true (lines_at p) 0 (both (nat_eq (lines_at p) 0) true parts.1).0; other = is }

abbrev AllZero : List ℕ → Type 0
AllZero [] = Unit {0}
AllZero (n ∷ ns) = (n ≡ 0) × AllZero ns

zero_append : (a b : List ℕ) → AllZero a → AllZero b → AllZero (a ++ b)
zero_append [] b h k = k
zero_append (n ∷ a) b h k = (h.0, zero_append a b h.1 k)

zero_at : (ns : List ℕ) (k : ℕ) → AllZero ns → get_or ns k 0 ≡ 0
zero_at [] k h = refl
zero_at (n ∷ ns) zero h = h.0
zero_at (n ∷ ns) (suc k) h = zero_at ns k h.1

abbrev HasNone : Forest → Type 0
HasNone f = AllZero (lines 0 f) × (lines_in f ≡ 0)

node_none : (p : ℕ) (kids f : Forest) → Tested p → HasNone kids → HasNone f → HasNone (Node p kids f)
node_none p kids f t inner outer =
    let total : lines_at p + lines_in kids + lines_in f ≡ 0 =
    ap (λ a. a + lines_in kids + lines_in f) t.no_lines ∙ ap (λ a. 0 + a + lines_in f) inner.1 ∙ ap (λ a. 0 + 0 + a) outer.1 in
    let all : lines 0 (Node p kids f) ≡ lines 0 kids ++ lines 0 f =
    ap (λ b. cond b (lines 0 kids ++ lines 0 f) (lines (0 + lines_at p) kids ++ lines (0 + lines_at p + lines_in kids) f)) t.other
    ∙ ap (λ a. lines (0 + a) kids ++ lines (0 + a + lines_in kids) f) t.no_lines
    ∙ ap (λ a. lines 0 kids ++ lines (0 + 0 + a) f) inner.1 in
    (subst AllZero (sym all) (zero_append (lines 0 kids) (lines 0 f) inner.0 outer.0), total)

none : (f : Forest) (s : List Sign) → row_test s ≡ true → Forms token_grammar f s → HasNone f
unfolding row_test
none End s e formed = (tt, refl)
none (Leaf k f) (Kind c ∷ s) e formed = let more = none f s e formed.1 in ((refl, more.0), more.1)
none (Node p kids f) (Non n ∷ s) e formed =
    let parts = both (lineless n) (row_test s) e in
    let t : Tested p = of_rule p formed.0 (ap lineless formed.1 ∙ parts.0) in
    node_none p kids f t (none kids (token_grammar.right p) t.row formed.2) (none f s parts.1 formed.3)
none (Leaf k f) [] e formed = absurd formed
none (Leaf k f) (Non n ∷ s) e formed = absurd formed
none (Node p kids f) [] e formed = absurd formed
none (Node p kids f) (Kind c ∷ s) e formed = absurd formed

-- so no limit on lines is passed there
pub no_lines_passed : (n : ℕ) (f : Forest) (k : ℕ) → lineless n ≡ true → Forms token_grammar f (Non n ∷ []) → Passes f k limit.Lines → ⊥
unfolding row_test
no_lines_passed n f k e formed passes =
    let at : get_or (lines 0 f) k 0 ≡ 0 = zero_at (lines 0 f) k (none f (Non n ∷ []) (ap (λ b. b && true) e) formed).0 in
    absurd (omega (arith, at, passes))
