-- At most one line begins in an expression: its operation is counted as one.
use Rattle.std.proofs.Common.{◌≡◌, ◌<◌, ◌≤◌, ℕ, zero, suc, ◌+◌, Bool, true, false, not, cond, ◌&&◌, ◌||◌, nat_eq, nat_le, List, [], ◌∷◌, ◌++◌, get_or, length, refl, sym, subst, arith}
use Rattle.std.proofs.lemmas.Bool.{leb-true, ltb-true}
use Rattle.predictive.proofs.GapListing.{both}
use Rattle.predictive.specs.GapListing.{opened_rules}
use Rattle.ir_core.specs.declared.limits.Limit.TheVariants as limit
use Rattle.ir_core.specs.Limits.{line_limit}
use Rattle.module_grammar.specs.Rules.{rules}
use Rattle.module_grammar.specs.Tokens.{gap, token_grammar}
use Rattle.module_spelling.specs.Opened.{Passes, definition, is_among, lines, lines_at, lines_in}
use Rattle.predictive.specs.Grammar.{Forest, End, Leaf, Node, Forms}
use Rattle.predictive.specs.Listed.{Rule, rule_at}
use Rattle.predictive.specs.declared.symbol.Symbol.{Symbol as Sign}
use Rattle.predictive.specs.declared.symbol.Symbol.TheVariants.{Kind, Non}

-- alignments, types, constants, values, operators
abbrev lineless : List ℕ
lineless = 5 ∷ 33 ∷ 34 ∷ 35 ∷ 36 ∷ 37 ∷ 42 ∷ 43 ∷ 44 ∷ 45 ∷ 46 ∷ 50 ∷ 51 ∷ 52 ∷ 53 ∷ 54 ∷ 75 ∷ []

-- how many lines may begin in a nonterminal: in an operation or an expression one, and in those that stand in none 2 stands for any number
abbrev most : ℕ → ℕ
most n = cond (is_among n lineless) 0 (cond (is_among n (55 ∷ 74 ∷ [])) 1 2)

most_in : List Sign → ℕ
most_in [] = 0
most_in (Kind k ∷ row) = most_in row
most_in (Non n ∷ row) = most n + most_in row

rule_test : ℕ → Rule → Bool
rule_test p r = nat_le 2 (most r.left) || (nat_le (lines_at p + most_in r.right) (most r.left) && not (nat_eq p definition))

rules_test : ℕ → List Rule → Bool
rules_test p [] = true
rules_test p (r ∷ rs) = rule_test p r && rules_test (suc p) rs

tested : rules_test 0 (opened_rules gap rules) ≡ true
unfolding rules_test rule_test most_in
tested = refl

tested_at : (rs : List Rule) (i p : ℕ) → rules_test i rs ≡ true → p < length rs → rule_test (i + p) (rule_at rs p) ≡ true
unfolding rules_test
tested_at [] i p e h = absurd (grind arith)
tested_at (r ∷ rs) i zero e h = let here : i ≡ i + 0 = omega arith in subst (λ j. rule_test j r ≡ true) here (both (rule_test i r) (rules_test (suc i) rs) e).0
tested_at (r ∷ rs) i (suc p) e h =
    let next : suc i + p ≡ i + suc p = omega arith in
    subst (λ j. rule_test j (rule_at rs p) ≡ true) next (tested_at rs (suc i) p (both (rule_test i r) (rules_test (suc i) rs) e).1 (grind arith))

record Tested (p : ℕ) : Type 0 where
  pub few : lines_at p + most_in (token_grammar.right p) ≤ most (token_grammar.left p)
  pub other : nat_eq p definition ≡ false

of_rule : (p : ℕ) → p < token_grammar.count → most (token_grammar.left p) ≤ 1 → Tested p
unfolding rule_test
of_rule p h left =
    let same : 0 + p ≡ p = omega arith in
    let test : rule_test p (rule_at (opened_rules gap rules) p) ≡ true = subst (λ j. rule_test j (rule_at (opened_rules gap rules) p) ≡ true) same (tested_at (opened_rules gap rules) 0 p tested h) in
    go (nat_le 2 (most (token_grammar.left p))) refl (nat_le (lines_at p + most_in (token_grammar.right p)) (most (token_grammar.left p))) refl (nat_eq p definition) refl test
  where
    go :
        (b : Bool) → nat_le 2 (most (token_grammar.left p)) ≡ b → (c : Bool) → nat_le (lines_at p + most_in (token_grammar.right p)) (most (token_grammar.left p)) ≡ c
        → (d : Bool) → nat_eq p definition ≡ d → (b || (c && not d)) ≡ true → Tested p
    go true many c few d is t = absurd (omega (arith, left, leb-true 2 (most (token_grammar.left p)) many))
    go false many true few false is t = record { few = leb-true (lines_at p + most_in (token_grammar.right p)) (most (token_grammar.left p)) few; other = is }
    go false many true few true is t = cc
    go false many false few d is t = cc

abbrev AllUpTo : ℕ → List ℕ → Type 0
AllUpTo b [] = Unit {0}
AllUpTo b (n ∷ ns) = (n ≤ b) × AllUpTo b ns

up_to_more : (b c : ℕ) (ns : List ℕ) → b ≤ c → AllUpTo b ns → AllUpTo c ns
up_to_more b c [] more h = tt
up_to_more b c (n ∷ ns) more h = let here = h.0 in (omega arith, up_to_more b c ns more h.1)

up_to_append : (b : ℕ) (ms ns : List ℕ) → AllUpTo b ms → AllUpTo b ns → AllUpTo b (ms ++ ns)
up_to_append b [] ns h k = k
up_to_append b (m ∷ ms) ns h k = (h.0, up_to_append b ms ns h.1 k)

up_to_at : (b : ℕ) (ns : List ℕ) (k : ℕ) → AllUpTo b ns → get_or ns k 0 ≤ b
up_to_at b [] k h = omega arith
up_to_at b (n ∷ ns) zero h = h.0
up_to_at b (n ∷ ns) (suc k) h = up_to_at b ns k h.1

-- as many lines as these may have begin in it, wherever it stands
record HasFew (few : ℕ) (f : Forest) : Type 0 where
  pub each : (n : ℕ) → AllUpTo (n + few) (lines n f)
  pub all : lines_in f ≤ few

node_few : (p : ℕ) (kids f : Forest) (m a b : ℕ) → nat_eq p definition ≡ false → lines_at p + a ≤ m → HasFew a kids → HasFew b f → HasFew (m + b) (Node p kids f)
node_few p kids f m a b other fits inner outer =
    let within = inner.all in
    let behind = outer.all in
    record {
      each = λ n.
          let first = up_to_more (n + lines_at p + a) (n + (m + b)) (lines (n + lines_at p) kids) (omega arith) (inner.each (n + lines_at p)) in
          let second = up_to_more (n + lines_at p + lines_in kids + b) (n + (m + b)) (lines (n + lines_at p + lines_in kids) f) (omega arith) (outer.each (n + lines_at p + lines_in kids)) in
          subst (λ d. AllUpTo (n + (m + b)) (cond d (lines 0 kids ++ lines n f) (lines (n + lines_at p) kids ++ lines (n + lines_at p + lines_in kids) f))) (sym other)
          (up_to_append (n + (m + b)) (lines (n + lines_at p) kids) (lines (n + lines_at p + lines_in kids) f) first second);
      all = omega arith;
    }

few : (f : Forest) (s : List Sign) → most_in s ≤ 1 → Forms token_grammar f s → HasFew (most_in s) f
unfolding most_in
few End [] h formed = record { each = λ n. tt; all = omega arith }
few (Leaf k f) (Kind c ∷ s) h formed =
    let more = few f s h formed.1 in
    record { each = λ n. (omega arith, more.each n); all = more.all }
few (Node p kids f) (Non m ∷ s) h formed =
    let t : Tested p = of_rule p formed.0 (subst (λ n. most n ≤ 1) (sym formed.1) (omega arith)) in
    let fits : lines_at p + most_in (token_grammar.right p) ≤ most m = subst (λ n. lines_at p + most_in (token_grammar.right p) ≤ most n) formed.1 t.few in
    node_few p kids f (most m) (most_in (token_grammar.right p)) (most_in s) t.other fits
    (few kids (token_grammar.right p) (omega arith) formed.2) (few f s (omega arith) formed.3)
few (Leaf k f) [] h formed = absurd formed
few (Leaf k f) (Non n ∷ s) h formed = absurd formed
few (Node p kids f) [] h formed = absurd formed
few (Node p kids f) (Kind c ∷ s) h formed = absurd formed
few End (x ∷ s) h formed = absurd formed

-- so no limit on lines is passed in an expression
pub no_lines_passed : (f : Forest) (k : ℕ) → Forms token_grammar f (Non 74 ∷ []) → Passes f k limit.Lines → ⊥
unfolding most_in
no_lines_passed f k formed passes =
    let has : HasFew 1 f = few f (Non 74 ∷ []) (omega arith) formed in
    let at : get_or (lines 0 f) k 0 ≤ 1 = up_to_at 1 (lines 0 f) k (has.each 0) in
    let many : 1 < line_limit = ltb-true 1 line_limit refl in
    absurd (omega (arith, at, many, passes))
