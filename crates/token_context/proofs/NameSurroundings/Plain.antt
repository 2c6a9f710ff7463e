-- What is read as the types or the parameters of a function is balanced, and has no names of functions and no `unnamed_addr`.
use Rattle.std.proofs.Common.{◌≡◌, ◌<◌, ℕ, zero, suc, Bool, true, false, cond, not, ◌&&◌, ◌||◌, nat_eq, List, [], ◌∷◌, ◌++◌, length, map, Option, None, Some, refl, ap, sym, ◌∙◌, append_assoc, subst, arith}
use Rattle.std.proofs.lemmas.Bool.{eqb-true, eq-eqb}
use Rattle.predictive.proofs.GapJoint.{kinds_of_text}
use Rattle.predictive.proofs.GapListing.{both}
use Rattle.predictive.specs.GapListing.{opened_rules}
use Rattle.module_grammar.proofs.Lawful.{lawful}
use Rattle.module_grammar.proofs.WithGap.{is_gapped}
use Rattle.module_grammar.specs.Balanced.{IsBalanced, nothing, token}
use Rattle.module_grammar.specs.Rules.{meaning, rules}
use Rattle.module_grammar.specs.Sorts.{Holds, sort}
use Rattle.module_grammar.specs.Symbols.{Symbol, kind_of, unnamed_addr}
use Rattle.module_grammar.specs.Texts.{IsWritten}
use Rattle.module_grammar.specs.Tokens.{gap, token_grammar, with_gap}
use Rattle.predictive.specs.Grammar.{Derives, Forest, End, Leaf, Node, Forms, yield}
use Rattle.predictive.specs.Listed.{Rule, rule_at}
use Rattle.predictive.specs.declared.symbol.Symbol.{Symbol as Sign}
use Rattle.predictive.specs.declared.symbol.Symbol.TheVariants.{Kind, Non}
use Rattle.token_context.proofs.Classes.{class_plain, pair}
use Rattle.token_context.proofs.Held.{balanced_append}
use Rattle.token_context.proofs.Lineless.{lineless}
use Rattle.token_context.specs.Brackets.{class_of}
use Rattle.token_context.specs.declared.brackets.Class.{Class}
use Rattle.token_context.specs.declared.brackets.Class.TheVariants.{Opens, Closes, Plain, Outside}
use Rattle.predictive.proofs.Sound.{divided}
use Rattle.predictive.specs.Made.{Made}

-- ---- a test of the rules: where these brackets are open, the last one first, a right side closes them

abbrev is_name : ℕ → Bool
is_name k = nat_eq k 1 || nat_eq k (kind_of unnamed_addr)

abbrev closed_by : ℕ → List ℕ → Option (List ℕ)
closed_by o [] = None
closed_by o (p ∷ os) = cond (nat_eq p o) (Some os) None

abbrev opened_by : Class → ℕ → List ℕ → Option (List ℕ)
opened_by Opens k os = Some (k ∷ os)
opened_by (Closes o) k os = closed_by o os
opened_by Plain k os = Some os
opened_by Outside k os = None

abbrev goes_on : (List ℕ → Bool) → Option (List ℕ) → Bool
goes_on more None = false
goes_on more (Some os) = more os

abbrev is_closed : List ℕ → Bool
is_closed [] = true
is_closed (o ∷ os) = false

abbrev row_test : List Sign → List ℕ → Bool
row_test [] os = is_closed os
row_test (Kind k ∷ row) os = not (is_name k) && goes_on (row_test row) (opened_by (class_of k) k os)
row_test (Non n ∷ row) os = lineless n && row_test row os

rule_test : Rule → Bool
rule_test r = not (lineless r.left) || row_test r.right []

rules_test : List Rule → Bool
rules_test [] = true
rules_test (r ∷ rs) = rule_test r && rules_test rs

tested : rules_test (opened_rules gap rules) ≡ true
unfolding rules_test rule_test
tested = refl

tested_at : (rs : List Rule) (p : ℕ) → rules_test rs ≡ true → p < length rs → rule_test (rule_at rs p) ≡ true
unfolding rules_test
tested_at [] p e h = absurd (grind arith)
tested_at (r ∷ rs) zero e h = (both (rule_test r) (rules_test rs) e).0
tested_at (r ∷ rs) (suc p) e h = tested_at rs p (both (rule_test r) (rules_test rs) e).1 (grind arith)

of_rule : (p : ℕ) → p < token_grammar.count → lineless (token_grammar.left p) ≡ true → row_test (token_grammar.right p) [] ≡ true
unfolding rule_test
of_rule p h left = go (lineless (token_grammar.left p)) left (tested_at (opened_rules gap rules) p tested h)
  where
    go : (b : Bool) → b ≡ true → (not b || row_test (token_grammar.right p) []) ≡ true → row_test (token_grammar.right p) [] ≡ true
    go true e t = t
    go false e t = cc

-- ---- tokens that close what is open

-- between the brackets that close these all is balanced
abbrev IsRest : List ℕ → List Symbol → Type 0
IsRest [] ts = IsBalanced ts
IsRest (o ∷ os) ts =
    (a : List Symbol) × (c : Symbol) × (b : List Symbol) × (ts ≡ a ++ (c ∷ b)) × IsBalanced a × (class_of (kind_of c) ≡ Closes o) × IsRest os b

behind : (x ts : List Symbol) (os : List ℕ) → IsBalanced x → IsRest os ts → IsRest os (x ++ ts)
behind x ts [] h r = balanced_append x ts h r
behind x ts (o ∷ os) h r = (
  x ++ r.0,
  r.1,
  r.2,
  ap (λ l. x ++ l) r.3 ∙ sym (append_assoc x r.0 (r.1 ∷ r.2)),
  balanced_append x r.0 h r.4,
  r.5,
  r.6,
)

opening : (t : Symbol) (ts : List Symbol) (os : List ℕ) → IsRest (kind_of t ∷ os) ts → IsRest os (t ∷ ts)
opening t ts os r =
    subst (λ l. IsRest os (t ∷ l)) (append_assoc r.0 (r.1 ∷ []) r.2 ∙ sym r.3)
    (behind (t ∷ (r.0 ++ (r.1 ∷ []))) r.2 os (pair t r.1 r.0 r.5 r.4) r.6)

closing : (o : ℕ) (t : Symbol) (ts : List Symbol) (os next : List ℕ) → class_of (kind_of t) ≡ Closes o → closed_by o os ≡ Some next → IsRest next ts → IsRest os (t ∷ ts)
closing o t ts [] next is e r = cc
closing o t ts (p ∷ os) next is e r = go (nat_eq p o) refl e
  where
    go : (b : Bool) → nat_eq p o ≡ b → cond b (Some os) None ≡ Some next → IsRest (p ∷ os) (t ∷ ts)
    go true same e =
        let one : p ≡ o = eqb-true p o same in
        let stack : os ≡ next = cc in
        ([], t, ts, refl, nothing, is ∙ ap Closes (sym one), subst (λ l. IsRest l ts) (sym stack) r)
    go false other e = cc

by_class :
    (c : Class) (t : Symbol) (ts : List Symbol) (os next : List ℕ) → class_of (kind_of t) ≡ c → opened_by c (kind_of t) os ≡ Some next → IsRest next ts
    → IsRest os (t ∷ ts)
by_class Opens t ts os next is e r =
    let stack : kind_of t ∷ os ≡ next = cc in
    opening t ts os (subst (λ l. IsRest l ts) (sym stack) r)
by_class (Closes o) t ts os next is e r = closing o t ts os next is e r
by_class Plain t ts os next is e r =
    let stack : os ≡ next = cc in
    behind (t ∷ []) ts os (token t [] (class_plain (kind_of t) is) nothing) (subst (λ l. IsRest l ts) (sym stack) r)
by_class Outside t ts os next is e r = cc

-- ---- tokens without such names

abbrev pub HasNoNames : List Symbol → Type 0
HasNoNames [] = Unit {0}
HasNoNames (t ∷ ts) = (kind_of t ≡ 1 → ⊥) × (kind_of t ≡ kind_of unnamed_addr → ⊥) × HasNoNames ts

no_names_append : (a b : List Symbol) → HasNoNames a → HasNoNames b → HasNoNames (a ++ b)
no_names_append [] b h k = k
no_names_append (t ∷ a) b h k = (h.0, h.1, no_names_append a b h.2 k)

no_name : (k : ℕ) → not (is_name k) ≡ true → (k ≡ 1 → ⊥) × (k ≡ kind_of unnamed_addr → ⊥)
no_name k e = (λ h. first (eq-eqb k 1 h), λ h. second (eq-eqb k (kind_of unnamed_addr) h))
  where
    first : nat_eq k 1 ≡ true → ⊥
    first h = go (nat_eq k 1) (nat_eq k (kind_of unnamed_addr)) h e
      where
        go : (a b : Bool) → a ≡ true → not (a || b) ≡ true → ⊥
        go true b h e = cc
        go false b h e = cc

    second : nat_eq k (kind_of unnamed_addr) ≡ true → ⊥
    second h = go (nat_eq k 1) (nat_eq k (kind_of unnamed_addr)) h e
      where
        go : (a b : Bool) → b ≡ true → not (a || b) ≡ true → ⊥
        go true b h e = cc
        go false true h e = cc
        go false false h e = cc

-- ---- what is derived

abbrev Fits : List ℕ → List Symbol → Type 0
Fits os ts = IsRest os ts × HasNoNames ts

leaf_fits :
    (more : List ℕ → Bool) (k : ℕ) (t : Symbol) (ts : List Symbol) (os : List ℕ) → kind_of t ≡ k → not (is_name k) ≡ true
    → goes_on more (opened_by (class_of k) k os) ≡ true → ((next : List ℕ) → more next ≡ true → Fits next ts) → Fits os (t ∷ ts)
leaf_fits more k t ts os is other e rest = go (opened_by (class_of k) k os) refl e
  where
    go : (o : Option (List ℕ)) → opened_by (class_of k) k os ≡ o → goes_on more o ≡ true → Fits os (t ∷ ts)
    go None at e = cc
    go (Some next) at e =
        let behind = rest next e in
        let names = no_name k other in (
          by_class (class_of (kind_of t)) t ts os next refl (ap (λ j. opened_by (class_of j) j os) is ∙ at) behind.0,
          (λ h. names.0 (sym is ∙ h), λ h. names.1 (sym is ∙ h), behind.1),
        )

fits :
    (f : Forest) (row : List Sign) (os : List ℕ) → row_test row os ≡ true → Forms token_grammar f row → (ts : List Symbol) → map kind_of ts ≡ yield f
    → Fits os ts
fits End [] [] e formed [] at = (nothing, tt)
fits End [] (o ∷ os) e formed ts at = cc
fits End [] [] e formed (t ∷ ts) at = cc
fits (Leaf k f) (Kind c ∷ row) os e formed [] at = cc
fits (Leaf k f) (Kind c ∷ row) os e formed (t ∷ ts) at =
    let first : kind_of t ≡ k = cc in
    let others : map kind_of ts ≡ yield f = cc in
    let parts = both (not (is_name c)) (goes_on (row_test row) (opened_by (class_of c) c os)) e in
    leaf_fits (row_test row) c t ts os (first ∙ sym formed.0) parts.0 parts.1 (λ next more. fits f row next more formed.1 ts others)
fits (Node p kids f) (Non n ∷ row) os e formed ts at =
    let parts = both (lineless n) (row_test row os) e in
    let d = divided kind_of (yield kids) (yield f) ts at in
    let inner = fits kids (token_grammar.right p) [] (of_rule p formed.0 (ap lineless formed.1 ∙ parts.0)) formed.2 d.0 d.3 in
    let outer = fits f row os parts.1 formed.3 d.1 d.4 in
    subst (λ l. Fits os l) d.2 (behind d.0 d.1 os inner.0 outer.0, no_names_append d.0 d.1 inner.1 outer.1)
fits (Leaf k f) [] os e formed ts at = absurd formed
fits (Leaf k f) (Non n ∷ row) os e formed ts at = absurd formed
fits (Node p kids f) [] os e formed ts at = absurd formed
fits (Node p kids f) (Kind c ∷ row) os e formed ts at = absurd formed
fits End (x ∷ row) os e formed ts at = absurd formed

pub record IsPlain (ts : List Symbol) : Type 0 where
  pub balanced : IsBalanced ts
  pub no_names : HasNoNames ts

pub plain_forest :
    (n : ℕ) → lineless n ≡ true → (f : Forest) → Forms token_grammar f (Non n ∷ []) → (ts : List Symbol) → yield f ≡ map kind_of ts → IsPlain ts
plain_forest n e f formed ts at =
    let r = fits f (Non n ∷ []) [] row formed ts (sym at) in
    record { balanced = r.0; no_names = r.1 }
  where
    row : row_test (Non n ∷ []) [] ≡ true
    row = ap (λ b. b && true) e

pub plain_text :
    (n : ℕ) → n < 92 → lineless n ≡ true → ((v : meaning.Value n) → Made meaning n v) → (v : Holds (sort n)) (ts : List Symbol) → IsWritten (sort n) v ts
    → IsPlain ts
plain_text n small e made v ts written =
    let d : Derives token_grammar (Non n ∷ []) (map kind_of ts) = kinds_of_text meaning lawful with_gap is_gapped n small made (v, ts, written) in
    plain_forest n e d.0 d.1 ts d.2
