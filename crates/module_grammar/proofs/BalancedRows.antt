-- What is balanced is what the parser's grammar derives of it.
use Rattle.std.proofs.Common.{◌≡◌, ◌<◌, ◌+◌, ◌-◌, ℕ, zero, suc, Bool, true, false, not, ◌&&◌, ◌||◌, nat_eq, nat_lt, List, [], ◌∷◌, ◌++◌, length, map, refl, ap, sym, ◌∙◌, subst, arith}
use Rattle.std.proofs.lemmas.Bool.{eqb-true, ltb-true, ltb-false}
use Rattle.std.proofs.lemmas.List.{append-nil, map-append}
use Rattle.predictive.proofs.GapListing.{at_behind, behind, both, count_is, left_below}
use Rattle.predictive.specs.GapListing.{opened_rules, stand_apart}
use Rattle.module_grammar.proofs.Vocabulary.{is_vocabulary}
use Rattle.module_grammar.specs.Balanced.{IsBalanced, nothing, token, parens, brackets, braces, is_plain, is_plain_kind}
use Rattle.module_grammar.specs.BalancedRules.{a_token, balanced_rules, plain_kinds}
use Rattle.module_grammar.specs.Kinds.{Says, kind, symbol_by}
use Rattle.module_grammar.specs.Rules.{first_rule, rules, written_at}
use Rattle.module_grammar.specs.Sorts.{vocabulary}
use Rattle.module_grammar.specs.Symbols.{Symbol, Bracket, Brace, balanced, kind_of, open_paren, close_paren, close_bracket, close_brace}
use Rattle.module_grammar.specs.Tokens.{gap, token_grammar}
use Rattle.predictive.specs.Grammar.{Forest, End, Leaf, Node, Forms, yield, Derives}
use Rattle.predictive.specs.Listed.{rule_at}
use Rattle.predictive.specs.declared.symbol.Symbol.{Symbol as Sign}
use Rattle.predictive.specs.declared.symbol.Symbol.TheVariants.{Kind, Non}
use Rattle.predictive.proofs.Sound.{divided}

pub apart : stand_apart rules gap ≡ true
apart = refl

-- ---- what is derived is balanced

-- what the two nonterminals derive: 92 what is balanced, 93 one token that is plain
abbrev Of : ℕ → List Symbol → Type 0
Of n a = (n ≡ 92 → IsBalanced a) × (n ≡ 93 → (s : Symbol) × (a ≡ s ∷ []) × (is_plain s ≡ true))

abbrev Parts : List Sign → List Symbol → Type 0
Parts [] ts = ts ≡ []
Parts (Kind c ∷ s) ts = (t : Symbol) × (rest : List Symbol) × (t ∷ rest ≡ ts) × (kind_of t ≡ c) × Parts s rest
Parts (Non n ∷ s) ts = (a : List Symbol) × (rest : List Symbol) × (a ++ rest ≡ ts) × Of n a × Parts s rest

symbol_is : (k : ℕ) (t : Symbol) → kind_of t ≡ k → (c : Says (kind k)) × (symbol_by (kind k) k c ≡ t)
symbol_is k t e = subst (λ j. (c : Says (kind j)) × (symbol_by (kind j) j c ≡ t)) e (is_vocabulary.content t)

-- what stands between two tokens, and more
abbrev Between : ℕ → ℕ → List Symbol → Type 0
Between before behind a = Parts (Kind before ∷ Non 92 ∷ Kind behind ∷ Non 92 ∷ []) a

joined :
    (t u : Symbol) (b d a r1 r2 r3 r4 : List Symbol) → t ∷ r1 ≡ a → b ++ r2 ≡ r1 → u ∷ r3 ≡ r2 → d ++ r4 ≡ r3 → r4 ≡ []
    → t ∷ (b ++ (u ∷ d)) ≡ a
joined t u b d a r1 r2 r3 r4 one two three four end =
    let last : d ≡ r3 = sym (append-nil d) ∙ ap (λ l. d ++ l) (sym end) ∙ four in
    ap (λ l. t ∷ (b ++ (u ∷ l))) last ∙ ap (λ l. t ∷ (b ++ l)) three ∙ ap (λ l. t ∷ l) two ∙ one

-- the tokens of such a row, with what they say
between :
    (before behind : ℕ) (a : List Symbol) → Between before behind a
    → (t : Symbol) × (u : Symbol) × (inside : List Symbol) × (more : List Symbol) × (kind_of t ≡ before) × (kind_of u ≡ behind)
    × IsBalanced inside × IsBalanced more × (t ∷ (inside ++ (u ∷ more)) ≡ a)
between before behind a ps =
    let p1 = ps.4 in
    let p2 = p1.4 in
    let p3 = p2.4 in (
      ps.0,
      p2.0,
      p1.0,
      p3.0,
      ps.3,
      p2.3,
      p1.3.0 refl,
      p3.3.0 refl,
      joined ps.0 p2.0 p1.0 p3.0 a ps.1 p1.1 p2.1 p3.1 ps.2 p1.2 p2.2 p3.2 p3.4,
    )

of_parens : (a : List Symbol) → Between (kind_of open_paren) (kind_of close_paren) a → IsBalanced a
of_parens a ps =
    let b = between (kind_of open_paren) (kind_of close_paren) a ps in
    let t = symbol_is (kind_of open_paren) b.0 b.4 in
    let u = symbol_is (kind_of close_paren) b.1 b.5 in
    subst IsBalanced (ap (λ s. s ∷ (b.2 ++ (close_paren ∷ b.3))) t.1 ∙ ap (λ s. b.0 ∷ (b.2 ++ (s ∷ b.3))) u.1 ∙ b.8) (parens b.2 b.3 b.6 b.7)

of_brackets : (a : List Symbol) → Between (kind_of (Bracket 0)) (kind_of close_bracket) a → IsBalanced a
of_brackets a ps =
    let b = between (kind_of (Bracket 0)) (kind_of close_bracket) a ps in
    let t = symbol_is (kind_of (Bracket 0)) b.0 b.4 in
    let u = symbol_is (kind_of close_bracket) b.1 b.5 in
    subst IsBalanced (ap (λ s. s ∷ (b.2 ++ (close_bracket ∷ b.3))) t.1 ∙ ap (λ s. b.0 ∷ (b.2 ++ (s ∷ b.3))) u.1 ∙ b.8) (brackets t.0 b.2 b.3 b.6 b.7)

of_braces : (a : List Symbol) → Between (kind_of (Brace 0)) (kind_of close_brace) a → IsBalanced a
of_braces a ps =
    let b = between (kind_of (Brace 0)) (kind_of close_brace) a ps in
    let t = symbol_is (kind_of (Brace 0)) b.0 b.4 in
    let u = symbol_is (kind_of close_brace) b.1 b.5 in
    subst IsBalanced (ap (λ s. s ∷ (b.2 ++ (close_brace ∷ b.3))) t.1 ∙ ap (λ s. b.0 ∷ (b.2 ++ (s ∷ b.3))) u.1 ∙ b.8) (braces t.0 b.2 b.3 b.6 b.7)

of_token : (a : List Symbol) → Parts (Non 93 ∷ Non 92 ∷ []) a → IsBalanced a
of_token a ps =
    let s = ps.3.1 refl in
    let p1 = ps.4 in
    let last : p1.0 ≡ ps.1 = sym (append-nil p1.0) ∙ ap (λ l. p1.0 ++ l) (sym p1.4) ∙ p1.2 in
    subst IsBalanced (ap (λ l. s.0 ∷ l) last ∙ ap (λ l. l ++ ps.1) (sym s.1) ∙ ps.2) (token s.0 p1.0 s.2 (p1.3.0 refl))

-- each of the kinds is plain
all_plain : List ℕ → Bool
all_plain [] = true
all_plain (k ∷ ks) = is_plain_kind k && all_plain ks

token_at : (ks : List ℕ) → all_plain ks ≡ true → (j : ℕ) → j < length (map a_token ks) → (k : ℕ) × (rule_at (map a_token ks) j ≡ a_token k) × (is_plain_kind k ≡ true)
unfolding all_plain
token_at [] e j h = absurd (grind arith)
token_at (k ∷ ks) e zero h = (k, refl, (both (is_plain_kind k) (all_plain ks) e).0)
token_at (k ∷ ks) e (suc j) h = token_at ks (both (is_plain_kind k) (all_plain ks) e).1 j (grind arith)

plain_kinds_are : all_plain plain_kinds ≡ true
unfolding all_plain
plain_kinds_are = refl

one_token : (k : ℕ) (a : List Symbol) → is_plain_kind k ≡ true → Parts (Kind k ∷ []) a → (s : Symbol) × (a ≡ s ∷ []) × (is_plain s ≡ true)
one_token k a plain ps = (ps.0, sym ps.2 ∙ ap (λ l. ps.0 ∷ l) ps.4, ap is_plain_kind ps.3 ∙ plain)

no_row : {A : Type 0} (n : ℕ) → 93 ≡ n → n ≡ 92 → A
no_row n e f = absurd (omega (arith, e, f))

no_token : {A : Type 0} (n : ℕ) → 92 ≡ n → n ≡ 93 → A
no_token n e f = absurd (omega (arith, e, f))

of_rule : (q : ℕ) → q < length balanced_rules → (n : ℕ) → (rule_at balanced_rules q).left ≡ n → (a : List Symbol) → Parts (rule_at balanced_rules q).right a → Of n a
of_rule zero h n e a ps = (λ f. subst IsBalanced (sym ps) nothing, λ f. no_token n e f)
of_rule (suc zero) h n e a ps = (λ f. of_token a ps, λ f. no_token n e f)
of_rule (suc (suc zero)) h n e a ps = (λ f. of_parens a ps, λ f. no_token n e f)
of_rule (suc (suc (suc zero))) h n e a ps = (λ f. of_brackets a ps, λ f. no_token n e f)
of_rule (suc (suc (suc (suc zero)))) h n e a ps = (λ f. of_braces a ps, λ f. no_token n e f)
of_rule (suc (suc (suc (suc (suc j))))) h n e a ps =
    let t = token_at plain_kinds plain_kinds_are j (grind arith) in
    let left : 93 ≡ n = sym (ap (λ r. r.left) t.1) ∙ e in
    (λ f. no_row n left f, λ f. one_token t.0 a t.2 (subst (λ r. Parts r.right a) t.1 ps))

of_node : (p : ℕ) → p < token_grammar.count → (n : ℕ) → token_grammar.left p ≡ n → (a : List Symbol) → Parts (token_grammar.right p) a → Of n a
of_node p h n e a ps = go (nat_lt p (length rules)) refl
  where
    go : (b : Bool) → nat_lt p (length rules) ≡ b → Of n a
    go true below =
        let small : token_grammar.left p < 92 = left_below vocabulary is_vocabulary written_at first_rule rules gap apart p (ltb-true p (length rules) below) in
        (λ f. absurd (omega (arith, small, e, f)), λ f. absurd (omega (arith, small, e, f)))
    go false above =
        let at = at_behind vocabulary is_vocabulary written_at first_rule rules gap p (ltb-false p (length rules) above) h in
        of_rule (p - length rules) at.0 n (sym (ap (λ r. r.left) at.1) ∙ e) a (subst (λ r. Parts r.right a) at.1 ps)

parts : (f : Forest) (s : List Sign) → Forms token_grammar f s → (ts : List Symbol) → map kind_of ts ≡ yield f → Parts s ts
parts End [] formed [] e = refl
parts End [] formed (t ∷ ts) e = cc
parts (Leaf k f) (Kind c ∷ s) formed [] e = cc
parts (Leaf k f) (Kind c ∷ s) formed (t ∷ ts) e =
    let at : kind_of t ≡ k = cc in
    let more : map kind_of ts ≡ yield f = cc in
    (t, ts, refl, at ∙ sym formed.0, parts f s formed.1 ts more)
parts (Node p kids f) (Non n ∷ s) formed ts e =
    let d = divided kind_of (yield kids) (yield f) ts e in (
      d.0,
      d.1,
      d.2,
      of_node p formed.0 n formed.1 d.0 (parts kids (token_grammar.right p) formed.2 d.0 d.3),
      parts f s formed.3 d.1 d.4,
    )
parts End (y ∷ s) formed ts e = absurd formed
parts (Leaf k f) [] formed ts e = absurd formed
parts (Leaf k f) (Non n ∷ s) formed ts e = absurd formed
parts (Node p kids f) [] formed ts e = absurd formed
parts (Node p kids f) (Kind c ∷ s) formed ts e = absurd formed

pub fit : (ts : List Symbol) → Derives token_grammar (Non 92 ∷ []) (map kind_of ts) → IsBalanced ts
fit ts derived =
    let ps = parts derived.0 (Non 92 ∷ []) derived.1 ts (sym derived.2) in
    subst IsBalanced (sym (append-nil ps.0) ∙ ap (λ l. ps.0 ++ l) (sym ps.4) ∙ ps.2) (ps.3.0 refl)

-- ---- what is balanced is derived

record Tree (ks : List ℕ) : Type 0 where
  pub rule : ℕ
  pub kids : Forest
  pub inside : rule < token_grammar.count
  pub left : token_grammar.left rule ≡ 92
  pub forms : Forms token_grammar kids (token_grammar.right rule)
  pub yields : yield kids ≡ ks

inside_at : (q : ℕ) → q < length balanced_rules → length rules + q < token_grammar.count
inside_at q h =
    let count : length (opened_rules gap rules) ≡ length rules + length balanced_rules = count_is gap rules in
    omega (arith, h, count)

tree :
    (q : ℕ) → nat_lt q (length balanced_rules) ≡ true → (rule_at balanced_rules q).left ≡ 92
    → (kids : Forest) → Forms token_grammar kids (rule_at balanced_rules q).right → (ks : List ℕ) → yield kids ≡ ks → Tree ks
tree q h left kids formed ks e = record {
  rule = length rules + q;
  kids = kids;
  inside = inside_at q (ltb-true q (length balanced_rules) h);
  left = ap (λ r. r.left) (behind gap rules q) ∙ left;
  forms = subst (λ r. Forms token_grammar kids r.right) (sym (behind gap rules q)) formed;
  yields = e;
}

-- a kind is among these
has : ℕ → List ℕ → Bool
has k [] = false
has k (j ∷ js) = nat_eq k j || has k js

abbrev Found : ℕ → List ℕ → Type 0
Found k ks = (j : ℕ) × (j < length (map a_token ks)) × (rule_at (map a_token ks) j ≡ a_token k)

found : (k : ℕ) (ks : List ℕ) → has k ks ≡ true → Found k ks
unfolding has
found k [] e = cc
found k (j ∷ js) e = go (nat_eq k j) refl e (λ e. found k js e)
  where
    go : (b : Bool) → nat_eq k j ≡ b → (b || has k js) ≡ true → (has k js ≡ true → Found k js) → Found k (j ∷ js)
    go true at e more = (0, grind arith, ap a_token (sym (eqb-true k j at)))
    go false at e more = let r = more e in (suc r.0, (let below : r.0 < length (map a_token js) = r.1 in omega (arith, below)), r.2)

all_below : ℕ → (ℕ → Bool) → Bool
all_below zero is = true
all_below (suc n) is = is n && all_below n is

at_each : (n : ℕ) (is : ℕ → Bool) → all_below n is ≡ true → (k : ℕ) → k < n → is k ≡ true
unfolding all_below
at_each zero is e k h = absurd (grind arith)
at_each (suc n) is e k h = go (nat_eq k n) refl (λ h. at_each n is (both (is n) (all_below n is) e).1 k h)
  where
    go : (b : Bool) → nat_eq k n ≡ b → (k < n → is k ≡ true) → is k ≡ true
    go true at more = ap is (eqb-true k n at) ∙ (both (is n) (all_below n is) e).0
    go false at more = more (grind arith)

all_found : all_below (kind_of balanced) (λ k. not (is_plain_kind k) || has k plain_kinds) ≡ true
unfolding all_below has
all_found = refl

is_found : (k : ℕ) → is_plain_kind k ≡ true → has k plain_kinds ≡ true
is_found k plain =
    let below : k < kind_of balanced = ltb-true k (kind_of balanced) (both (nat_lt k (kind_of balanced)) _ plain).0 in
    go (is_plain_kind k) plain (at_each (kind_of balanced) (λ k. not (is_plain_kind k) || has k plain_kinds) all_found k below)
  where
    go : (b : Bool) → b ≡ true → (not b || has k plain_kinds) ≡ true → has k plain_kinds ≡ true
    go true e all = all
    go false e all = cc

with_token : (s : Symbol) (more : List Symbol) → is_plain s ≡ true → Tree (map kind_of more) → Tree (map kind_of (s ∷ more))
with_token s more plain t =
    let at = found (kind_of s) plain_kinds (is_found (kind_of s) plain) in
    let q : ℕ = suc (suc (suc (suc (suc at.0)))) in
    let rule : rule_at (opened_rules gap rules) (length rules + suc (suc (suc (suc (suc at.0))))) ≡ a_token (kind_of s) = behind gap rules (suc (suc (suc (suc (suc at.0))))) ∙ at.2 in
    let small : at.0 < length (map a_token plain_kinds) = at.1 in
    tree 1 refl refl
    (Node (length rules + suc (suc (suc (suc (suc at.0))))) (Leaf (kind_of s) End) (Node t.rule t.kids End)) (
      inside_at (suc (suc (suc (suc (suc at.0))))) (omega (arith, small)),
      ap (λ r. r.left) rule,
      subst (λ r. Forms token_grammar (Leaf (kind_of s) End) r.right) (sym rule) (refl, tt),
      (t.inside, t.left, t.forms, tt),
    )
    (map kind_of (s ∷ more)) (ap (λ ks. kind_of s ∷ ks) (append-nil (yield t.kids) ∙ t.yields))

-- the kids of a row between two tokens
abbrev kids_between : ℕ → ℕ → (a b : List ℕ) → Tree a → Tree b → Forest
kids_between o c a b t u = Leaf o (Node t.rule t.kids (Leaf c (Node u.rule u.kids End)))

yields_between :
    (o c : Symbol) (inside more : List Symbol) (t : Tree (map kind_of inside)) (u : Tree (map kind_of more))
    → yield (kids_between (kind_of o) (kind_of c) (map kind_of inside) (map kind_of more) t u) ≡ map kind_of (o ∷ (inside ++ (c ∷ more)))
yields_between o c inside more t u =
    ap (λ ks. kind_of o ∷ ks) (
    ap (λ ks. ks ++ (kind_of c ∷ (yield u.kids ++ []))) t.yields
    ∙ ap (λ ks. map kind_of inside ++ (kind_of c ∷ ks)) (append-nil (yield u.kids) ∙ u.yields)
    ∙ sym (map-append kind_of inside (c ∷ more)))

grows : (ts : List Symbol) → IsBalanced ts → Tree (map kind_of ts)
grows ts nothing = tree 0 refl refl End tt [] refl
grows ts (token s more plain b) = with_token s more plain (grows more b)
grows ts (parens inside more a b) =
    let t = grows inside a in
    let u = grows more b in
    tree 2 refl refl (kids_between (kind_of open_paren) (kind_of close_paren) (map kind_of inside) (map kind_of more) t u)
    (refl, (t.inside, t.left, t.forms, (refl, (u.inside, u.left, u.forms, tt))))
    (map kind_of (open_paren ∷ (inside ++ (close_paren ∷ more)))) (yields_between open_paren close_paren inside more t u)
grows ts (brackets at inside more a b) =
    let t = grows inside a in
    let u = grows more b in
    tree 3 refl refl (kids_between (kind_of (Bracket at)) (kind_of close_bracket) (map kind_of inside) (map kind_of more) t u)
    (refl, (t.inside, t.left, t.forms, (refl, (u.inside, u.left, u.forms, tt))))
    (map kind_of (Bracket at ∷ (inside ++ (close_bracket ∷ more)))) (yields_between (Bracket at) close_bracket inside more t u)
grows ts (braces at inside more a b) =
    let t = grows inside a in
    let u = grows more b in
    tree 4 refl refl (kids_between (kind_of (Brace at)) (kind_of close_brace) (map kind_of inside) (map kind_of more) t u)
    (refl, (t.inside, t.left, t.forms, (refl, (u.inside, u.left, u.forms, tt))))
    (map kind_of (Brace at ∷ (inside ++ (close_brace ∷ more)))) (yields_between (Brace at) close_brace inside more t u)

pub derived : (ts : List Symbol) → IsBalanced ts → Derives token_grammar (Non 92 ∷ []) (map kind_of ts)
derived ts b =
    let t = grows ts b in
    (Node t.rule t.kids End, (t.inside, t.left, t.forms, tt), append-nil (yield t.kids) ∙ t.yields)
