-- Marks that are taken, and parts that are passed.
use Rattle.std.proofs.Common.{◌≡◌, ◌∙◌, ◌+◌, ◌-◌, ◌<◌, ◌≤◌, ℕ, zero, suc, cond, List, [], ◌∷◌, map, length, get_or, Option, Some, None, refl, ap, sym, arith}
use Rattle.std.proofs.lemmas.Bool.{le-ltb, lt-ltb}
use Rattle.derivation_cursor.specs.At.{Closes, Opens, SameText, Takes, ahead_of, passed, symbol_by, symbols_of}
use Rattle.derivation_cursor.specs.declared.cursor.Cursor.{Cursor}
use Rattle.module_derivations.proofs.FlatMarks.Passing.{skip_skip}
use Rattle.module_derivations.specs.FlatMarks.Flat as flat
use Rattle.module_derivations.specs.FlatMarks.Flat.{Mark, behind, mark_of, skip}
use Rattle.ir_lexer.specs.declared.token.Token.{Token}
use Rattle.std.specs.List.{slice_get}
use Rattle.module_derivations.specs.Ahead.{ahead, arity, leaf_part, rule_part}
use Rattle.module_derivations.specs.Empty.{made, said}
use Rattle.module_derivations.specs.Parts.{Part}
use Rattle.module_grammar.specs.Spelled.{symbol_in}
use Rattle.module_grammar.specs.Symbols.{Symbol, foreign}

abbrev behind_first : Cursor → List ℕ → List Part
behind_first c ns = ahead (symbols_of c) (map mark_of ns)

is_rule : (n : ℕ) → n < 2147483648 → mark_of n ≡ flat.Rule n
is_rule n h = ap (λ b. cond b (flat.Rule n) (flat.Token (n - 2147483648))) (lt-ltb n 2147483648 h)

is_token : (n : ℕ) → (n < 2147483648 → ⊥) → mark_of n ≡ flat.Token (n - 2147483648)
is_token n h =
    let above : 2147483648 ≤ n = grind arith in
    ap (λ b. cond b (flat.Rule n) (flat.Token (n - 2147483648))) (le-ltb n 2147483648 above)

-- the symbols stay
same_symbols : (old new : Cursor) → SameText old new → symbols_of new ≡ symbols_of old
same_symbols old new same =
    ap (λ l. map (symbol_in l new.text.now) new.tokens.now) same.language
    ∙ ap (λ t. map (symbol_in old.language t.now) new.tokens.now) same.text
    ∙ ap (λ ts. map (symbol_in old.language old.text.now) ts.now) same.tokens

pub same_twice : (first old new : Cursor) → SameText first old → SameText old new → SameText first new
same_twice first old new a b = record { language = b.language ∙ a.language; text = b.text ∙ a.text; tokens = b.tokens ∙ a.tokens }

ahead_behind : (old new : Cursor) → SameText old new → behind_first old new.numbers.now ≡ ahead_of new
ahead_behind old new same = ap (λ ss. ahead ss (map mark_of new.numbers.now)) (sym (same_symbols old new same))

rule_ahead : (old new : Cursor) (n : ℕ) → SameText old new → old.numbers.now ≡ n ∷ new.numbers.now → n < 2147483648 → ahead_of old ≡ rule_part n (ahead_of new) ∷ skip (arity n) (ahead_of new)
rule_ahead old new n same e h =
    ap (λ ns. behind_first old ns) e
    ∙ ap (λ m. ahead (symbols_of old) (m ∷ map mark_of new.numbers.now)) (is_rule n h)
    ∙ ap (λ ps. rule_part n ps ∷ skip (arity n) ps) (ahead_behind old new same)

token_part : Cursor → ℕ → Part
token_part c n = leaf_part (get_or (symbols_of c) (n - 2147483648) foreign)

token_ahead : (old new : Cursor) (n : ℕ) → SameText old new → old.numbers.now ≡ n ∷ new.numbers.now → (n < 2147483648 → ⊥) → ahead_of old ≡ token_part old n ∷ ahead_of new
unfolding token_part
token_ahead old new n same e h =
    ap (λ ns. behind_first old ns) e
    ∙ ap (λ m. ahead (symbols_of old) (m ∷ map mark_of new.numbers.now)) (is_token n h)
    ∙ ap (λ ps. leaf_part (get_or (symbols_of old) (n - 2147483648) foreign) ∷ ps) (ahead_behind old new same)

pub one_less : (ns ms : List ℕ) (n : ℕ) → ns ≡ n ∷ ms → length ms < length ns
one_less ns ms n e = let l : length ns ≡ suc (length ms) = ap length e in omega (arith, l)

pub opens_rule : (old new : Cursor) (n : ℕ) → SameText old new → old.numbers.now ≡ n ∷ new.numbers.now → n < 2147483648 → Opens (Some n) old new
opens_rule old new n same e h =
    let a = rule_ahead old new n same e h in
    record { same = same; made = ap made a; behind = ap behind a; shorter = one_less old.numbers.now new.numbers.now n e }

pub opens_token : (old new : Cursor) (n : ℕ) → SameText old new → old.numbers.now ≡ n ∷ new.numbers.now → (n < 2147483648 → ⊥) → Opens None old new
unfolding token_part
opens_token old new n same e h =
    let a = token_ahead old new n same e h in
    let l = one_less old.numbers.now new.numbers.now n e in
    record { same = same; made = ap made a; behind = ap behind a; shorter = omega (arith, l) }

pub opens_nothing : (old new : Cursor) → SameText old new → old.numbers.now ≡ [] → new.numbers.now ≡ [] → Opens None old new
opens_nothing old new same e e' =
    let none : ahead_of old ≡ [] = ap (λ ns. behind_first old ns) e in
    let none' : ahead_of new ≡ [] = ap (λ ns. behind_first new ns) e' in
    let lengths : length new.numbers.now ≡ length old.numbers.now = ap length e' ∙ sym (ap length e) in
    record { same = same; made = ap made none; behind = ap behind none ∙ sym none'; shorter = omega (arith, lengths) }

-- ---- the token in front

token_symbol : (f : Token → Symbol) (ts : List Token) (i : ℕ) (t : Token) → slice_get ts i ≡ Some t → get_or (map f ts) i foreign ≡ f t
token_symbol f [] i t e = cc
token_symbol f (x ∷ ts) zero t e = let is : x ≡ t = cc in ap f is
token_symbol f (x ∷ ts) (suc i) t e = token_symbol f ts i t e

no_token_symbol : (f : Token → Symbol) (ts : List Token) (i : ℕ) → slice_get ts i ≡ None → get_or (map f ts) i foreign ≡ foreign
no_token_symbol f [] i e = refl
no_token_symbol f (x ∷ ts) zero e = cc
no_token_symbol f (x ∷ ts) (suc i) e = no_token_symbol f ts i e

symbol_at : (c : Cursor) (i : ℕ) (token : Option Token) → token ≡ slice_get c.tokens.now i → get_or (symbols_of c) i foreign ≡ symbol_by c token
symbol_at c i None e = no_token_symbol (symbol_in c.language c.text.now) c.tokens.now i (sym e)
symbol_at c i (Some t) e = token_symbol (symbol_in c.language c.text.now) c.tokens.now i t (sym e)

pub takes_token :
    (old new : Cursor) (n : ℕ) (token : Option Token) → SameText old new → old.numbers.now ≡ n ∷ new.numbers.now → (n < 2147483648 → ⊥)
    → token ≡ slice_get new.tokens.now (n - 2147483648) → Takes token old new
unfolding token_part
takes_token old new n token same e h is =
    let a = token_ahead old new n same e h in
    let l = one_less old.numbers.now new.numbers.now n e in
    let there : token ≡ slice_get old.tokens.now (n - 2147483648) = is ∙ ap (λ ts. slice_get ts.now (n - 2147483648)) same.tokens in
    record {
      said = ap said a ∙ symbol_at old (n - 2147483648) token there;
      passes = record { same = same; behind = sym (ap behind a); shorter = omega (arith, l) };
    }

pub takes_rule :
    (old first new : Cursor) (n : ℕ) → SameText old first → old.numbers.now ≡ n ∷ first.numbers.now → n < 2147483648 → Closes (Some n) first new
    → Takes None old new
takes_rule old first new n same e h closes =
    let a = rule_ahead old first n same e h in
    let l = one_less old.numbers.now first.numbers.now n e in
    let m = closes.shorter in
    record {
      said = ap said a;
      passes = record { same = same_twice old first new same closes.same; behind = closes.behind ∙ sym (ap behind a); shorter = omega (arith, l, m) };
    }

pub takes_nothing : (old new : Cursor) → SameText old new → old.numbers.now ≡ [] → new.numbers.now ≡ [] → Takes None old new
takes_nothing old new same e e' =
    let o = opens_nothing old new same e e' in
    record {
      said = ap (λ ns. said (behind_first old ns)) e;
      passes = record { same = same; behind = sym o.behind; shorter = o.shorter };
    }

-- ---- parts that are passed

skip_nothing : (k : ℕ) → skip {P = Part} k [] ≡ []
skip_nothing zero = refl
skip_nothing (suc k) = skip_nothing k

skip_first : (left : ℕ) (p : Part) (s : List Part) → 0 < left → skip (left - 1) s ≡ skip left (p ∷ s)
skip_first zero p s h = absurd (omega arith)
skip_first (suc left) p s h = let e : suc left - 1 ≡ left = omega arith in ap (λ n. skip n s) e

skip_more : (left a : ℕ) (p : Part) (s : List Part) → 0 < left → skip (left - 1 + a) s ≡ skip left (p ∷ skip a s)
skip_more zero a p s h = absurd (omega arith)
skip_more (suc left) a p s h = let e : suc left - 1 + a ≡ a + left = omega arith in ap (λ n. skip n s) e ∙ skip_skip a left s

pub pass_rule :
    (old new : Cursor) (n left a : ℕ) → SameText old new → old.numbers.now ≡ n ∷ new.numbers.now → n < 2147483648 → a ≡ arity n → 0 < left
    → skip (left - 1 + a) (ahead_of new) ≡ skip left (ahead_of old)
pass_rule old new n left a same e h is some =
    ap (λ a. skip (left - 1 + a) (ahead_of new)) is
    ∙ skip_more left (arity n) (rule_part n (ahead_of new)) (ahead_of new) some
    ∙ ap (λ s. skip left s) (sym (rule_ahead old new n same e h))

pub pass_token :
    (old new : Cursor) (n left : ℕ) → SameText old new → old.numbers.now ≡ n ∷ new.numbers.now → (n < 2147483648 → ⊥) → 0 < left
    → skip (left - 1) (ahead_of new) ≡ skip left (ahead_of old)
pass_token old new n left same e h some =
    skip_first left (token_part old n) (ahead_of new) some ∙ ap (λ s. skip left s) (sym (token_ahead old new n same e h))

pub pass_nothing :
    (first old new : Cursor) (left : ℕ) (rule : Option ℕ) → SameText first old → SameText old new → old.numbers.now ≡ [] → new.numbers.now ≡ []
    → skip left (ahead_of old) ≡ passed rule (ahead_of first) → length old.numbers.now ≤ length first.numbers.now → Closes rule first new
pass_nothing first old new left rule a b e e' so_far shorter =
    let lengths : length new.numbers.now ≡ length old.numbers.now = ap length e' ∙ sym (ap length e) in
    record {
      same = same_twice first old new a b;
      behind = ap (λ ns. behind_first new ns) e' ∙ sym (skip_nothing left) ∙ ap (λ s. skip left s) (sym (ap (λ ns. behind_first old ns) e)) ∙ so_far;
      shorter = omega (arith, lengths, shorter);
    }
