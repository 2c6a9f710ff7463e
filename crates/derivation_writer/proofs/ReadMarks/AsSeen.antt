-- In front of the marks of a derivation stand the same parts whether tokens are what they are by themselves or what they are seen as: a token is
-- written down where its kind says something alone, and there it is seen as itself.
use Rattle.std.proofs.Common.{◌≡◌, ◌+◌, ℕ, zero, suc, Bool, true, false, cond, nat_eq, nat_lt, List, [], ◌∷◌, ◌++◌, map, length, get_or, refl, ap, sym, ◌∙◌, append_assoc, arith}
use Rattle.std.proofs.lemmas.List.{append-nil, get_or_at, length-append}
use Rattle.module_derivations.specs.FlatMarks.Flat as flat
use Rattle.module_derivations.specs.FlatMarks.Flat.{Mark, marks_from, parts, skip}
use Rattle.module_derivations.specs.Ahead.{ahead, arity, chosen, leaf_part, marks, rule_part, says}
use Rattle.module_grammar.specs.Symbols.{Symbol, foreign, kind_of}
use Rattle.module_spelling.specs.Context.{AreKinds, all_seen, seen_as}
use Rattle.predictive.specs.Grammar.{End, Forest, Leaf, Node, yield}

-- ---- a token that says something is seen as itself

seen_itself : (s : Symbol) (k : ℕ) → kind_of (seen_as s k) ≡ k → says k ≡ true → seen_as s k ≡ s
seen_itself s k e says_it = go (nat_eq (kind_of s) k) e
  where
    go : (b : Bool) → kind_of (cond b s foreign) ≡ k → cond b s foreign ≡ s
    go true e = refl
    go false e = let less : nat_lt (kind_of foreign) 23 ≡ true = ap (λ n. nat_lt n 23) e ∙ says_it in cc

fewer : (s : Symbol) (ss : List Symbol) (k : ℕ) (ks : List ℕ) → AreKinds (s ∷ ss) (k ∷ ks) → AreKinds ss ks × (kind_of (seen_as s k) ≡ k)
fewer s ss k ks h =
    let as_many : suc (length ks) ≡ suc (length ss) = h.0 in
    let same : (kind_of (seen_as s k) ∷ map kind_of (all_seen ss ks)) ≡ k ∷ ks = h.1 in
    let first : kind_of (seen_as s k) ≡ k = cc in
    let others : map kind_of (all_seen ss ks) ≡ ks = cc in
    let counts : length ks ≡ length ss = cc in
    ((counts, others), first)

same_at :
    (own : List Symbol) (kinds : List ℕ) → AreKinds own kinds → (i : ℕ) → says (get_or kinds i 23) ≡ true
    → get_or own i foreign ≡ get_or (all_seen own kinds) i foreign
same_at [] kinds are i e = refl
same_at (s ∷ ss) [] are i e = cc
same_at (s ∷ ss) (k ∷ ks) are zero e = sym (seen_itself s k (fewer s ss k ks are).1 e)
same_at (s ∷ ss) (k ∷ ks) are (suc i) e = same_at ss ks (fewer s ss k ks are).0 i e

-- ---- marks of the same parts

module _ {P : Type 0} (width : ℕ → ℕ) (node : ℕ → List P → P) (left right : ℕ → P) where
  abbrev AreAlike : List Mark → Type 0
  AreAlike [] = Unit {0}
  AreAlike (flat.Token i ∷ ms) = (left i ≡ right i) × AreAlike ms
  AreAlike (flat.Rule p ∷ ms) = AreAlike ms

  same_parts : (ms : List Mark) → AreAlike ms → parts width node left ms ≡ parts width node right ms
  same_parts [] alike = refl
  same_parts (flat.Token i ∷ ms) alike =
      ap (λ p. p ∷ parts width node left ms) alike.0 ∙ ap (λ ps. right i ∷ ps) (same_parts ms alike.1)
  same_parts (flat.Rule p ∷ ms) alike = ap (λ ps. node p ps ∷ skip (width p) ps) (same_parts ms alike)

  alike_both : (a b : List Mark) → AreAlike a → AreAlike b → AreAlike (a ++ b)
  alike_both [] b of_a of_b = of_b
  alike_both (flat.Token i ∷ a) b of_a of_b = (of_a.0, alike_both a b of_a.1 of_b)
  alike_both (flat.Rule p ∷ a) b of_a of_b = alike_both a b of_a of_b

  alike_rule : (b : Bool) (p : ℕ) (ms : List Mark) → AreAlike ms → AreAlike (cond b (flat.Rule p ∷ []) [] ++ ms)
  alike_rule true p ms alike = alike
  alike_rule false p ms alike = alike

  alike_token : (b : Bool) (i : ℕ) (ms : List Mark) → (b ≡ true → left i ≡ right i) → AreAlike ms → AreAlike (cond b (flat.Token i ∷ []) [] ++ ms)
  alike_token true i ms one alike = (one refl, alike)
  alike_token false i ms one alike = alike

  module _ (kinds : List ℕ) (alike_at : (i : ℕ) → says (get_or kinds i 23) ≡ true → left i ≡ right i) where
    alike :
        (f : Forest) (before behind : List ℕ) (i : ℕ) → before ++ (yield f ++ behind) ≡ kinds → length before ≡ i
        → AreAlike (marks_from chosen says i f)
    alike End before behind i e n = tt
    alike (Leaf k f) before behind i e n =
        let one : length (before ++ (k ∷ [])) ≡ length before + 1 = length-append before (k ∷ []) in
        let next : length (before ++ (k ∷ [])) ≡ suc i = omega (arith, one, n) in
        let at : get_or kinds i 23 ≡ k = ap (λ l. get_or l i 23) (sym e) ∙ get_or_at before k (yield f ++ behind) 23 i n in
        alike_token (says k) i (marks_from chosen says (suc i) f) (λ says_it. alike_at i (ap says at ∙ says_it))
        (alike f (before ++ (k ∷ [])) behind (suc i) (append_assoc before (k ∷ []) (yield f ++ behind) ∙ e) next)
    alike (Node p kids f) before behind i e n =
        let inner = i + length (yield kids) in
        let both : length (before ++ yield kids) ≡ length before + length (yield kids) = length-append before (yield kids) in
        let next : length (before ++ yield kids) ≡ inner = omega (arith, both, n) in
        let in_order : before ++ (yield kids ++ (yield f ++ behind)) ≡ kinds =
        ap (λ l. before ++ l) (sym (append_assoc (yield kids) (yield f) behind)) ∙ e in
        alike_rule (chosen p) p (marks_from chosen says i kids ++ marks_from chosen says inner f)
        (alike_both (marks_from chosen says i kids) (marks_from chosen says inner f)
        (alike kids before (yield f ++ behind) i in_order n)
        (alike f (before ++ yield kids) behind inner (append_assoc before (yield kids) (yield f ++ behind) ∙ in_order) next))

-- the same parts stand in front
pub as_seen :
    (own : List Symbol) (kinds : List ℕ) → AreKinds own kinds → (f : Forest) → yield f ≡ kinds
    → ahead own (marks f) ≡ ahead (all_seen own kinds) (marks f)
as_seen own kinds are f e =
    same_parts arity rule_part (λ i. leaf_part (get_or own i foreign)) (λ i. leaf_part (get_or (all_seen own kinds) i foreign)) (marks f)
    (alike arity rule_part (λ i. leaf_part (get_or own i foreign)) (λ i. leaf_part (get_or (all_seen own kinds) i foreign)) kinds
    (λ i says_it. ap leaf_part (same_at own kinds are i says_it)) f [] [] 0 (append-nil (yield f) ∙ e) refl)
