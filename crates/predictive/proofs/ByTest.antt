-- A listed grammar that passes the test is predictive.
use Rattle.std.proofs.Common.{◌≡◌, ◌<◌, ◌+◌, ◌^◌, min, max, ℕ, zero, suc, Bool, true, false, cond, ◌&&◌, ◌||◌, not, nat_eq, List, [], ◌∷◌, length, map, Some, refl, ap, sym, ◌∙◌, subst, arith}
use Rattle.std.proofs.lemmas.Bool.{eq-eqb, eqb-true, eqb-false, ltb-true, and_parts, and_from, or_left, or_right, false_from_ne_true, true≢false}
use Rattle.std.proofs.lemmas.Nat.Bits.{bit_at_and, bit_at_or, bit_at-lt, bit_at-zero, bit_at-pow_same, bit_at-pow_other}
use Rattle.std.specs.Int.{bit_at}
use Rattle.std.specs.Int.Bits.{bit_and, bit_or}
use Rattle.predictive.specs.declared.symbol.Symbol.{Symbol}
use Rattle.predictive.specs.declared.symbol.Symbol.TheVariants.{Kind, Non}
use Rattle.predictive.specs.Grammar.{Grammar}
use Rattle.predictive.specs.Predictive.{Sets, nullable_row, first_row, select, IsFollowed, cost_row, RanksBelow, IsPredictive}
use Rattle.predictive.specs.Listed.{Rule, Facts, Listed, rule_at, facts_at, has, within, disjoint, nullable_mask, first_mask, select_mask, selected, find, grammar_of, sets_of, followed_test, cost_mask, ranks_test, rule_test, rules_test, fact_test, facts_test, mask_at, with_mask, apart, is_predictive}

has_or : (a b k : ℕ) → has (bit_or a b) k ≡ (has a k || has b k)
has_or a b k = ap (λ x. nat_eq x 1) (bit_at_or a b k) ∙ go (bit_at a k) (bit_at b k) (bit_at-lt a k) (bit_at-lt b k)
  where
    go : (x y : ℕ) → x < 2 → y < 2 → nat_eq (max x y) 1 ≡ (nat_eq x 1 || nat_eq y 1)
    go zero zero p q = refl
    go zero (suc zero) p q = refl
    go (suc zero) zero p q = refl
    go (suc zero) (suc zero) p q = refl
    go zero (suc (suc y)) p q = absurd (omega arith)
    go (suc zero) (suc (suc y)) p q = absurd (omega arith)
    go (suc (suc x)) y p q = absurd (omega arith)

has_and : (a b k : ℕ) → has a k ≡ true → has b k ≡ true → has (bit_and a b) k ≡ true
has_and a b k p q =
    let x = eqb-true (bit_at a k) 1 p in
    let y = eqb-true (bit_at b k) 1 q in
    ap (λ x. nat_eq x 1) (bit_at_and a b k ∙ ap (λ x. min x (bit_at b k)) x ∙ ap (λ y. min 1 y) y)

has_none : (k : ℕ) → has 0 k ≡ false
has_none k = ap (λ x. nat_eq x 1) (bit_at-zero k)

has_one : (j k : ℕ) → has (2 ^ j) k ≡ nat_eq j k
has_one j k = go (nat_eq j k) refl
  where
    go : (b : Bool) → nat_eq j k ≡ b → has (2 ^ j) k ≡ b
    go true e = ap (λ i. has (2 ^ j) i) (sym (eqb-true j k e)) ∙ ap (λ x. nat_eq x 1) (bit_at-pow_same j)
    go false e = ap (λ x. nat_eq x 1) (bit_at-pow_other j k (λ same. eqb-false j k e (sym same)))

has_within : (a b k : ℕ) → within a b ≡ true → has a k ≡ true → has b k ≡ true
has_within a b k w h = ap (λ m. has m k) (sym (eqb-true (bit_or a b) b w)) ∙ has_or a b k ∙ or_left _ _ h

apart_masks : (a b k : ℕ) → disjoint a b ≡ true → has a k ≡ true → has b k ≡ true → ⊥
apart_masks a b k d p q =
    true≢false (sym (has_and a b k p q) ∙ ap (λ m. has m k) (eqb-true (bit_and a b) 0 d) ∙ has_none k)

has_cond : (b : Bool) (m k : ℕ) → has (cond b m 0) k ≡ (b && has m k)
has_cond true m k = refl
has_cond false m k = has_none k

module _ (d : Listed) where
  null_same : (row : List Symbol) → nullable_row (sets_of d) row ≡ nullable_mask d.facts row
  null_same [] = refl
  null_same (Kind c ∷ row) = refl
  null_same (Non n ∷ row) = ap (λ b. (facts_at d.facts n).nullable && b) (null_same row)

  first_same : (row : List Symbol) (k : ℕ) → first_row (sets_of d) row k ≡ has (first_mask d.facts row) k
  first_same [] k = sym (has_none k)
  first_same (Kind c ∷ row) k = sym (has_one (suc c) k)
  first_same (Non n ∷ row) k =
      let f = facts_at d.facts n in
      sym (has_or f.first (cond f.nullable (first_mask d.facts row) 0) k
      ∙ ap (λ b. has f.first k || b) (has_cond f.nullable (first_mask d.facts row) k ∙ ap (λ b. f.nullable && b) (sym (first_same row k))))

  select_same : (row : List Symbol) (mask k : ℕ) → select (sets_of d) row (λ k. has mask k) k ≡ has (select_mask d.facts row mask) k
  select_same row mask k =
      sym (has_or (first_mask d.facts row) (cond (nullable_mask d.facts row) mask 0) k
      ∙ ap (λ b. has (first_mask d.facts row) k || b) (has_cond (nullable_mask d.facts row) mask k ∙ ap (λ b. b && has mask k) (sym (null_same row)))
      ∙ ap (λ b. b || (nullable_row (sets_of d) row && has mask k)) (sym (first_same row k)))

  followed_by_test : (row : List Symbol) (mask : ℕ) → followed_test d.facts row mask ≡ true → IsFollowed (sets_of d) row (λ k. has mask k)
  followed_by_test [] mask e = tt
  followed_by_test (Kind c ∷ row) mask e = followed_by_test row mask e
  followed_by_test (Non n ∷ row) mask e =
      let a = and_parts _ _ e in
      let b = and_parts _ _ a.1 in (
        ltb-true n (length d.facts) a.0,
        (λ k s. has_within (select_mask d.facts row mask) (facts_at d.facts n).follow k b.0 (sym (select_same row mask k) ∙ s)),
        followed_by_test row mask b.1,
      )

  cost_same : (row : List Symbol) → cost_row (sets_of d) row ≡ cost_mask d.facts row
  cost_same [] = refl
  cost_same (Kind c ∷ row) = refl
  cost_same (Non n ∷ row) = ap (λ x. (facts_at d.facts n).cost + cond (facts_at d.facts n).nullable x 0) (cost_same row)

  ranks_by_test : (row : List Symbol) (r : ℕ) → ranks_test d.facts row r ≡ true → RanksBelow (sets_of d) row r
  ranks_by_test [] r e = tt
  ranks_by_test (Kind c ∷ row) r e = ranks_by_test row r e
  ranks_by_test (Non n ∷ row) r e =
      let a = and_parts _ _ e in
      let b = and_parts _ _ a.1 in
      (ltb-true n (length d.facts) a.0, ltb-true (facts_at d.facts n).rank r b.0, ranks_by_test row r b.1)

  rule_by_test : (rs : List Rule) → rules_test d.facts rs ≡ true → (p : ℕ) → p < length rs → rule_test d.facts (rule_at rs p) ≡ true
  rule_by_test [] e p h = absurd (grind arith)
  rule_by_test (r ∷ rs) e zero h = (and_parts _ _ e).0
  rule_by_test (r ∷ rs) e (suc p) h = rule_by_test rs (and_parts _ _ e).1 p (grind arith)

  fact_by_test : (m : ℕ) (fs : List Facts) → facts_test d m fs ≡ true → (n : ℕ) → n < length fs → fact_test d (m + n) (facts_at fs n) ≡ true
  fact_by_test m [] e n h = absurd (grind arith)
  fact_by_test m (f ∷ fs) e zero h = subst (λ j. fact_test d j f ≡ true) (omega arith) (and_parts _ _ e).0
  fact_by_test m (f ∷ fs) e (suc n) h =
      subst (λ j. fact_test d j (facts_at fs n) ≡ true) (omega arith) (fact_by_test (suc m) fs (and_parts _ _ e).1 n (grind arith))

-- what is taken stays so
taken_more : (taken : List ℕ) (n k : ℕ) (j mask : ℕ) → has (mask_at taken n) k ≡ true → has (mask_at (with_mask taken j mask) n) k ≡ true
taken_more [] n k j mask h = absurd (true≢false (sym h ∙ has_none k))
taken_more (m ∷ ms) zero k zero mask h = has_or m mask k ∙ or_left _ _ h
taken_more (m ∷ ms) zero k (suc j) mask h = h
taken_more (m ∷ ms) (suc n) k zero mask h = h
taken_more (m ∷ ms) (suc n) k (suc j) mask h = taken_more ms n k j mask h

taken_here : (taken : List ℕ) (n k mask : ℕ) → has mask k ≡ true → has (mask_at (with_mask taken n mask) n) k ≡ true
taken_here [] zero k mask h = h
taken_here [] (suc n) k mask h = taken_here [] n k mask h
taken_here (m ∷ ms) zero k mask h = has_or m mask k ∙ or_right _ _ h
taken_here (m ∷ ms) (suc n) k mask h = taken_here ms n k mask h

-- a rule isn't selected by what is taken
not_taken :
    (fs : List Facts) (rs : List Rule) (taken : List ℕ) → apart taken (map (λ r. selected fs r) rs) ≡ true → (p k : ℕ) → p < length rs
    → has (selected fs (rule_at rs p)).mask k ≡ true → has (mask_at taken (rule_at rs p).left) k ≡ true → ⊥
not_taken fs [] taken e p k h s t = absurd (grind arith)
not_taken fs (r ∷ rs) taken e zero k h s t = apart_masks (selected fs r).mask (mask_at taken r.left) k (and_parts _ _ e).0 s t
not_taken fs (r ∷ rs) taken e (suc p) k h s t =
    not_taken fs rs (with_mask taken r.left (selected fs r).mask) (and_parts _ _ e).1 p k (grind arith) s
    (taken_more taken (rule_at rs p).left k r.left (selected fs r).mask t)

found :
    (fs : List Facts) (rs : List Rule) (taken : List ℕ) → apart taken (map (λ r. selected fs r) rs) ≡ true → (i p k : ℕ) → p < length rs
    → has (selected fs (rule_at rs p)).mask k ≡ true → find i (map (λ r. selected fs r) rs) (rule_at rs p).left k ≡ Some (i + p)
found fs [] taken e i p k h s = absurd (grind arith)
found fs (r ∷ rs) taken e i zero k h s =
    ap (λ b. cond b (Some i) (find (suc i) (map (λ r. selected fs r) rs) r.left k)) (and_from _ _ (eq-eqb r.left r.left refl) s)
    ∙ ap (λ j. Some j) (omega arith)
found fs (r ∷ rs) taken e i (suc p) k h s =
    let later : p < length rs = grind arith in
    ap (λ b. cond b (Some i) (find (suc i) (map (λ r. selected fs r) rs) (rule_at rs p).left k))
    (false_from_ne_true (nat_eq r.left (rule_at rs p).left && has (selected fs r).mask k)
    (other (and_parts (disjoint (selected fs r).mask (mask_at taken r.left)) (apart (with_mask taken r.left (selected fs r).mask) (map (λ r. selected fs r) rs)) e).1 later))
    ∙ found fs rs (with_mask taken r.left (selected fs r).mask) (and_parts _ _ e).1 (suc i) p k later s
    ∙ ap (λ j. Some j) (omega arith)
  where
    other :
        apart (with_mask taken r.left (selected fs r).mask) (map (λ r. selected fs r) rs) ≡ true → p < length rs
        → (nat_eq r.left (rule_at rs p).left && has (selected fs r).mask k) ≡ true → ⊥
    other rest later both =
        let parts = and_parts (nat_eq r.left (rule_at rs p).left) (has (selected fs r).mask k) both in
        let same = eqb-true r.left (rule_at rs p).left parts.0 in
        not_taken fs rs (with_mask taken r.left (selected fs r).mask) rest p k later s
        (subst (λ j. has (mask_at (with_mask taken r.left (selected fs r).mask) j) k ≡ true) same (taken_here taken r.left k (selected fs r).mask parts.1))

Entry : List Rule → ℕ → ℕ → ℕ → Type 0
Entry rs i n p = (q : ℕ) × (p ≡ i + q) × (q < length rs) × ((rule_at rs q).left ≡ n)

entry_of : (fs : List Facts) (rs : List Rule) (i n k p : ℕ) → find i (map (λ r. selected fs r) rs) n k ≡ Some p → Entry rs i n p
unfolding Entry
entry_of fs [] i n k p e = cc
entry_of fs (r ∷ rs) i n k p e = go (nat_eq r.left n && has (selected fs r).mask k) refl e (λ f. entry_of fs rs (suc i) n k p f)
  where
    go : (b : Bool) → (nat_eq r.left n && has (selected fs r).mask k) ≡ b → cond b (Some i) (find (suc i) (map (λ r. selected fs r) rs) n k) ≡ Some p
        → (find (suc i) (map (λ r. selected fs r) rs) n k ≡ Some p → Entry rs (suc i) n p) → Entry (r ∷ rs) i n p
    go true b e more =
        let same : i ≡ p = cc in
        (0, omega arith, grind arith, eqb-true r.left n (and_parts (nat_eq r.left n) (has (selected fs r).mask k) b).0)
    go false b e more =
        let at = more e in
        let here : p ≡ i + suc at.0 = omega (arith, at.1) in
        let inside : suc at.0 < suc (length rs) = omega (arith, at.2) in
        (suc at.0, here, inside, at.3)

entry_first :
    (fs : List Facts) (rs : List Rule) (n k p : ℕ) → find 0 (map (λ r. selected fs r) rs) n k ≡ Some p → (p < length rs) × ((rule_at rs p).left ≡ n)
unfolding Entry
entry_first fs rs n k p e = go (entry_of fs rs 0 n k p e)
  where
    go : (q : ℕ) × (p ≡ 0 + q) × (q < length rs) × ((rule_at rs q).left ≡ n) → (p < length rs) × ((rule_at rs p).left ≡ n)
    go (q, same, inside, left) = let is : p ≡ q = omega arith in (omega arith, ap (λ i. (rule_at rs i).left) is ∙ left)

rule_parts :
    (d : Listed) (r : Rule) → rule_test d.facts r ≡ true
    → (nullable_mask d.facts r.right ≡ true → (facts_at d.facts r.left).nullable ≡ true)
    × (within (first_mask d.facts r.right) (facts_at d.facts r.left).first ≡ true)
    × (followed_test d.facts r.right (facts_at d.facts r.left).follow ≡ true)
    × (suc (cost_mask d.facts r.right) < (facts_at d.facts r.left).cost)
rule_parts d r e =
    let a = and_parts _ _ e in
    let b = and_parts _ _ a.1 in
    let c = and_parts _ _ b.1 in (
      implied (nullable_mask d.facts r.right) (facts_at d.facts r.left).nullable a.0,
      b.0,
      c.0,
      ltb-true (suc (cost_mask d.facts r.right)) (facts_at d.facts r.left).cost c.1,
    )
  where
    implied : (x y : Bool) → (not x || y) ≡ true → x ≡ true → y ≡ true
    implied true y e f = e
    implied false y e f = absurd (true≢false (sym f))

pub by_test : (d : Listed) → is_predictive d ≡ true → IsPredictive (grammar_of d) (sets_of d)
by_test d e =
    let a = and_parts _ _ e in
    let b = and_parts _ _ a.1 in
    let of = λ (p : ℕ) (h : p < length d.rules). rule_parts d (rule_at d.rules p) (rule_by_test d d.rules a.0 p h) in
    record {
      nullable = λ p h null. (of p h).0 (sym (null_same d (rule_at d.rules p).right) ∙ null);
      first = λ p h k f.
          has_within (first_mask d.facts (rule_at d.rules p).right) (facts_at d.facts (rule_at d.rules p).left).first k (of p h).1
          (sym (first_same d (rule_at d.rules p).right k) ∙ f);
      follow = λ p h. followed_by_test d (rule_at d.rules p).right (facts_at d.facts (rule_at d.rules p).left).follow (of p h).2;
      table = λ p h k s.
          found d.facts d.rules [] b.1 0 p k h (sym (select_same d (rule_at d.rules p).right (facts_at d.facts (rule_at d.rules p).left).follow k) ∙ s)
          ∙ ap (λ j. Some j) (omega arith);
      entry = λ n k p t. entry_first d.facts d.rules n k p t;
      cost = λ p h. subst (λ x. suc x < (facts_at d.facts (rule_at d.rules p).left).cost) (sym (cost_same d (rule_at d.rules p).right)) (of p h).3;
      shortest = λ n h.
          let t = subst (λ j. fact_test d j (facts_at d.facts n) ≡ true) (omega arith) (fact_by_test d 0 d.facts b.0 n h) in
          let x = and_parts _ _ t in
          let y = and_parts _ _ x.1 in
          (ltb-true _ _ x.0, eqb-true _ _ y.0, ranks_by_test d (rule_at d.rules (facts_at d.facts n).shortest).right (facts_at d.facts n).rank y.1);
    }

-- two grammars of the same rules
pub record IsAlike (g h : Grammar) : Type 0 where
  pub count : g.count ≡ h.count
  pub left : (p : ℕ) → p < g.count → g.left p ≡ h.left p
  pub right : (p : ℕ) → p < g.count → g.right p ≡ h.right p

pub of_alike : (g h : Grammar) (s : Sets) → IsAlike g h → IsPredictive g s → IsPredictive h s
of_alike g h s alike is =
    let back = λ (p : ℕ) (i : p < h.count). subst (λ n. p < n) (sym alike.count) i in
    record {
      nullable = λ p i.
          subst (λ row. nullable_row s row ≡ true → s.nullable (h.left p) ≡ true) (alike.right p (back p i))
          (subst (λ n. nullable_row s (g.right p) ≡ true → s.nullable n ≡ true) (alike.left p (back p i)) (is.nullable p (back p i)));
      first = λ p i.
          subst (λ row. (k : ℕ) → first_row s row k ≡ true → s.first (h.left p) k ≡ true) (alike.right p (back p i))
          (subst (λ n. (k : ℕ) → first_row s (g.right p) k ≡ true → s.first n k ≡ true) (alike.left p (back p i)) (is.first p (back p i)));
      follow = λ p i.
          subst (λ row. IsFollowed s row (s.follow (h.left p))) (alike.right p (back p i))
          (subst (λ n. IsFollowed s (g.right p) (s.follow n)) (alike.left p (back p i)) (is.follow p (back p i)));
      table = λ p i.
          subst (λ row. (k : ℕ) → select s row (s.follow (h.left p)) k ≡ true → s.table (h.left p) k ≡ Some p) (alike.right p (back p i))
          (subst (λ n. (k : ℕ) → select s (g.right p) (s.follow n) k ≡ true → s.table n k ≡ Some p) (alike.left p (back p i)) (is.table p (back p i)));
      entry = λ n k p e.
          let there = is.entry n k p e in
          (subst (λ c. p < c) alike.count there.0, sym (alike.left p there.0) ∙ there.1);
      cost = λ p i.
          subst (λ row. suc (cost_row s row) < s.cost (h.left p)) (alike.right p (back p i))
          (subst (λ n. suc (cost_row s (g.right p)) < s.cost n) (alike.left p (back p i)) (is.cost p (back p i)));
      shortest = λ n i.
          let there = is.shortest n i in (
            subst (λ c. s.shortest n < c) alike.count there.0,
            sym (alike.left (s.shortest n) there.0) ∙ there.1,
            subst (λ row. RanksBelow s row (s.rank n)) (alike.right (s.shortest n) there.0) there.2,
          );
    }
