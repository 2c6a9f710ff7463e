-- What the arrays of a listed grammar hold.
use Rattle.std.proofs.Common.{◌≡◌, ◌<◌, ◌≤◌, ◌+◌, ◌-◌, ◌*◌, ◌^◌, ℕ, zero, suc, Bool, true, false, cond, ◌&&◌, nat_eq, nat_lt, List, [], ◌∷◌, ◌++◌, length, take, drop, get_or, map, Option, Some, None, refl, ap, sym, ◌∙◌, subst, append_assoc, arith, ◌⊎◌, inl, inr}
use Rattle.std.proofs.lemmas.Bool.{and_parts, ltb-true}
use Rattle.std.proofs.lemmas.List.{get_or_append_left, get_or-append-add}
use Rattle.std.proofs.lemmas.Nat.Bits.{bit_at_above}
use Rattle.std.proofs.Math.Seq.{drop-append_seam, take-append_seam}
use Rattle.std.proofs.Math.ListN.{length-append}
use Rattle.predictive.specs.declared.symbol.Symbol.{Symbol}
use Rattle.predictive.specs.Listed.{Listed, Rule, Selected, rule_at, has, selected, find, sets_of}
use Rattle.predictive.specs.Arrays.{Numbered, with_if, rules_of, pick, code, entries, rows, masks_below, IsDense, starts_of, symbols_of, IsLaid}

entries_at : (rules : List Numbered) (k left j : ℕ) → j < left → get_or (entries rules k left) j 0 ≡ code (pick rules (k + j))
entries_at rules k zero j h = absurd (omega arith)
entries_at rules k (suc left) zero h = ap (λ i. code (pick rules i)) (omega arith)
entries_at rules k (suc left) (suc j) h = entries_at rules (suc k) left j (omega arith) ∙ ap (λ i. code (pick rules i)) (omega arith)

length_entries : (rules : List Numbered) (k left : ℕ) → length (entries rules k left) ≡ left
length_entries rules k zero = refl
length_entries rules k (suc left) = ap (λ i. suc i) (length_entries rules (suc k) left)

rows_at :
    (all : List Selected) (width m left n k : ℕ) → n < left → k < width
    → get_or (rows all width m left) (n * width + k) 0 ≡ code (pick (rules_of 0 (m + n) all) k)
rows_at all width m zero n k h j = absurd (omega arith)
rows_at all width m (suc left) zero k h j =
    ap (λ i. get_or (entries (rules_of 0 m all) 0 width ++ rows all width (suc m) left) i 0) (omega arith)
    ∙ get_or_append_left (entries (rules_of 0 m all) 0 width) (rows all width (suc m) left) 0 k (subst (λ i. k < i) (sym (length_entries (rules_of 0 m all) 0 width)) j)
    ∙ entries_at (rules_of 0 m all) 0 width k j
    ∙ ap (λ i. code (pick (rules_of 0 m all) i)) (omega arith)
    ∙ ap (λ i. code (pick (rules_of 0 i all) k)) (omega arith)
rows_at all width m (suc left) (suc n) k h j =
    ap (λ i. get_or (entries (rules_of 0 m all) 0 width ++ rows all width (suc m) left) i 0) (step (length_entries (rules_of 0 m all) 0 width))
    ∙ get_or-append-add (entries (rules_of 0 m all) 0 width) (rows all width (suc m) left) (n * width + k) 0
    ∙ rows_at all width (suc m) left n k (omega arith) j
    ∙ ap (λ i. code (pick (rules_of 0 i all) k)) (omega arith)
  where
    step : length (entries (rules_of 0 m all) 0 width) ≡ width → suc n * width + k ≡ length (entries (rules_of 0 m all) 0 width) + (n * width + k)
    step e = grind arith

pick_is_find : (all : List Selected) (i n k : ℕ) → pick (rules_of i n all) k ≡ find i all n k
pick_is_find [] i n k = refl
pick_is_find (s ∷ rest) i n k = go (nat_eq s.left n) (pick_is_find rest (suc i) n k)
  where
    go : (b : Bool) → pick (rules_of (suc i) n rest) k ≡ find (suc i) rest n k
        → pick (with_if b (record { rule = i; mask = s.mask }) (rules_of (suc i) n rest)) k ≡ cond (b && has s.mask k) (Some i) (find (suc i) rest n k)
    go true e = ap (λ o. cond (has s.mask k) (Some i) o) e
    go false e = e

none_past : (width : ℕ) (all : List Selected) → masks_below (2 ^ width) all ≡ true → (i n k : ℕ) → width ≤ k → find i all n k ≡ None
none_past width [] e i n k h = refl
none_past width (s ∷ rest) e i n k h =
    let parts = and_parts (nat_lt s.mask (2 ^ width)) (masks_below (2 ^ width) rest) e in
    let none : has s.mask k ≡ false = ap (λ b. nat_eq b 1) (bit_at_above s.mask width k (ltb-true s.mask (2 ^ width) parts.0) h) in
    go (nat_eq s.left n) (has s.mask k) none ∙ none_past width rest parts.1 (suc i) n k h
  where
    go : (a b : Bool) → b ≡ false → cond (a && b) (Some i) (find (suc i) rest n k) ≡ find (suc i) rest n k
    go true b e = ap (λ b. cond b (Some i) (find (suc i) rest n k)) e
    go false b e = refl

pub none_chosen : (d : Listed) (width n k : ℕ) (choices : List ℕ) → IsDense d width choices → width ≤ k → (sets_of d).table n k ≡ None
none_chosen d width n k choices dense h = none_past width (map (λ r. selected d.facts r) d.rules) dense.0 0 n k h

pub code_at :
    (d : Listed) (width n k : ℕ) (choices : List ℕ) → IsDense d width choices → n < length d.facts → k < width
    → get_or choices (n * width + k) 0 ≡ code ((sets_of d).table n k)
code_at d width n k choices dense h j =
    ap (λ l. get_or l (n * width + k) 0) dense.1
    ∙ rows_at (map (λ r. selected d.facts r) d.rules) width 0 (length d.facts) n k h j
    ∙ ap code (ap (λ i. pick (rules_of 0 i (map (λ r. selected d.facts r) d.rules)) k) (omega arith)
    ∙ pick_is_find (map (λ r. selected d.facts r) d.rules) 0 n k)

pub of_code : (o : Option ℕ) → code o ≡ 0 → o ≡ None
of_code None e = refl
of_code (Some p) e = absurd (omega arith)

pub of_code_more : (o : Option ℕ) (c : ℕ) → code o ≡ c → 0 < c → o ≡ Some (c - 1)
of_code_more None c e h = absurd (omega arith)
of_code_more (Some p) c e h = ap (λ i. Some i) (omega arith)

first_start : (at : ℕ) (rules : List Rule) → get_or (starts_of at rules) 0 0 ≡ at
first_start at [] = refl
first_start at (r ∷ rs) = refl

-- a right side lies where the arrays say
pub record Lies (starts : List ℕ) (symbols : List Symbol) (p : ℕ) (row : List Symbol) : Type 0 where
  pub ends : get_or starts (suc p) 0 ≡ get_or starts p 0 + length row
  pub inside : get_or starts p 0 + length row ≤ length symbols
  pub there : take (length row) (drop (get_or starts p 0) symbols) ≡ row

lies :
    (rules : List Rule) (p at : ℕ) (before : List Symbol) → length before ≡ at → p < length rules
    → Lies (starts_of at rules) (before ++ symbols_of rules) p (rule_at rules p).right
lies [] p at before e h = absurd (grind arith)
lies (r ∷ rs) zero at before e h =
    record {
      ends = first_start (at + length r.right) rs;
      inside = omega (arith, length-append before (r.right ++ symbols_of rs), length-append r.right (symbols_of rs));
      there =
          ap (λ i. take (length r.right) (drop i (before ++ (r.right ++ symbols_of rs)))) (sym e)
          ∙ ap (λ l. take (length r.right) l) (drop-append_seam before (r.right ++ symbols_of rs))
          ∙ take-append_seam r.right (symbols_of rs);
    }
lies (r ∷ rs) (suc p) at before e h =
    let more = lies rs p (at + length r.right) (before ++ r.right) (omega (arith, length-append before r.right)) (grind arith) in
    let same = append_assoc before r.right (symbols_of rs) in
    record {
      ends = more.ends;
      inside = subst (λ l. get_or (starts_of (at + length r.right) rs) p 0 + length (rule_at rs p).right ≤ length l) same more.inside;
      there = subst (λ l. take (length (rule_at rs p).right) (drop (get_or (starts_of (at + length r.right) rs) p 0) l) ≡ (rule_at rs p).right) same more.there;
    }

pub laid : (d : Listed) (starts : List ℕ) (symbols : List Symbol) → IsLaid d starts symbols → (p : ℕ) → p < length d.rules → Lies starts symbols p (rule_at d.rules p).right
laid d starts symbols is p h =
    subst (λ s. Lies s symbols p (rule_at d.rules p).right) (sym is.0)
    (subst (λ l. Lies (starts_of 0 d.rules) l p (rule_at d.rules p).right) (sym is.1) (lies d.rules p 0 [] refl h))

pub rule_of_none : (d : Listed) (width n k c : ℕ) (choices : List ℕ) → IsDense d width choices → n < length d.facts → k < width → c ≡ get_or choices (n * width + k) 0 → c ≡ 0 → None ≡ (sets_of d).table n k
rule_of_none d width n k c choices dense h j e z = sym (of_code ((sets_of d).table n k) (sym (code_at d width n k choices dense h j) ∙ sym e ∙ z))

pub rule_of_code : (d : Listed) (width n k c : ℕ) (choices : List ℕ) → IsDense d width choices → n < length d.facts → k < width → c ≡ get_or choices (n * width + k) 0 → 0 < c → Some (c - 1) ≡ (sets_of d).table n k
rule_of_code d width n k c choices dense h j e z = sym (of_code_more ((sets_of d).table n k) c (sym (code_at d width n k choices dense h j) ∙ sym e) z)

pub side_there :
    (d : Listed) (starts : List ℕ) (symbols : List Symbol) → IsLaid d starts symbols → (p from to : ℕ) → p < length d.rules
    → from ≡ get_or starts p 0 → to ≡ get_or starts (p + 1) 0
    → (from ≤ to) × (to ≤ length symbols) × (take (to - from) (drop from symbols) ≡ (rule_at d.rules p).right)
side_there d starts symbols is p from to h a b =
    let l = laid d starts symbols is p h in
    let next : p + 1 ≡ suc p = omega arith in
    let ends : to ≡ from + length (rule_at d.rules p).right = b ∙ ap (λ i. get_or starts i 0) next ∙ l.ends ∙ ap (λ i. i + length (rule_at d.rules p).right) (sym a) in
    let inside : from + length (rule_at d.rules p).right ≤ length symbols = subst (λ i. i + length (rule_at d.rules p).right ≤ length symbols) (sym a) l.inside in
    let long : to - from ≡ length (rule_at d.rules p).right = omega arith in (
      omega arith,
      omega arith,
      ap (λ i. take i (drop from symbols)) long ∙ ap (λ i. take (length (rule_at d.rules p).right) (drop i symbols)) a ∙ l.there,
    )

pub not_past : (from to length : ℕ) → from ≤ to → to ≤ length → (to < from) ⊎ (length < to) → ⊥
not_past from to length a b (inl h) = omega arith
not_past from to length a b (inr h) = omega arith
