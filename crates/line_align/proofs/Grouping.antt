-- Things that are kept by their names, one at a time.
use Rattle.std.proofs.Common.{◌≡◌, ◌∙◌, ◌||◌, ℕ, zero, suc, ◌+◌, ◌<◌, ◌++◌, Bool, true, false, cond, List, [], ◌∷◌, length, length-append, map, filter, set, take, get_or, None, Some, refl, sym, ap, subst, arith}
use Rattle.std.proofs.lemmas.List.{append-nil, map-append, take_more}
use Rattle.std.proofs.lemmas.List.Elements.{filter-append}
use Rattle.std.proofs.lemmas.List.Quantifiers.{position-Some}
use Rattle.std.specs.Borrow.{Bor}
use Rattle.std.specs.Prelude.{find, slice_get}
use Rattle.ir_types.specs.declared.names.Name.{Name}
use Rattle.ir_types.specs.NameLaws.{same_name_true, same_name_refl}
use Rattle.ir_types.specs.Same.{same_name}
use Rattle.ir_core.specs.NameIndexes.Among.{is_among, place_among}
use Rattle.ir_core.proofs.NameIndexes.Among.{among_is}
use Rattle.ir_core.proofs.NameIndexes.FirstPlaces.{no_place}
use Rattle.line_align.specs.Grouped.{group_of}

same_turned : (x y : Name) (b : Bool) → same_name x y ≡ b → same_name y x ≡ b
same_turned x y true e = subst (λ z. same_name z x ≡ true) (same_name_true x y e) (same_name_refl x)
same_turned x y false e = (elim (same_name y x) as (λ c. same_name y x ≡ c → c ≡ false) [
  | true ↦ λ t. let there : same_name x y ≡ true = subst (λ z. same_name z y ≡ true) (same_name_true y x t) (same_name_refl y) in absurd (cc)
  | false ↦ λ t. refl
]) refl

-- where x is m, n is the same as x as it is as m
same_as : (n m x : Name) (b : Bool) → same_name x m ≡ true → same_name n m ≡ b → same_name n x ≡ b
same_as n m x b is e = ap (same_name n) (same_name_true x m is) ∙ e

pub not_among : (n : Name) (names : List Name) → place_among n names ≡ None → is_among n names ≡ false
not_among n names none = (elim (is_among n names) as (λ b. is_among n names ≡ b → b ≡ false) [
  | true ↦ λ e. absurd (no_place n names none (among_is n names e))
  | false ↦ λ e. refl
]) refl

module _ {T : Type 0} where
  abbrev things : List (Bor T) → List T
  things g = map (λ (item : Bor T). item.now) g

  abbrev if_named : Name → Name → List T → List T
  if_named n x items = cond (same_name n x) items []

  keeps_none : (n x : Name) (items more : List T) → same_name n x ≡ false → items ≡ items ++ if_named n x more
  keeps_none n x items more e = sym (ap (λ b. items ++ cond b more []) e ∙ append-nil items)

  -- ---- a name that is there

  joined : (x n : Name) (item : Bor T) (names : List Name) (groups : List (List (Bor T))) (k : ℕ) → length groups ≡ length names → k < length names
      → same_name n (get_or names k n) ≡ true → ((j : ℕ) → j < k → same_name n (get_or names j n) ≡ false)
      → group_of x names (set groups k (get_or groups k [] ++ item ∷ [])) ≡ group_of x names groups ++ if_named n x (item.now ∷ [])
  joined x n item [] groups k many within here before = absurd (omega arith)
  joined x n item (m ∷ names) [] k many within here before = absurd (omega arith)
  joined x n item (m ∷ names) (g ∷ groups) zero many within here before =
      (elim (same_name x m) as (λ b. same_name x m ≡ b
      → cond b (things (g ++ item ∷ [])) (group_of x names groups) ≡ cond b (things g) (group_of x names groups) ++ if_named n x (item.now ∷ [])) [
        | true ↦ λ e. map-append (λ (i : Bor T). i.now) g (item ∷ []) ∙ sym (ap (λ b. things g ++ cond b (item.now ∷ []) []) (same_as n m x true e here))
        | false ↦ λ e.
            keeps_none n x (group_of x names groups) (item.now ∷ [])
            (same_turned x n false (subst (λ z. same_name x z ≡ false) (sym (same_name_true n m here)) e))
      ]) refl
  joined x n item (m ∷ names) (g ∷ groups) (suc k) many within here before =
      (elim (same_name x m) as (λ b. same_name x m ≡ b
      → cond b (things g) (group_of x names (set groups k (get_or groups k [] ++ item ∷ []))) ≡ cond b (things g) (group_of x names groups) ++ if_named n x (item.now ∷ [])) [
        | true ↦ λ e. keeps_none n x (things g) (item.now ∷ []) (same_as n m x false e (before 0 (omega arith)))
        | false ↦ λ e. joined x n item names groups k (omega arith) (omega arith) here (λ j less. before (suc j) (omega arith))
      ]) refl

  pub joined_at : (x n : Name) (item : Bor T) (names : List Name) (groups : List (List (Bor T))) (k : ℕ) → length groups ≡ length names → place_among n names ≡ Some k
      → group_of x names (set groups k (get_or groups k [] ++ item ∷ [])) ≡ group_of x names groups ++ if_named n x (item.now ∷ [])
  joined_at x n item names groups k many is =
      let found = position-Some (same_name n) names k n is in
      joined x n item names groups k many found.0 found.1 found.2

  pub place_within : (n : Name) (names : List Name) (groups : List (List (Bor T))) (k : ℕ) → length groups ≡ length names → place_among n names ≡ Some k → k < length groups
  place_within n names groups k many is = let found = position-Some (same_name n) names k n is in omega (arith, found.0)

  -- ---- a name that is new

  begun : (x n : Name) (item : Bor T) (names : List Name) (groups : List (List (Bor T))) → length groups ≡ length names → is_among n names ≡ false
      → group_of x (names ++ n ∷ []) (groups ++ (item ∷ []) ∷ []) ≡ group_of x names groups ++ if_named n x (item.now ∷ [])
  begun x n item [] [] many new = ap (λ b. cond b (item.now ∷ []) []) (same_turned n x (same_name n x) refl)
  begun x n item [] (g ∷ groups) many new = absurd (omega arith)
  begun x n item (m ∷ names) [] many new = absurd (omega arith)
  begun x n item (m ∷ names) (g ∷ groups) many new =
      let other : same_name n m ≡ false = neither_left (same_name n m) (is_among n names) new in
      let rest : is_among n names ≡ false = neither_right (same_name n m) (is_among n names) new in
      (elim (same_name x m) as (λ b. same_name x m ≡ b
      → cond b (things g) (group_of x (names ++ n ∷ []) (groups ++ (item ∷ []) ∷ [])) ≡ cond b (things g) (group_of x names groups) ++ if_named n x (item.now ∷ [])) [
        | true ↦ λ e. keeps_none n x (things g) (item.now ∷ []) (same_as n m x false e other)
        | false ↦ λ e. begun x n item names groups (omega arith) rest
      ]) refl
    where
      neither_left : (a b : Bool) → (a || b) ≡ false → a ≡ false
      neither_left true b e = absurd (cc)
      neither_left false b e = refl

      neither_right : (a b : Bool) → (a || b) ≡ false → b ≡ false
      neither_right true b e = absurd (cc)
      neither_right false b e = e

  pub begun_at : (x n : Name) (item : Bor T) (names : List Name) (groups : List (List (Bor T))) → length groups ≡ length names → place_among n names ≡ None
      → group_of x (names ++ n ∷ []) (groups ++ (item ∷ []) ∷ []) ≡ group_of x names groups ++ if_named n x (item.now ∷ [])
  begun_at x n item names groups many none = begun x n item names groups many (not_among n names none)

  pub one_longer : (names : List Name) (groups : List (List (Bor T))) (n : Name) (g : List (Bor T)) → length groups ≡ length names
      → length (groups ++ g ∷ []) ≡ length (names ++ n ∷ [])
  one_longer names groups n g many = length-append groups (g ∷ []) ∙ (let e = length-append names (n ∷ []) in omega (arith, e))

  -- ---- what is found

  found_at : (x : Name) (names : List Name) (groups : List (List (Bor T))) (k : ℕ) → length groups ≡ length names → k < length names
      → same_name x (get_or names k x) ≡ true → ((j : ℕ) → j < k → same_name x (get_or names j x) ≡ false)
      → things (get_or groups k []) ≡ group_of x names groups
  found_at x [] groups k many within here before = absurd (omega arith)
  found_at x (m ∷ names) [] k many within here before = absurd (omega arith)
  found_at x (m ∷ names) (g ∷ groups) zero many within here before = sym (ap (λ b. cond b (things g) (group_of x names groups)) here)
  found_at x (m ∷ names) (g ∷ groups) (suc k) many within here before =
      found_at x names groups k (omega arith) (omega arith) here (λ j less. before (suc j) (omega arith))
      ∙ sym (ap (λ b. cond b (things g) (group_of x names groups)) (before 0 (omega arith)))

  pub group_found : (x : Name) (names : List Name) (groups : List (List (Bor T))) (k : ℕ) → length groups ≡ length names → place_among x names ≡ Some k
      → things (get_or groups k []) ≡ group_of x names groups
  group_found x names groups k many is =
      let found = position-Some (same_name x) names k x is in
      found_at x names groups k many found.0 found.1 found.2

  none_found : (x : Name) (names : List Name) (groups : List (List (Bor T))) → is_among x names ≡ false → [] ≡ group_of x names groups
  none_found x [] [] new = refl
  none_found x [] (g ∷ groups) new = refl
  none_found x (m ∷ names) [] new = refl
  none_found x (m ∷ names) (g ∷ groups) new = (elim (same_name x m) as (λ b. (b || is_among x names) ≡ false → [] ≡ cond b (things g) (group_of x names groups)) [
    | true ↦ λ e. absurd (cc)
    | false ↦ λ e. none_found x names groups e
  ]) new

  pub group_lacks : (x : Name) (names : List Name) (groups : List (List (Bor T))) → place_among x names ≡ None → [] ≡ group_of x names groups
  group_lacks x names groups none = none_found x names groups (not_among x names none)

  -- the first of those that pass a test
  pub first_passes : (test : T → Bool) (items : List T) → slice_get (filter test items) 0 ≡ find test items
  first_passes test [] = refl
  first_passes test (item ∷ items) = elim (test item) as (λ b. slice_get (cond b (item ∷ filter test items) (filter test items)) 0 ≡ cond b (Some item) (find test items)) [
    | true ↦ refl
    | false ↦ first_passes test items
  ]

  -- one item more
  pub one_more : (test : T → Bool) (items : List T) (i : ℕ) (item : T) → i < length items → item ≡ get_or items i item
      → filter test (take (i + 1) items) ≡ filter test (take i items) ++ cond (test item) (item ∷ []) []
  one_more test items i item within is =
      ap (filter test) (take_more items i item within ∙ ap (λ (t : T). take i items ++ t ∷ []) (sym is)) ∙ filter-append test (take i items) (item ∷ [])

  pub first_some : (xs : List (Bor T)) (test : T → Bool) (items : List T) (i : Bor T) → things xs ≡ filter test items → Some i ≡ slice_get xs 0 → Some i.now ≡ find test items
  first_some [] test items i all first = absurd (cc)
  first_some (x ∷ xs) test items i all first =
      let same : i ≡ x = cc in
      ap (λ (it : Bor T). Some it.now) same ∙ ap (λ (ts : List T). slice_get ts 0) all ∙ first_passes test items

  pub first_none : (xs : List (Bor T)) (test : T → Bool) (items : List T) → things xs ≡ filter test items → None ≡ slice_get xs 0 → None ≡ find test items
  first_none [] test items all first = ap (λ (ts : List T). slice_get ts 0) all ∙ first_passes test items
  first_none (x ∷ xs) test items all first = absurd (cc)
