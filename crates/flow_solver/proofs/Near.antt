-- The nodes that paths of few edges come to are those that paths come to.
use Rattle.std.proofs.Common.{◌≡◌, ◌∙◌, ◌⊎◌, ⊎_elim, inl, inr, ℕ, suc, zero, ◌+◌, ◌<◌, ◌≤◌, Bool, true, false, cond, ◌&&◌, List, [], ◌∷◌, ◌++◌, length, get_or, nat_eq, count_by, refl, sym, ap, subst, arith}
use Rattle.std.proofs.lemmas.Bool.{and_from, and_parts, eq-eqb, eqb-true, or_cases, or_left, or_right}
use Rattle.std.proofs.lemmas.Bool.Decides.{same_from_decides}
use Rattle.std.proofs.lemmas.List.Folds.{Any-from_list_any, list_any-from_Any}
use Rattle.std.proofs.lemmas.List.FromFn.{fill_by_all, get_or-range_with_len, length-range_with_len}
use Rattle.std.proofs.lemmas.List.Sums.{count_by-le-length, sum_by-cons}
use Rattle.std.specs.List.{Contains, list_any, range_with_len}
use Rattle.std.specs.Prelude.{◌↔◌, IsTrue, slice_index_or}
use Rattle.flow_solver.specs.Near.{is_near, is_reached, nodes_of, reached_nodes}
use Rattle.flow_solver.specs.Ways.{IsPath, IsReached, last_of, led_to}

-- ---- tests of which each number that passes the one passes the other

abbrev HasMore : (ℕ → Bool) → (ℕ → Bool) → List ℕ → Type 0
HasMore p q xs =
    (count_by p xs < count_by q xs)
    ⊎ ((count_by p xs ≤ count_by q xs) × ((k d : ℕ) → k < length xs → q (get_or xs k d) ≡ true → p (get_or xs k d) ≡ true))

count_cons : (p : ℕ → Bool) (x : ℕ) (xs : List ℕ) → count_by p (x ∷ xs) ≡ cond (p x) 1 0 + count_by p xs
count_cons p x xs = sum_by-cons (λ y. cond (p y) 1 0) x xs

-- as many numbers pass both, or more pass the second
same_or_more : (p q : ℕ → Bool) → ((n : ℕ) → p n ≡ true → q n ≡ true) → (xs : List ℕ) → HasMore p q xs
same_or_more p q weaker [] = inr (omega arith, λ k d within. absurd (omega arith))
same_or_more p q weaker (x ∷ xs) = go (p x) (q x) refl refl (same_or_more p q weaker xs)
  where
    with : (b c : Bool) → p x ≡ b → q x ≡ c → (count_by p (x ∷ xs) ≡ cond b 1 0 + count_by p xs) × (count_by q (x ∷ xs) ≡ cond c 1 0 + count_by q xs)
    with b c ep eq = (count_cons p x xs ∙ ap (λ b. cond b 1 0 + count_by p xs) ep, count_cons q x xs ∙ ap (λ b. cond b 1 0 + count_by q xs) eq)

    both : (q x ≡ true → p x ≡ true) → ((k d : ℕ) → k < length xs → q (get_or xs k d) ≡ true → p (get_or xs k d) ≡ true)
        → (k d : ℕ) → k < length (x ∷ xs) → q (get_or (x ∷ xs) k d) ≡ true → p (get_or (x ∷ xs) k d) ≡ true
    both here there zero d within passes = here passes
    both here there (suc k) d within passes = there k d (omega arith) passes

    go : (b c : Bool) → p x ≡ b → q x ≡ c → HasMore p q xs → HasMore p q (x ∷ xs)
    go true false ep eq more = absurd (let e : q x ≡ true = weaker x ep in cc)
    go false true ep eq (inl more) = let s = with false true ep eq in inl (omega (arith, s.0, s.1))
    go false true ep eq (inr (le, same)) = let s = with false true ep eq in inl (omega (arith, s.0, s.1))
    go true true ep eq (inl more) = let s = with true true ep eq in inl (omega (arith, s.0, s.1))
    go true true ep eq (inr (le, same)) = let s = with true true ep eq in inr (omega (arith, s.0, s.1), both (λ _. ep) same)
    go false false ep eq (inl more) = let s = with false false ep eq in inl (omega (arith, s.0, s.1))
    go false false ep eq (inr (le, same)) =
        let s = with false false ep eq in inr (omega (arith, s.0, s.1), both (λ (e : q x ≡ true). absurd (cc)) same)

-- ---- one edge more

path_on : (g : List (List ℕ)) (n m : ℕ) (path : List ℕ) → IsPath g n path → Contains (led_to g (last_of n path)) m
    → IsPath g n (path ++ m ∷ []) × (last_of n (path ++ m ∷ []) ≡ m)
path_on g n m [] is edge = ((edge, tt), refl)
path_on g n m (k ∷ path) is edge = let more = path_on g k m path is.1 edge in ((is.0, more.0), more.1)

reached_by : (g : List (List ℕ)) (m n : ℕ) → IsReached g m → Contains (led_to g m) n → IsReached g n
reached_by g m n (path, is, ends) edge =
    let on = path_on g 0 n path is (subst (λ i. Contains (led_to g i) n) (sym ends) edge) in
    (path ++ n ∷ [], on.0, on.1)

found : (n : ℕ) (xs : List ℕ) → list_any (nat_eq n) xs ≡ true → Contains xs n
found n xs any =
    let it = Any-from_list_any (nat_eq n) xs any in
    let same : n ≡ it.1 = eqb-true n it.1 it.4 in
    subst (Contains xs) (sym same) (it.0, it.2, it.3)

finds : (n : ℕ) (xs : List ℕ) → Contains xs n → list_any (nat_eq n) xs ≡ true
finds n xs has = list_any-from_Any (nat_eq n) xs (has.0, n, has.1, has.2, eq-eqb n n refl)

-- what leads somewhere is a node
leads_is_node : (g : List (List ℕ)) (m n : ℕ) → Contains (led_to g m) n → m < length g
leads_is_node [] m n has = absurd (omega (arith, has.1))
leads_is_node (ms ∷ g) zero n has = omega arith
leads_is_node (ms ∷ g) (suc m) n has = omega (arith, leads_is_node g m n has)

module _ (g : List (List ℕ)) where
  abbrev ComesFrom : ℕ → ℕ → Type 0
  ComesFrom k n = (m : ℕ) × (is_near g k m ≡ true) × Contains (led_to g m) n

  come_from : (k n : ℕ) → is_near g (suc k) n ≡ true → (is_near g k n ≡ true) ⊎ ComesFrom k n
  come_from k n near =
      ⊎_elim inl
      (λ any.
      let it = Any-from_list_any (λ m. is_near g k m && list_any (nat_eq n) (led_to g m)) (nodes_of g) any in
      let parts = and_parts (is_near g k it.1) (list_any (nat_eq n) (led_to g it.1)) it.4 in
      inr (it.1, parts.0, found n (led_to g it.1) parts.1))
      (or_cases (is_near g k n) (list_any (λ m. is_near g k m && list_any (nat_eq n) (led_to g m)) (nodes_of g)) near)

  farther : (k n : ℕ) → is_near g k n ≡ true → is_near g (suc k) n ≡ true
  farther k n near = or_left (is_near g k n) _ near

  node_at : (m d : ℕ) → m < length g → get_or (nodes_of g) m d ≡ m
  node_at m d within = omega (arith, get_or-range_with_len 0 (length g) m d within)

  further : (k n : ℕ) → ComesFrom k n → is_near g (suc k) n ≡ true
  further k n (m, near, edge) =
      let within : m < length g = leads_is_node g m n edge in
      or_right (is_near g k n) _
      (list_any-from_Any (λ m. is_near g k m && list_any (nat_eq n) (led_to g m)) (nodes_of g)
      (m, m, omega (arith, length-range_with_len 0 (length g), within), node_at m m within, and_from _ _ near (finds n (led_to g m) edge)))

  near_is_reached : (k n : ℕ) → is_near g k n ≡ true → IsReached g n
  near_is_reached zero n near = ([], tt, sym (eqb-true n 0 near))
  near_is_reached (suc k) n near =
      ⊎_elim (near_is_reached k n) (λ (from : ComesFrom k n). reached_by g from.0 n (near_is_reached k from.0 from.1) from.2) (come_from k n near)

  -- ---- the number of edges at which no node comes any more

  abbrev IsStable : ℕ → Type 0
  IsStable k = (m : ℕ) → m < length g → is_near g (suc k) m ≡ true → is_near g k m ≡ true

  stays_stable : (k : ℕ) → IsStable k → IsStable (suc k)
  stays_stable k stable m within near =
      ⊎_elim (λ h. h)
      (λ (from : ComesFrom (suc k) m). further k m (from.0, stable from.0 (leads_is_node g from.0 m from.2) from.1, from.2))
      (come_from (suc k) m near)

  abbrev many : ℕ → ℕ
  many k = count_by (is_near g k) (nodes_of g)

  more_or_stable : (k : ℕ) → (many k < many (suc k)) ⊎ IsStable k
  more_or_stable k =
      ⊎_elim inl
      (λ same. inr (λ m within near.
      subst (λ i. is_near g k i ≡ true) (node_at m 0 within)
      (same.1 m 0 (omega (arith, length-range_with_len 0 (length g), within)) (subst (λ i. is_near g (suc k) i ≡ true) (sym (node_at m 0 within)) near))))
      (same_or_more (is_near g k) (is_near g (suc k)) (farther k) (nodes_of g))

  grows_or_stable : 0 < many 0 → (k : ℕ) → (suc k < many (suc k)) ⊎ IsStable k
  grows_or_stable some zero = ⊎_elim (λ more. inl (omega arith)) inr (more_or_stable 0)
  grows_or_stable some (suc k) =
      ⊎_elim (λ (h : suc k < many (suc k)). ⊎_elim (λ more. inl (omega arith)) inr (more_or_stable (suc k)))
      (λ stable. inr (stays_stable k stable))
      (grows_or_stable some k)

  near_from_first : (k : ℕ) → is_near g k 0 ≡ true
  near_from_first zero = refl
  near_from_first (suc k) = farther k 0 (near_from_first k)

  comes_on : (k n : ℕ) (path : List ℕ) → IsStable k → is_near g (suc k) n ≡ true → IsPath g n path → is_near g (suc k) (last_of n path) ≡ true
  comes_on k n [] stable near is = near
  comes_on k n (m ∷ path) stable near is =
      comes_on k m path stable (further k m (n, stable n (leads_is_node g n m is.0) near, is.0)) is.1

reached_is_near : (g : List (List ℕ)) (n : ℕ) → IsReached g n → is_reached g n ≡ true
reached_is_near [] n ([], is, ends) = eq-eqb n 0 (sym ends)
reached_is_near [] n (m ∷ path, is, ends) = absurd (omega (arith, is.0.1))
reached_is_near (ms ∷ g) n (path, is, ends) =
    let k : ℕ = length g in
    let some : 0 < count_by (is_near (ms ∷ g) 0) (nodes_of (ms ∷ g)) = omega (arith, count_cons (is_near (ms ∷ g) 0) 0 (range_with_len 1 k)) in
    let fewer = count_by-le-length (is_near (ms ∷ g) (suc k)) (nodes_of (ms ∷ g)) in
    let stable : IsStable (ms ∷ g) k = ⊎_elim (λ more. absurd (omega (arith, fewer, length-range_with_len 0 (suc k)))) (λ h. h) (grows_or_stable (ms ∷ g) some k) in
    subst (λ m. is_near (ms ∷ g) (suc k) m ≡ true) ends (comes_on (ms ∷ g) k 0 path stable (near_from_first (ms ∷ g) (suc k)) is)

pub tested : (g : List (List ℕ)) (n : ℕ) → (is_reached g n ≡ true) ↔ IsReached g n
tested g n = (near_is_reached g (length g) n, reached_is_near g n)

pub marked : (g : List (List ℕ)) (marks : List Bool) → length marks ≡ length g
    → ((n : ℕ) → n < length g → IsTrue (slice_index_or marks n false) ↔ IsReached g n) → marks ≡ reached_nodes g
marked g marks many are =
    fill_by_all (is_reached g) marks (length g) false many
    (λ n within. same_from_decides (get_or marks n false) (is_reached g n) (are n within) (tested g n))
