-- To a node no way leads, or one of the ways is the first.
use Rattle.std.proofs.Common.{◌≡◌, ◌∙◌, ◌⊎◌, ⊎_elim, inl, inr, ℕ, suc, zero, ◌+◌, ◌<◌, ◌≤◌, Bool, true, false, cond, List, [], ◌∷◌, length, get_or, refl, sym, ap, subst, arith}
use Rattle.std.proofs.lemmas.Bool.{cases_eq, cases_lt}
use Rattle.std.proofs.lemmas.List.{get_or_default}
use Rattle.std.specs.List.{Contains}
use Rattle.flow_solver.specs.Near.{is_reached}
use Rattle.flow_solver.specs.Ways.{IsFirstWay, IsOpen, IsPath, IsReached, Leads, TurnsEarlier, last_of, led_to}
use Rattle.flow_solver.proofs.Near.{tested}
use Rattle.renaming_laws.specs.Ways.{NoneLeads, WaysHaveAFirst}

-- ---- the graph in which nothing leaves a closed node

abbrev leaves : Bool → List ℕ → List ℕ
leaves c ns = cond c [] ns

abbrev opened : List (List ℕ) → List Bool → List (List ℕ)
opened [] closed = []
opened (ns ∷ g) [] = ns ∷ g
opened (ns ∷ g) (c ∷ closed) = leaves c ns ∷ opened g closed

nothing_leaves : (c : Bool) → leaves c [] ≡ []
nothing_leaves true = refl
nothing_leaves false = refl

led_opened : (g : List (List ℕ)) (closed : List Bool) (n : ℕ) → led_to (opened g closed) n ≡ leaves (get_or closed n false) (led_to g n)
led_opened [] closed n = sym (nothing_leaves (get_or closed n false))
led_opened (ns ∷ g) [] n = refl
led_opened (ns ∷ g) (c ∷ closed) zero = refl
led_opened (ns ∷ g) (c ∷ closed) (suc n) = led_opened g closed n

module _ (g : List (List ℕ)) (closed : List Bool) where
  abbrev next : ℕ → ℕ → ℕ
  next n t = get_or (led_to g n) t 0

  open_or_closed : (n : ℕ) → IsOpen closed n ⊎ (get_or closed n false ≡ true)
  open_or_closed n = go (get_or closed n false) refl
    where
      go : (b : Bool) → get_or closed n false ≡ b → IsOpen closed n ⊎ (get_or closed n false ≡ true)
      go true e = inr e
      go false e = inl e

  led_open : (n : ℕ) → IsOpen closed n → led_to (opened g closed) n ≡ led_to g n
  led_open n is_open = led_opened g closed n ∙ ap (λ b. leaves b (led_to g n)) is_open

  led_closed : (n : ℕ) → get_or closed n false ≡ true → led_to (opened g closed) n ≡ []
  led_closed n is_closed = led_opened g closed n ∙ ap (λ b. leaves b (led_to g n)) is_closed

  way_of : (n : ℕ) (path : List ℕ) → IsPath (opened g closed) n path → (turns : List ℕ) × Leads g closed n turns (last_of n path)
  way_of n [] is = ([], refl)
  way_of n (m ∷ path) is = go (way_of m path is.1) (open_or_closed n)
    where
      go : (turns : List ℕ) × Leads g closed m turns (last_of m path) → IsOpen closed n ⊎ (get_or closed n false ≡ true) → (turns : List ℕ) × Leads g closed n turns (last_of m path)
      go more (inl is_open) =
          let there : Contains (led_to g n) m = subst (λ ms. Contains ms m) (led_open n is_open) is.0 in
          let same : next n there.0 ≡ m = get_or_default (led_to g n) there.0 0 m there.1 ∙ there.2 in
          (there.0 ∷ more.0, (is_open, there.1, subst (λ k. Leads g closed k more.0 (last_of m path)) (sym same) more.1))
      go more (inr is_closed) = let there : Contains [] m = subst (λ ms. Contains ms m) (led_closed n is_closed) is.0 in absurd (omega (arith, there.1))

  path_of : (n : ℕ) (turns : List ℕ) (m : ℕ) → Leads g closed n turns m → (path : List ℕ) × IsPath (opened g closed) n path × (last_of n path ≡ m)
  path_of n [] m is = ([], tt, is)
  path_of n (t ∷ turns) m is =
      let more = path_of (next n t) turns m is.2 in
      let there : Contains (led_to g n) (next n t) = (t, is.1, get_or_default (led_to g n) t (next n t) 0 is.1) in
      (next n t ∷ more.0, (subst (λ ms. Contains ms (next n t)) (sym (led_open n is.0)) there, more.1), more.2)

  -- ---- ways of one length

  abbrev AreAsLong : ℕ → ℕ → ℕ → List ℕ → Type 0
  AreAsLong k n m turns = Leads g closed n turns m × (length turns ≡ k)

  abbrev IsFirstOf : ℕ → ℕ → ℕ → List ℕ → Type 0
  IsFirstOf k n m turns = AreAsLong k n m turns × ((others : List ℕ) → AreAsLong k n m others → (turns ≡ others) ⊎ TurnsEarlier turns others)

  abbrev HasFirstOf : ℕ → ℕ → ℕ → Type 0
  HasFirstOf k n m = (turns : List ℕ) × IsFirstOf k n m turns

  abbrev HasNoneOf : ℕ → ℕ → ℕ → Type 0
  HasNoneOf k n m = (others : List ℕ) → AreAsLong k n m others → ⊥

  module _ (k n m : ℕ) where
    -- the same of the ways that begin with this turn or a later one
    abbrev TurnsOnce : ℕ → List ℕ → Type 0
    TurnsOnce t turns = (t < length (led_to g n)) × AreAsLong k (next n t) m turns

    abbrev IsFirstFrom : ℕ → ℕ → List ℕ → Type 0
    IsFirstFrom from t turns =
        (from ≤ t) × TurnsOnce t turns
        × ((u : ℕ) (others : List ℕ) → from ≤ u → TurnsOnce u others → (t ∷ turns ≡ u ∷ others) ⊎ TurnsEarlier (t ∷ turns) (u ∷ others))

    abbrev HasFirstFrom : ℕ → Type 0
    HasFirstFrom from = (t : ℕ) × (turns : List ℕ) × IsFirstFrom from t turns

    abbrev HasNoneFrom : ℕ → Type 0
    HasNoneFrom from = (u : ℕ) (others : List ℕ) → from ≤ u → TurnsOnce u others → ⊥

    -- those that begin with it come first
    here_first : (t : ℕ) (turns : List ℕ) → t < length (led_to g n) → IsFirstOf k (next n t) m turns → IsFirstFrom t t turns
    here_first t turns within first = (omega arith, (within, first.0), against)
      where
        against : (u : ℕ) (others : List ℕ) → t ≤ u → TurnsOnce u others → (t ∷ turns ≡ u ∷ others) ⊎ TurnsEarlier (t ∷ turns) (u ∷ others)
        against u others le is =
            ⊎_elim (λ (less : t < u). inr (inl less))
            (λ (not_less : u ≤ t).
            let same : t ≡ u = omega arith in
            ⊎_elim (λ (e : turns ≡ others). inl (ap (λ ts. t ∷ ts) e ∙ ap (λ v. v ∷ others) same))
            (λ earlier. inr (inr (same, earlier)))
            (first.1 others (subst (λ v. AreAsLong k (next n v) m others) (sym same) is.1)))
            (cases_lt t u)

    none_here : (from : ℕ) → HasNoneOf k (next n from) m → (u : ℕ) (others : List ℕ) → from ≤ u → TurnsOnce u others → suc from ≤ u
    none_here from none u others le is =
        ⊎_elim (λ (less : from < u). omega arith)
        (λ (not_less : u ≤ from).
        let same : u ≡ from = omega arith in
        absurd (none others (subst (λ v. AreAsLong k (next n v) m others) same is.1)))
        (cases_lt from u)

    one_later : (from : ℕ) → HasNoneOf k (next n from) m → HasFirstFrom (suc from) → HasFirstFrom from
    one_later from none (t, turns, (le, is, first)) =
        (t, turns, (omega arith, is, λ u others from_le once. first u others (none_here from none u others from_le once) once))

    from_turn : ((x : ℕ) → HasFirstOf k x m ⊎ HasNoneOf k x m) → (many from : ℕ) → from + many ≡ length (led_to g n) → HasFirstFrom from ⊎ HasNoneFrom from
    from_turn each zero from e = inr (λ u others le is. absurd (omega (arith, is.0)))
    from_turn each (suc many) from e =
        ⊎_elim (λ (first : HasFirstOf k (next n from) m). inl (from, first.0, here_first from first.0 (omega arith) first.1))
        (λ (none : HasNoneOf k (next n from) m).
        ⊎_elim (λ (later : HasFirstFrom (suc from)). inl (one_later from none later))
        (λ (none_later : HasNoneFrom (suc from)). inr (λ u others le is. none_later u others (none_here from none u others le is) is))
        (from_turn each many (suc from) (omega arith)))
        (each (next n from))

    first_is : IsOpen closed n → HasFirstFrom 0 → HasFirstOf (suc k) n m
    first_is is_open (t, turns, (le, is, first)) = (t ∷ turns, (((is_open, is.0, is.1.0), omega (arith, is.1.1)), against))
      where
        against : (others : List ℕ) → AreAsLong (suc k) n m others → (t ∷ turns ≡ others) ⊎ TurnsEarlier (t ∷ turns) others
        against [] as_long = absurd (omega (arith, as_long.1))
        against (u ∷ others) as_long = first u others (omega arith) (as_long.0.1, (as_long.0.2, omega (arith, as_long.1)))

    none_is : HasNoneFrom 0 → HasNoneOf (suc k) n m
    none_is none [] as_long = absurd (omega (arith, as_long.1))
    none_is none (u ∷ others) as_long = none u others (omega arith) (as_long.0.1, (as_long.0.2, omega (arith, as_long.1)))

  of_length : (k n m : ℕ) → HasFirstOf k n m ⊎ HasNoneOf k n m
  of_length zero n m =
      ⊎_elim (λ (same : n ≡ m). inl ([], ((same, refl), none_shorter)))
      (λ (apart : n ≡ m → ⊥). inr (none_there apart))
      (cases_eq n m)
    where
      none_shorter : (others : List ℕ) → AreAsLong zero n m others → ([] ≡ others) ⊎ TurnsEarlier [] others
      none_shorter [] as_long = inl refl
      none_shorter (t ∷ others) as_long = absurd (omega (arith, as_long.1))

      none_there : (n ≡ m → ⊥) → (others : List ℕ) → AreAsLong zero n m others → ⊥
      none_there apart [] as_long = apart as_long.0
      none_there apart (t ∷ others) as_long = omega (arith, as_long.1)
  of_length (suc k) n m =
      ⊎_elim (λ (is_open : IsOpen closed n).
      ⊎_elim (λ (first : HasFirstFrom k n m 0). inl (first_is k n m is_open first))
      (λ (none : HasNoneFrom k n m 0). inr (none_is k n m none))
      (from_turn k n m (λ x. of_length k x m) (length (led_to g n)) 0 (omega arith)))
      (λ (is_closed : get_or closed n false ≡ true). inr (not_past is_closed))
      (open_or_closed n)
    where
      not_past : get_or closed n false ≡ true → (others : List ℕ) → AreAsLong (suc k) n m others → ⊥
      not_past is_closed [] as_long = omega (arith, as_long.1)
      not_past is_closed (t ∷ others) as_long = let e : false ≡ true = sym as_long.0.0 ∙ is_closed in cc

  -- ---- the shortest

  module _ (to : ℕ) where
    abbrev NoneShorter : ℕ → Type 0
    NoneShorter k = (others : List ℕ) → Leads g closed 0 others to → k ≤ length others

    first_way : (k : ℕ) → NoneShorter k → (first : HasFirstOf k 0 to) → IsFirstWay g closed to first.0
    first_way k shorter (turns, (is, first)) = record { leads = is.0; first = against }
      where
        against : (others : List ℕ) → Leads g closed 0 others to
            → (turns ≡ others) ⊎ ((length turns < length others) ⊎ ((length turns ≡ length others) × TurnsEarlier turns others))
        against others leads =
            ⊎_elim (λ (less : k < length others). inr (inl (omega (arith, is.1))))
            (λ (not_less : length others ≤ k).
            let same : length others ≡ k = omega (arith, shorter others leads) in
            ⊎_elim inl (λ earlier. inr (inr (is.1 ∙ sym same, earlier))) (first others (leads, same)))
            (cases_lt k (length others))

    -- a way of this length more than those among which there is none
    none_so_long : (k : ℕ) → NoneShorter k → HasNoneOf k 0 to → NoneShorter (suc k)
    none_so_long k shorter none others leads =
        ⊎_elim (λ (less : k < length others). omega arith)
        (λ (not_less : length others ≤ k). absurd (none others (leads, omega (arith, shorter others leads))))
        (cases_lt k (length others))

    search : (many k : ℕ) → NoneShorter k → (turns : List ℕ) → AreAsLong (k + many) 0 to turns → (firsts : List ℕ) × IsFirstWay g closed to firsts
    search zero k shorter turns is =
        ⊎_elim (λ (first : HasFirstOf k 0 to). (first.0, first_way k shorter first))
        (λ (none : HasNoneOf k 0 to). absurd (none turns (is.0, omega (arith, is.1))))
        (of_length k 0 to)
    search (suc many) k shorter turns is =
        ⊎_elim (λ (first : HasFirstOf k 0 to). (first.0, first_way k shorter first))
        (λ (none : HasNoneOf k 0 to). search many (suc k) (none_so_long k shorter none) turns (is.0, omega (arith, is.1)))
        (of_length k 0 to)

    decided : NoneLeads g closed to ⊎ ((turns : List ℕ) × IsFirstWay g closed to turns)
    decided = go (is_reached (opened g closed) to) refl
      where
        with_way : (turns : List ℕ) → Leads g closed 0 turns to → (firsts : List ℕ) × IsFirstWay g closed to firsts
        with_way turns leads = search (length turns) 0 (λ others also. omega arith) turns (leads, omega arith)

        go : (b : Bool) → is_reached (opened g closed) to ≡ b → NoneLeads g closed to ⊎ ((turns : List ℕ) × IsFirstWay g closed to turns)
        go true e =
            let reached : IsReached (opened g closed) to = (tested (opened g closed) to).0 e in
            let way = way_of 0 reached.0 reached.1 in
            inr (with_way way.0 (subst (λ m. Leads g closed 0 way.0 m) reached.2 way.1))
        go false e = inl (λ turns leads.
            let path = path_of 0 turns to leads in
            let yes = (tested (opened g closed) to).1 (path.0, path.1, path.2) in
            absurd (cc))

pub ways_have_a_first : WaysHaveAFirst
ways_have_a_first g closed to = decided g closed to
