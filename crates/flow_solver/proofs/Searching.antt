-- A search goes on, and ends with the first way to each node that any way leads to.
use Rattle.std.proofs.Common.{◌≡◌, ◌∙◌, ◌⊎◌, ⊎_elim, inl, inr, ℕ, ◌+◌, ◌<◌, Bool, List, [], ◌∷◌, ◌++◌, length, set, Option, None, Some, refl, sym, ap, subst, arith}
use Rattle.std.proofs.lemmas.List.{get_or_append_left, get_or_push, get_or-set_other, get_or-set_same, length_push, length-set}
use Rattle.std.proofs.lemmas.Bool.{cases_lt}
use Rattle.std.proofs.lemmas.List.Sums.{sum_by-set}
use Rattle.std.specs.List.{sum_by}
use Rattle.std.specs.Prelude.{slice_index}
use Rattle.flow_solver.specs.declared.search.Step.{Step}
use Rattle.flow_solver.specs.Ways.{IsBefore, IsOpen, Leads, LeadsWithin, led_to}
use Rattle.flow_solver.specs.Searched.{CameBy, Comes, ComesBy, HasSearched, IsDone, IsNotBehind, IsSooner, free_at, node_at, place_of, step_at, way_at}
use Rattle.flow_solver.proofs.Edges.{led_within}
use Rattle.flow_solver.proofs.Order.{before_further, before_last, none_before}

-- ---- ways

leads_on : (g : List (List ℕ)) (closed : List Bool) (n m : ℕ) (ts : List ℕ) (t : ℕ) → Leads g closed n ts m → IsOpen closed m → t < length (led_to g m)
    → Leads g closed n (ts ++ t ∷ []) (slice_index (led_to g m) t)
leads_on g closed n m [] t same passes within =
    (subst (IsOpen closed) (sym same) passes, subst (λ x. t < length (led_to g x)) (sym same) within, ap (λ x. slice_index (led_to g x) t) same)
leads_on g closed n m (k ∷ ts) t leads passes within = (leads.0, leads.1, leads_on g closed _ m ts t leads.2 passes within)

pub same_or : (m n : ℕ) → (m ≡ n) ⊎ (m ≡ n → ⊥)
same_or m n = ⊎_elim (λ less. inr (λ e. absurd (omega arith))) (λ ge. ⊎_elim (λ less. inr (λ e. absurd (omega arith))) (λ le. inl (omega arith)) (cases_lt n m)) (cases_lt m n)

sooner_more : (j t at turn : ℕ) → IsSooner j t at turn → IsSooner j t at (turn + 1)
sooner_more j t at turn (inl h) = inl h
sooner_more j t at turn (inr h) = inr (h.0, omega (arith, h.1))

pub sooner_next : (j t at turn : ℕ) → IsSooner j t at turn → IsSooner j t (at + 1) 0
sooner_next j t at turn (inl h) = inl (omega arith)
sooner_next j t at turn (inr h) = inl (omega (arith, h.0))

pub came_weaker : (ways : List (List ℕ)) (from j a b c d : ℕ) → ((t : ℕ) → IsSooner from t a b → IsSooner from t c d)
    → (j ≡ 0) ⊎ CameBy ways from j a b → (j ≡ 0) ⊎ CameBy ways from j c d
came_weaker ways from j a b c d weaker (inl h) = inl h
came_weaker ways from j a b c d weaker (inr h) = inr (h.0, weaker h.0 h.1, h.2, h.3)

module _ (g : List (List ℕ)) (closed : List Bool) (steps : List Step) (places : List (Option ℕ)) (at turn : ℕ) (h : HasSearched g closed steps places at turn) where
  -- the next way is behind those of all steps
  by_way : (j : ℕ) → j < length steps → at < length steps → (j ≡ 0) ⊎ CameBy h.ways (step_at steps j).from j at turn
      → IsBefore (way_at h.ways j) (way_at h.ways at ++ turn ∷ [])
  by_way j within here (inl first) =
      subst (λ ts. IsBefore ts (way_at h.ways at ++ turn ∷ [])) (sym (ap (way_at h.ways) first ∙ h.still)) (none_before (way_at h.ways at) turn)
  by_way j within here (inr (t, sooner, less, is)) =
      subst (λ ts. IsBefore ts (way_at h.ways at ++ turn ∷ [])) (sym is) (before t sooner)
    where
      before : (t : ℕ) → IsSooner (step_at steps j).from t at turn → IsBefore (way_at h.ways (step_at steps j).from ++ t ∷ []) (way_at h.ways at ++ turn ∷ [])
      before t (inl less) = before_further _ _ t turn (h.ordered (step_at steps j).from at less here)
      before t (inr (same, less)) =
          subst (λ i. IsBefore (way_at h.ways i ++ t ∷ []) (way_at h.ways at ++ turn ∷ [])) (sym same) (before_last (way_at h.ways at) t turn less)

  pub next_is_behind : (j : ℕ) → j < length steps → at < length steps → IsBefore (way_at h.ways j) (way_at h.ways at ++ turn ∷ [])
  next_is_behind j within here = by_way j within here (h.came j within)

  -- where the turn leads to a node that has a place
  pub next_known : (i : ℕ) → at < length steps → place_of places (slice_index (led_to g (node_at steps at)) turn) ≡ Some i → HasSearched g closed steps places at (turn + 1)
  next_known i here is = record {
    ways = h.ways;
    many = h.many;
    nodes = h.nodes;
    free = h.free;
    some = h.some;
    root = h.root;
    still = h.still;
    placed = h.placed;
    known = h.known;
    leads = h.leads;
    came = λ j within. came_weaker h.ways _ j at turn at (turn + 1) (λ t. sooner_more _ t at turn) (h.came j within);
    ordered = h.ordered;
    done = λ j t within sooner passes turns. go j t within sooner passes turns;
  }
    where
      this : (j t : ℕ) → j ≡ at → t ≡ turn → IsDone g h.ways places (node_at steps j) j t
      this j t same last =
          subst (λ k. IsDone g h.ways places (node_at steps k) k t) (sym same)
          (subst (λ k. IsDone g h.ways places (node_at steps at) at k) (sym last)
          (i, is, inr (next_is_behind i (h.known _ i is).0 here)))

      go : (j t : ℕ) → j < length steps → IsSooner j t at (turn + 1) → IsOpen closed (node_at steps j) → t < length (led_to g (node_at steps j))
          → IsDone g h.ways places (node_at steps j) j t
      go j t within (inl less) passes turns = h.done j t within (inl less) passes turns
      go j t within (inr (same, less)) passes turns =
          ⊎_elim (λ l. h.done j t within (inr (same, l)) passes turns) (λ ge. this j t same (omega arith)) (cases_lt t turn)

  -- where it leads to one that has none
  module _ (here : at < length steps) (passes : IsOpen closed (node_at steps at)) (turns : turn < length (led_to g (node_at steps at)))
      (inside : slice_index (led_to g (node_at steps at)) turn < length g)
      (new : place_of places (slice_index (led_to g (node_at steps at)) turn) ≡ None) where
    abbrev came_to : ℕ
    came_to = slice_index (led_to g (node_at steps at)) turn

    abbrev last_step : Step
    last_step = record { node = came_to; from = at }

    abbrev last_way : List ℕ
    last_way = way_at h.ways at ++ turn ∷ []

    abbrev steps_after : List Step
    steps_after = steps ++ last_step ∷ []

    abbrev places_after : List (Option ℕ)
    places_after = set places came_to (Some (length steps))

    abbrev ways_after : List (List ℕ)
    ways_after = h.ways ++ last_way ∷ []

    step_old : (j : ℕ) → j < length steps → step_at steps_after j ≡ step_at steps j
    step_old j within = get_or_append_left steps (last_step ∷ []) _ j within

    step_new : (j : ℕ) → j ≡ length steps → step_at steps_after j ≡ last_step
    step_new j same = get_or_push steps last_step _ j (sym same)

    way_old : (j : ℕ) → j < length steps → way_at ways_after j ≡ way_at h.ways j
    way_old j within = get_or_append_left h.ways (last_way ∷ []) _ j (omega (arith, h.many))

    way_new : (j : ℕ) → j ≡ length steps → way_at ways_after j ≡ last_way
    way_new j same = get_or_push h.ways last_way _ j (h.many ∙ sym same)

    place_old : (m j : ℕ) → place_of places m ≡ Some j → place_of places_after m ≡ Some j
    place_old m j is = get_or-set_other places came_to m (Some (length steps)) None (λ same. let e : place_of places m ≡ None = ap (place_of places) same ∙ new in absurd (cc)) ∙ is

    place_new : place_of places_after came_to ≡ Some (length steps)
    place_new = get_or-set_same places came_to (Some (length steps)) None (omega (arith, h.nodes))

    last_or : (j : ℕ) → j < length steps_after → (j < length steps) ⊎ (j ≡ length steps)
    last_or j within = ⊎_elim (λ l. inl l) (λ ge. inr (omega (arith, length_push steps last_step))) (cases_lt j (length steps))

    leads_new : Leads g closed 0 last_way came_to
    leads_new = leads_on g closed 0 (node_at steps at) (way_at h.ways at) turn (h.leads at here) passes turns

    came_old : (j : ℕ) → j < length steps → (j ≡ 0) ⊎ CameBy h.ways (step_at steps j).from j at turn → (j ≡ 0) ⊎ CameBy ways_after (step_at steps_after j).from j at (turn + 1)
    came_old j within (inl first) = inl first
    came_old j within (inr (t, sooner, less, is)) =
        inr (subst (λ (s : Step). CameBy ways_after s.from j at (turn + 1)) (sym (step_old j within))
        (t, sooner_more _ t at turn sooner, less, way_old j within ∙ is ∙ ap (λ ts. ts ++ t ∷ []) (sym (way_old (step_at steps j).from (omega arith)))))

    came_new : (j : ℕ) → j ≡ length steps → (j ≡ 0) ⊎ CameBy ways_after (step_at steps_after j).from j at (turn + 1)
    came_new j same =
        inr (subst (λ (s : Step). CameBy ways_after s.from j at (turn + 1)) (sym (step_new j same))
        (turn, inr (refl, omega arith), omega arith, way_new j same ∙ ap (λ ts. ts ++ turn ∷ []) (sym (way_old at here))))

    done_old : (j t : ℕ) → j < length steps → IsDone g h.ways places (node_at steps j) j t → IsDone g ways_after places_after (node_at steps_after j) j t
    done_old j t within (i, is, behind) =
        subst (λ (s : Step). IsDone g ways_after places_after s.node j t) (sym (step_old j within)) (
          i,
          place_old _ i is,
          subst (λ ts. IsNotBehind ts (way_at ways_after j ++ t ∷ [])) (sym (way_old i (h.known _ i is).0))
              (subst (λ ts. IsNotBehind (way_at h.ways i) (ts ++ t ∷ [])) (sym (way_old j within)) behind),
        )

    done_new : (j t : ℕ) → j ≡ at → t ≡ turn → IsDone g ways_after places_after (node_at steps_after j) j t
    done_new j t same last =
        subst (λ k. IsDone g ways_after places_after (node_at steps_after k) k t) (sym same)
        (subst (λ k. IsDone g ways_after places_after (node_at steps_after at) at k) (sym last)
        (subst (λ (s : Step). IsDone g ways_after places_after s.node at turn) (sym (step_old at here))
        (length steps, place_new, inl (way_new (length steps) refl ∙ ap (λ ts. ts ++ turn ∷ []) (sym (way_old at here))))))

    pub next_new : HasSearched g closed steps_after places_after at (turn + 1)
    next_new = record {
      ways = ways_after;
      many = length_push h.ways last_way ∙ ap (λ n. n + 1) h.many ∙ sym (length_push steps last_step);
      nodes = length-set places came_to (Some (length steps)) ∙ h.nodes;
      free = fewer;
      some = omega (arith, length_push steps last_step, h.some);
      root = ap (λ (s : Step). s.node) (step_old 0 h.some) ∙ h.root;
      still = way_old 0 h.some ∙ h.still;
      placed = λ j within. ⊎_elim (placed_old j) (placed_new j) (last_or j within);
      known = λ m j is. known_after m j is;
      leads = λ j within. ⊎_elim (leads_old j) (leads_last j) (last_or j within);
      came = λ j within. ⊎_elim (λ l. came_old j l (h.came j l)) (came_new j) (last_or j within);
      ordered = λ i j less within. ⊎_elim (ordered_old i j less) (ordered_new i j less) (last_or j within);
      done = λ j t within sooner passes turns. done_after j t within sooner passes turns;
    }
      where
        fewer : sum_by free_at places_after + length steps_after ≡ length g
        fewer =
            let change = sum_by-set free_at places came_to (Some (length steps)) None (omega (arith, h.nodes)) in
            let was : free_at (place_of places came_to) ≡ 1 = ap free_at new in
            omega (arith, change, was, h.free, length_push steps last_step)

        placed_old : (j : ℕ) → j < length steps → (node_at steps_after j < length g) × (place_of places_after (node_at steps_after j) ≡ Some j)
        placed_old j within =
            subst (λ (s : Step). (s.node < length g) × (place_of places_after s.node ≡ Some j)) (sym (step_old j within))
            ((h.placed j within).0, place_old _ j (h.placed j within).1)

        placed_new : (j : ℕ) → j ≡ length steps → (node_at steps_after j < length g) × (place_of places_after (node_at steps_after j) ≡ Some j)
        placed_new j same =
            subst (λ (s : Step). (s.node < length g) × (place_of places_after s.node ≡ Some j)) (sym (step_new j same))
            (inside, place_new ∙ ap (λ k. Some k) (sym same))

        known_after : (m j : ℕ) → place_of places_after m ≡ Some j → (j < length steps_after) × (node_at steps_after j ≡ m)
        known_after m j is = ⊎_elim (λ same. by_same same) (λ other. by_other other) (same_or m came_to)
          where
            by_same : m ≡ came_to → (j < length steps_after) × (node_at steps_after j ≡ m)
            by_same same =
                let e : Some (length steps) ≡ Some j = sym place_new ∙ sym (ap (place_of places_after) same) ∙ is in
                let f : j ≡ length steps = cc in
                (omega (arith, length_push steps last_step), ap (λ (s : Step). s.node) (step_new j f) ∙ sym same)

            by_other : (m ≡ came_to → ⊥) → (j < length steps_after) × (node_at steps_after j ≡ m)
            by_other other =
                let old = h.known m j (sym (get_or-set_other places came_to m (Some (length steps)) None other) ∙ is) in
                (omega (arith, length_push steps last_step, old.0), ap (λ (s : Step). s.node) (step_old j old.0) ∙ old.1)

        leads_old : (j : ℕ) → j < length steps → Leads g closed 0 (way_at ways_after j) (node_at steps_after j)
        leads_old j within =
            subst (λ ts. Leads g closed 0 ts (node_at steps_after j)) (sym (way_old j within))
            (subst (λ (s : Step). Leads g closed 0 (way_at h.ways j) s.node) (sym (step_old j within)) (h.leads j within))

        leads_last : (j : ℕ) → j ≡ length steps → Leads g closed 0 (way_at ways_after j) (node_at steps_after j)
        leads_last j same =
            subst (λ ts. Leads g closed 0 ts (node_at steps_after j)) (sym (way_new j same))
            (subst (λ (s : Step). Leads g closed 0 last_way s.node) (sym (step_new j same)) leads_new)

        ordered_old : (i j : ℕ) → i < j → j < length steps → IsBefore (way_at ways_after i) (way_at ways_after j)
        ordered_old i j less within =
            subst (λ ts. IsBefore ts (way_at ways_after j)) (sym (way_old i (omega arith)))
            (subst (IsBefore (way_at h.ways i)) (sym (way_old j within)) (h.ordered i j less within))

        ordered_new : (i j : ℕ) → i < j → j ≡ length steps → IsBefore (way_at ways_after i) (way_at ways_after j)
        ordered_new i j less same =
            subst (λ ts. IsBefore ts (way_at ways_after j)) (sym (way_old i (omega arith)))
            (subst (IsBefore (way_at h.ways i)) (sym (way_new j same)) (next_is_behind i (omega arith) here))

        done_after : (j t : ℕ) → j < length steps_after → IsSooner j t at (turn + 1) → IsOpen closed (node_at steps_after j)
            → t < length (led_to g (node_at steps_after j)) → IsDone g ways_after places_after (node_at steps_after j) j t
        done_after j t within (inl less) passes turns = done_before j t (omega arith) (inl less) passes turns
          where
            done_before : (j t : ℕ) → j < length steps → IsSooner j t at turn → IsOpen closed (node_at steps_after j)
                → t < length (led_to g (node_at steps_after j)) → IsDone g ways_after places_after (node_at steps_after j) j t
            done_before j t within sooner passes turns =
                done_old j t within (h.done j t within sooner
                (subst (λ (s : Step). IsOpen closed s.node) (step_old j within) passes)
                (subst (λ (s : Step). t < length (led_to g s.node)) (step_old j within) turns))
        done_after j t within (inr (same, less)) passes turns =
            ⊎_elim
            (λ l. done_old j t (omega arith) (h.done j t (omega arith) (inr (same, l))
            (subst (λ (s : Step). IsOpen closed s.node) (step_old j (omega arith)) passes)
            (subst (λ (s : Step). t < length (led_to g s.node)) (step_old j (omega arith)) turns)))
            (λ ge. done_new j t same (omega arith)) (cases_lt t turn)

-- ---- what the code does

module _ (g : List (List ℕ)) (closed : List Bool) (steps : List Step) (places : List (Option ℕ)) (at turn : ℕ) where
  abbrev Goes : List Step → List (Option ℕ) → Type 0
  Goes steps_after places_after =
      HasSearched g closed steps_after places_after at (turn + 1) × (node_at steps_after at ≡ node_at steps at) × (at < length steps_after)

  pub next_by : HasSearched g closed steps places at turn → LeadsWithin g → at < length steps → IsOpen closed (node_at steps at)
      → turn < length (led_to g (node_at steps at)) → (steps_after : List Step) (places_after : List (Option ℕ))
      → Comes steps places (slice_index (led_to g (node_at steps at)) turn) at steps_after places_after → Goes steps_after places_after
  next_by h within here passes turns steps_after places_after comes = go (place_of places (slice_index (led_to g (node_at steps at)) turn)) refl comes
    where
      inside : slice_index (led_to g (node_at steps at)) turn < length g
      inside = led_within g within (node_at steps at) turn (h.placed at here).0 turns

      go : (place : Option ℕ) → place_of places (slice_index (led_to g (node_at steps at)) turn) ≡ place
          → ComesBy place steps places (slice_index (led_to g (node_at steps at)) turn) at steps_after places_after → Goes steps_after places_after
      go (Some i) is same =
          subst (λ (xs : List Step). Goes xs places_after) (sym same.0)
          (subst (λ (ys : List (Option ℕ)). Goes steps ys) (sym same.1) (next_known g closed steps places at turn h i here is, refl, here))
      go None is more =
          subst (λ (xs : List Step). Goes xs places_after) (sym more.0)
          (subst (λ (ys : List (Option ℕ)). Goes (steps ++ record { node = slice_index (led_to g (node_at steps at)) turn; from = at } ∷ []) ys) (sym more.1) (
            next_new g closed steps places at turn h here passes turns inside is,
            ap (λ (s : Step). s.node) (get_or_append_left steps (record { node = slice_index (led_to g (node_at steps at)) turn; from = at } ∷ []) _ at here),
            omega (arith, length_push steps (record { node = slice_index (led_to g (node_at steps at)) turn; from = at })),
          ))
