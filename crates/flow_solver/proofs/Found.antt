-- What a search that is over has found.
use Rattle.std.proofs.Common.{◌≡◌, ◌∙◌, ◌⊎◌, ⊎_elim, inl, inr, ℕ, suc, zero, ◌+◌, ◌<◌, ◌≤◌, Bool, List, [], ◌∷◌, ◌++◌, length, set, replicate, reverse, Option, None, Some, refl, sym, ap, subst, arith, append_assoc}
use Rattle.std.proofs.lemmas.List.{append-nil, get_or_default, get_or-set_other, get_or-set_same, length-set, length-replicate, reverse-append}
use Rattle.std.proofs.lemmas.List.Sums.{sum_by-cons, sum_by-set}
use Rattle.std.proofs.lemmas.Bool.{cases_lt}
use Rattle.std.specs.List.{sum_by}
use Rattle.std.specs.Prelude.{◌↔◌, IsTrue, is_some, slice_index}
use Rattle.flow_solver.specs.declared.search.Step.{Step}
use Rattle.flow_solver.specs.Ways.{IsFirstWay, IsOpen, IsPath, IsReached, Leads, last_of, led_to, nodes_on}
use Rattle.flow_solver.specs.Searched.{CameBy, HasSearched, IsDone, IsNotBehind, IsSooner, free_at, node_at, place_of, step_at, way_at}
use Rattle.flow_solver.proofs.Order.{not_behind_further, not_behind_trans}
use Rattle.flow_solver.proofs.Searching.{came_weaker, sooner_next}

-- ---- from step to step

module _ (g : List (List ℕ)) (closed : List Bool) (steps : List Step) (places : List (Option ℕ)) where
  pub next_step : (at turn : ℕ) → HasSearched g closed steps places at turn
      → ((t : ℕ) → IsOpen closed (node_at steps at) → t < length (led_to g (node_at steps at)) → t < turn) → HasSearched g closed steps places (at + 1) 0
  next_step at turn h all = record {
    ways = h.ways;
    many = h.many;
    nodes = h.nodes;
    free = h.free;
    some = h.some;
    root = h.root;
    still = h.still;
    placed = h.placed;
    known = h.known;
    leads = h.leads;
    came = λ j within. came_weaker h.ways _ j at turn (at + 1) 0 (λ t. sooner_next _ t at turn) (h.came j within);
    ordered = h.ordered;
    done = λ j t within sooner passes turns. go j t within sooner passes turns;
  }
    where
      go : (j t : ℕ) → j < length steps → IsSooner j t (at + 1) 0 → IsOpen closed (node_at steps j) → t < length (led_to g (node_at steps j))
          → IsDone g h.ways places (node_at steps j) j t
      go j t within (inr (same, less)) passes turns = absurd (omega arith)
      go j t within (inl less) passes turns =
          ⊎_elim (λ l. h.done j t within (inl l) passes turns)
          (λ ge. let same : j ≡ at = omega arith in
          h.done j t within (inr (same, all t (subst (λ i. IsOpen closed (node_at steps i)) same passes) (subst (λ i. t < length (led_to g (node_at steps i))) same turns))) passes turns)
          (cases_lt j at)

  -- ---- at the end

  pub fewer : (at turn : ℕ) → HasSearched g closed steps places at turn → length steps ≤ length g
  fewer at turn h = omega (arith, h.free)

  module _ (h : HasSearched g closed steps places (length steps) 0) where
    abbrev Comes : ℕ → List ℕ → Type 0
    Comes m turns = (i : ℕ) × (place_of places m ≡ Some i) × IsNotBehind (way_at h.ways i) turns

    comes_on : (ts front : List ℕ) (j m : ℕ) → j < length steps → IsNotBehind (way_at h.ways j) front → Leads g closed (node_at steps j) ts m → Comes m (front ++ ts)
    comes_on [] front j m within behind same =
        (j, subst (λ n. place_of places n ≡ Some j) same (h.placed j within).1, subst (IsNotBehind (way_at h.ways j)) (sym (append-nil front)) behind)
    comes_on (t ∷ ts) front j m within behind leads =
        let done = h.done j t within (inl within) leads.0 leads.1 in
        let place = h.known _ done.0 done.1 in
        subst (Comes m) (append_assoc front (t ∷ []) ts)
        (comes_on ts (front ++ t ∷ []) done.0 m place.0
        (not_behind_trans _ _ _ done.2 (not_behind_further _ front t behind))
        (subst (λ n. Leads g closed n ts m) (sym place.1) leads.2))

    -- where a way leads there is a step whose way isn't behind it
    pub comes : (turns : List ℕ) (m : ℕ) → Leads g closed 0 turns m → Comes m turns
    comes turns m leads =
        comes_on turns [] 0 m h.some (inl h.still) (subst (λ n. Leads g closed n turns m) (sym h.root) leads)

    pub no_way : (m : ℕ) → place_of places m ≡ None → (turns : List ℕ) → Leads g closed 0 turns m → ⊥
    no_way m none turns leads = let there = comes turns m leads in let e : None ≡ Some there.0 = sym none ∙ there.1 in absurd (cc)

    pub first_is : (m j : ℕ) → place_of places m ≡ Some j → IsFirstWay g closed m (way_at h.ways j)
    first_is m j is = record {
      leads = subst (Leads g closed 0 (way_at h.ways j)) (h.known m j is).1 (h.leads j (h.known m j is).0);
      first = λ others leads.
          let there = comes others m leads in
          let e : Some there.0 ≡ Some j = sym there.1 ∙ is in
          let f : there.0 ≡ j = cc in
          subst (λ i. IsNotBehind (way_at h.ways i) others) f there.2;
    }

-- ---- the beginning

abbrev pub no_places : ℕ → List (Option ℕ)
no_places k = replicate k None

none_at : (k n : ℕ) → place_of (no_places k) n ≡ None
none_at zero n = refl
none_at (suc k) zero = refl
none_at (suc k) (suc n) = none_at k n

all_free : (k : ℕ) → sum_by free_at (no_places k) ≡ k
all_free zero = refl
all_free (suc k) = sum_by-cons free_at None (no_places k) ∙ omega (arith, all_free k)

module _ (g : List (List ℕ)) (closed : List Bool) (some : 0 < length g) where
  abbrev pub first_step : Step
  first_step = record { node = 0; from = 0 }

  abbrev first_places : List (Option ℕ)
  first_places = set (no_places (length g)) 0 (Some 0)

  room : 0 < length (no_places (length g))
  room = omega (arith, length-replicate {A = Option ℕ} (length g) None)

  place_first : place_of first_places 0 ≡ Some 0
  place_first = get_or-set_same (no_places (length g)) 0 (Some 0) None room

  place_known : (n j : ℕ) → place_of first_places n ≡ Some j → (j < 1) × (node_at (first_step ∷ []) j ≡ n)
  place_known zero j is = let e : Some 0 ≡ Some j = sym place_first ∙ is in let f : 0 ≡ j = cc in subst (λ i. (i < 1) × (node_at (first_step ∷ []) i ≡ 0)) f (omega arith, refl)
  place_known (suc n) j is =
      let e : None ≡ Some j = sym (get_or-set_other (no_places (length g)) 0 (suc n) (Some 0) None (λ q. absurd (omega arith)) ∙ none_at (length g) (suc n)) ∙ is in absurd (cc)

  pub began : HasSearched g closed (first_step ∷ []) first_places 0 0
  began = record {
    ways = [] ∷ [];
    many = refl;
    nodes = length-set (no_places (length g)) 0 (Some 0) ∙ length-replicate {A = Option ℕ} (length g) None;
    free = omega (arith, sum_by-set free_at (no_places (length g)) 0 (Some 0) None room, all_free (length g), ap free_at (none_at (length g) 0));
    some = omega arith;
    root = refl;
    still = refl;
    placed = λ j within. only (λ j. (node_at (first_step ∷ []) j < length g) × (place_of first_places (node_at (first_step ∷ []) j) ≡ Some j)) j within (some, place_first);
    known = place_known;
    leads = λ j within. only (λ j. Leads g closed 0 (way_at ([] ∷ []) j) (node_at (first_step ∷ []) j)) j within refl;
    came = λ j within. inl (omega arith);
    ordered = λ i j less within. absurd (omega arith);
    done = λ j t within sooner passes turns. none j t sooner;
  }
    where
      only : (P : ℕ → Type 0) (j : ℕ) → j < 1 → P 0 → P j
      only P j within h = subst P (omega arith) h

      none : (j t : ℕ) → IsSooner j t 0 0 → IsDone g ([] ∷ []) first_places (node_at (first_step ∷ []) j) j t
      none j t (inl less) = absurd (omega arith)
      none j t (inr less) = absurd (omega (arith, less.1))

-- ---- the nodes of a way

nodes_end : (g : List (List ℕ)) (closed : List Bool) (n m : ℕ) (ts : List ℕ) (t : ℕ) → Leads g closed n (ts ++ t ∷ []) m
    → nodes_on g n (ts ++ t ∷ []) ≡ nodes_on g n ts ++ m ∷ []
nodes_end g closed n m [] t leads = ap (λ k. n ∷ k ∷ []) leads.2
nodes_end g closed n m (k ∷ ts) t leads = ap (λ ns. n ∷ ns) (nodes_end g closed _ m ts t leads.2)

-- ---- paths and ways

path_leads : (g : List (List ℕ)) (n : ℕ) (path : List ℕ) → IsPath g n path → (turns : List ℕ) × Leads g [] n turns (last_of n path)
path_leads g n [] is = ([], refl)
path_leads g n (m ∷ path) is =
    let more = path_leads g m path is.1 in
    let there : slice_index (led_to g n) is.0.0 ≡ m = get_or_default (led_to g n) is.0.0 0 m is.0.1 ∙ is.0.2 in
    (is.0.0 ∷ more.0, (refl, is.0.1, subst (λ k. Leads g [] k more.0 (last_of m path)) (sym there) more.1))

way_is_path : (g : List (List ℕ)) (n m : ℕ) (turns : List ℕ) → Leads g [] n turns m → (path : List ℕ) × IsPath g n path × (last_of n path ≡ m)
way_is_path g n m [] same = ([], tt, same)
way_is_path g n m (t ∷ turns) leads =
    let k : ℕ = slice_index (led_to g n) t in
    let more = way_is_path g k m turns leads.2 in
    (k ∷ more.0, ((t, leads.1, get_or_default (led_to g n) t k 0 leads.1), more.1), more.2)

path_of_no_mark : (g : List (List ℕ)) (n : ℕ) → IsReached g n → (turns : List ℕ) × Leads g [] 0 turns n
path_of_no_mark g n (path, is, ends) = let way = path_leads g 0 path is in (way.0, subst (Leads g [] 0 way.0) ends way.1)

-- a node has a place exactly where a path ends there
module _ (g : List (List ℕ)) (steps : List Step) (places : List (Option ℕ)) (h : HasSearched g [] steps places (length steps) 0) where
  pub placed_is_reached : (n j : ℕ) → place_of places n ≡ Some j → IsReached g n
  placed_is_reached n j is = way_is_path g 0 n _ (first_is g [] steps places h n j is).leads

  pub reached_is_placed : (n : ℕ) → place_of places n ≡ None → IsReached g n → ⊥
  reached_is_placed n none reached = let way = path_of_no_mark g n reached in no_way g [] steps places h n none way.0 way.1

  mark_is : (n : ℕ) (place : Option ℕ) → place_of places n ≡ place → IsTrue (is_some place) ↔ IsReached g n
  mark_is n (Some j) is = (λ _. placed_is_reached n j is, λ _. refl)
  mark_is n None is = (λ e. absurd (cc), λ reached. absurd (reached_is_placed n is reached))

  pub marks_are : (n : ℕ) (mark : Bool) → mark ≡ is_some (place_of places n) → IsTrue mark ↔ IsReached g n
  marks_are n mark is = subst (λ b. IsTrue b ↔ IsReached g n) (sym is) (mark_is n (place_of places n) refl)

-- ---- the way back

-- what the nodes so far, from the last on, and the way to a step make together
pub record IsBack (g : List (List ℕ)) (closed : List Bool) (steps : List Step) (places : List (Option ℕ)) (place at : ℕ) (behind : List ℕ) : Type 0 where
  pub done : HasSearched g closed steps places (length steps) 0
  pub here : at < length steps
  pub whole : nodes_on g 0 (way_at done.ways place) ≡ nodes_on g 0 (way_at done.ways at) ++ reverse behind

module _ (g : List (List ℕ)) (closed : List Bool) (steps : List Step) (places : List (Option ℕ)) (place : ℕ) where
  pub back_from : place < length steps → HasSearched g closed steps places (length steps) 0 → IsBack g closed steps places place place []
  back_from here h = record { done = h; here = here; whole = sym (append-nil (nodes_on g 0 (way_at h.ways place))) }

  pub back_further : (at : ℕ) (behind : List ℕ) → IsBack g closed steps places place at behind → (at ≡ 0 → ⊥)
      → IsBack g closed steps places place (step_at steps at).from (behind ++ node_at steps at ∷ []) × ((step_at steps at).from < at)
  back_further at behind b more = go (b.done.came at b.here)
    where
      go : (at ≡ 0) ⊎ CameBy b.done.ways (step_at steps at).from at (length steps) 0
          → IsBack g closed steps places place (step_at steps at).from (behind ++ node_at steps at ∷ []) × ((step_at steps at).from < at)
      go (inl first) = absurd (more first)
      go (inr (t, sooner, less, is)) = (
        record {
          done = b.done;
          here = omega (arith, b.here);
          whole =
              b.whole
              ∙ ap (λ ns. ns ++ reverse behind)
              (ap (nodes_on g 0) is
              ∙ nodes_end g closed 0 (node_at steps at) (way_at b.done.ways (step_at steps at).from) t (subst (λ ts. Leads g closed 0 ts (node_at steps at)) is (b.done.leads at b.here)))
              ∙ append_assoc (nodes_on g 0 (way_at b.done.ways (step_at steps at).from)) (node_at steps at ∷ []) (reverse behind)
              ∙ ap (λ ns. nodes_on g 0 (way_at b.done.ways (step_at steps at).from) ++ ns) (sym (reverse-append behind (node_at steps at ∷ [])));
        },
        less,
      )

  pub back_whole : (behind path : List ℕ) → IsBack g closed steps places place 0 behind → place < length steps → path ≡ reverse (behind ++ 0 ∷ [])
      → (turns : List ℕ) × IsFirstWay g closed (node_at steps place) turns × (path ≡ nodes_on g 0 turns)
  back_whole behind path b within is = (
    way_at b.done.ways place,
    first_is g closed steps places b.done (node_at steps place) place (b.done.placed place within).1,
    is ∙ reverse-append behind (0 ∷ []) ∙ sym (b.whole ∙ ap (λ ts. nodes_on g 0 ts ++ reverse behind) b.done.still),
  )
