-- Values go down to the greatest solution.
use Rattle.std.proofs.Common.{◌≡◌, ◌≢◌, ◌∙◌, ◌⊎◌, ⊎_elim, inl, inr, ℕ, ◌<◌, ◌≤◌, ◌+◌, Bool, false, List, [], length, get_or, set, refl, sym, ap, subst, arith}
use Rattle.std.specs.List.{Contains}
use Rattle.std.proofs.lemmas.Bool.{cases_eq, cases_lt}
use Rattle.std.proofs.lemmas.List.{ext_get_or, get_or-set_other, get_or-set_same, get_or_default, get_or_past, length-set, set-get_or}
use Rattle.std.proofs.lemmas.List.Sums.{sum_by-set}
use Rattle.flow_solver.specs.Ways.{led_to}
use Rattle.flow_solver.specs.Frameworks.{Enters, Framework, IsEither, IsGreatestLowerBound, IsGreatestSolution, IsLowerBound, IsMonotone, IsSafe, IsSolution, value_at}
use Rattle.std.specs.BinaryHeap.{heap_len}
use Rattle.flow_solver.specs.declared.queue.Queue.{Queue}
use Rattle.flow_solver.specs.Solving.{HasEntered, IsAboveAll, IsLeaving, IsLeft, IsQueue, IsSolving, StillWait, Waits, weight}

module _ {V : Type 0} (f : Framework V) (is : IsMonotone f) (g : List (List ℕ)) where
  solution_safe : (vs : List V) → IsSolution f g vs → IsSafe f g vs
  solution_safe vs solution = record { many = solution.many; below = λ n at. (solution.met n at).0 }

  -- ---- the start

  start_value : (vs : List V) → length vs ≡ length g → ((n : ℕ) → n < length g → value_at f vs n ≡ f.start n) → (n : ℕ) → f.IsValue (value_at f vs n)
  start_value vs many starts n = ⊎_elim
      (λ at. subst f.IsValue (sym (starts n at)) (is.start n))
      (λ (past : length g ≤ n). subst f.IsValue (sym (get_or_past vs n f.top (subst (λ k. k ≤ n) (sym many) past))) is.top) (cases_lt n (length g))

  begun_above : (vs : List V) → length vs ≡ length g → ((n : ℕ) → n < length g → value_at f vs n ≡ f.start n) → IsAboveAll f g vs
  begun_above vs many starts = record {
    many = many;
    value = start_value vs many starts;
    start = λ n at. subst (λ v. f.IsBelow v (f.start n)) (sym (starts n at)) (is.reflexive (f.start n) (is.start n));
    met = λ n at w bound. subst (f.IsBelow w) (sym (starts n at)) (bound.1 (f.start n) (inl refl));
    safe = λ others safe n at. subst (f.IsBelow (value_at f others n)) (sym (starts n at)) ((safe.below n at).1 (f.start n) (inl refl));
  }

  pub begun :
      (vs : List V) (q : Queue) → length vs ≡ length g → ((n : ℕ) → n < length g → value_at f vs n ≡ f.start n)
      → length q.waits.items ≡ length g → IsQueue q → ((n : ℕ) → n < length g → Waits q n) → IsSolving f g vs q
  begun vs q many starts marks queue waits = record {
    queue = queue;
    marks = marks;
    above = begun_above vs many starts;
    left = λ n idle. ⊎_elim
        (λ at. absurd (idle (waits n at)))
        (λ (past : length g ≤ n) t at. absurd (omega (arith, at, ap (length {A = ℕ}) (get_or_past g n [] past)))) (cases_lt n (length g));
  }

  -- ---- a value enters a node

  lighter :
      (vs : List V) (n : ℕ) (s v : V) (q r : Queue) → n < length vs → f.IsValue (value_at f vs n) → f.IsValue s
      → v ≡ f.meet (value_at f vs n) s → (v ≡ value_at f vs n → ⊥) → heap_len r.heap ≤ heap_len q.heap + 1
      → weight f (set vs n v) r ≤ weight f vs q
  lighter vs n s v q r at own value by changed more =
      let is_met = is.meet (value_at f vs n) s own value in
      let is_value : f.IsValue v = subst f.IsValue (sym by) is_met.0.0 in
      let below : f.IsBelow v (value_at f vs n) = subst (λ u. f.IsBelow u (value_at f vs n)) (sym by) (is_met.0.1 (value_at f vs n) (inl refl)) in
      let falls = is.height v (value_at f vs n) is_value own below changed in
      let sums = sum_by-set f.height vs n v f.top at in
      omega (arith, falls, sums, more)

  pub lower_entered :
      (vs : List V) (n : ℕ) (s v : V) (q r : Queue) → n < length vs → f.IsValue (value_at f vs n) → f.IsValue s
      → v ≡ f.meet (value_at f vs n) s → (v ≡ value_at f vs n → ⊥) → IsQueue r → StillWait q r → Waits r n → heap_len r.heap ≤ heap_len q.heap + 1
      → HasEntered f n s vs q (set vs n v) r
  lower_entered vs n s v q r at own value by changed queue still waiting more = record {
    met = ap (set vs n) by;
    queue = queue;
    still = still;
    changed = inr waiting;
    weight = lighter vs n s v q r at own value by changed more;
  }

  pub same_entered :
      (vs : List V) (n : ℕ) (s v : V) (q : Queue) → v ≡ f.meet (value_at f vs n) s → v ≡ value_at f vs n → IsQueue q → HasEntered f n s vs q vs q
  same_entered vs n s v q by same queue = record {
    met = sym (set-get_or vs n f.top) ∙ ap (set vs n) (sym same ∙ by);
    queue = queue;
    still = record { many = refl; waits = λ k waiting. waiting };
    changed = inl refl;
    weight = omega arith;
  }

  module _ (vs : List V) (n : ℕ) (v : V) (at : n < length vs) where
    by_node : (P : ℕ → V → Type 0) → P n v → ((k : ℕ) → k ≢ n → P k (value_at f vs k)) → (k : ℕ) → P k (value_at f (set vs n v) k)
    by_node P here others k = ⊎_elim
        (λ (same : k ≡ n). subst (λ j. P j (value_at f (set vs n v) j)) (sym same) (subst (P n) (sym (get_or-set_same vs n v f.top at)) here))
        (λ other. subst (P k) (sym (get_or-set_other vs n k v f.top other)) (others k other)) (cases_eq k n)

  module _ (vs : List V) (m n : ℕ) (x : V) (from : m < length g) (at : n < length g) (edge : Contains (led_to g m) n) (above : IsAboveAll f g vs) (value : f.IsValue x) (down : f.IsBelow (value_at f vs m) x) where
    abbrev pub met : V
    met = f.meet (value_at f vs n) (f.transfer m x)

    is_met : IsGreatestLowerBound f (IsEither (value_at f vs n) (f.transfer m x)) met
    is_met = is.meet (value_at f vs n) (f.transfer m x) (above.value n) (is.transfer m x value)

    within : n < length vs
    within = subst (λ k. n < k) (sym above.many) at

    met_value : (k : ℕ) → f.IsValue (value_at f (set vs n met) k)
    met_value = by_node vs n met within (λ k v. f.IsValue v) is_met.0.0 (λ k other. above.value k)

    pub met_lower : (k : ℕ) → f.IsBelow (value_at f (set vs n met) k) (value_at f vs k)
    met_lower = by_node vs n met within (λ k v. f.IsBelow v (value_at f vs k)) (is_met.0.1 (value_at f vs n) (inl refl)) (λ k other. is.reflexive (value_at f vs k) (above.value k))

    leaves_lower : (p : ℕ) → f.IsBelow (f.transfer p (value_at f (set vs n met) p)) (f.transfer p (value_at f vs p))
    leaves_lower p = is.monotone p (value_at f (set vs n met) p) (value_at f vs p) (met_value p) (above.value p) (met_lower p)

    -- what lies below all that enters now lies below all that entered before
    bound_before : (k : ℕ) (w : V) → IsLowerBound f (Enters f g (set vs n met) k) w → IsLowerBound f (Enters f g vs k) w
    bound_before k w bound = (
      bound.0,
      λ e by. elim by [
        | inl is_start ↦ bound.1 _ (inl is_start)
        | inr left ↦ subst (f.IsBelow w) (sym left.2) (is.transitive w (f.transfer left.0 (value_at f (set vs n met) left.0)) (f.transfer left.0 (value_at f vs left.0))
            bound.0 (is.transfer left.0 _ (met_value left.0)) (is.transfer left.0 _ (above.value left.0))
            (bound.1 _ (inr (left.0, left.1, refl))) (leaves_lower left.0))
      ],
    )

    below_met : (w : V) → f.IsValue w → f.IsBelow w (value_at f vs n) → f.IsBelow w (f.transfer m x) → f.IsBelow w met
    below_met w is_value before left = is_met.1 w (
      is_value,
      λ e by. elim by [
        | inl same ↦ subst (f.IsBelow w) (sym same) before
        | inr same ↦ subst (f.IsBelow w) (sym same) left
      ],
    )

    -- what lies below what leaves the node by its value now lies below what leaves it by x
    below_left : (u w : V) → f.IsValue u → f.IsValue w → f.IsBelow u x → f.IsBelow w (f.transfer m u) → f.IsBelow w (f.transfer m x)
    below_left u w is_u is_w lower below =
        is.transitive w (f.transfer m u) (f.transfer m x) is_w (is.transfer m u is_u) (is.transfer m x value) below (is.monotone m u x is_u value lower)

    met_down : f.IsBelow (value_at f (set vs n met) m) x
    met_down = is.transitive (value_at f (set vs n met) m) (value_at f vs m) x (met_value m) (above.value m) value (met_lower m) down

    met_bound : (w : V) → IsLowerBound f (Enters f g (set vs n met) n) w → f.IsBelow w met
    met_bound w bound =
        below_met w bound.0 (above.met n at w (bound_before n w bound))
        (below_left (value_at f (set vs n met) m) w (met_value m) bound.0 met_down (bound.1 (f.transfer m (value_at f (set vs n met) m)) (inr (m, edge, refl))))

    safe_bound : (others : List V) → IsSafe f g others → f.IsBelow (value_at f others n) met
    safe_bound others safe =
        let here = safe.below n at in
        below_met (value_at f others n) here.0 (above.safe others safe n at)
        (below_left (value_at f others m) (value_at f others n) (safe.below m from).0 here.0
        (is.transitive (value_at f others m) (value_at f vs m) x (safe.below m from).0 (above.value m) value (above.safe others safe m from) down)
        (here.1 (f.transfer m (value_at f others m)) (inr (m, edge, refl))))

    pub entered_above : IsAboveAll f g (set vs n met)
    entered_above = record {
      many = length-set vs n met ∙ above.many;
      value = met_value;
      start = λ k at_k. is.transitive (value_at f (set vs n met) k) (value_at f vs k) (f.start k) (met_value k) (above.value k) (is.start k) (met_lower k) (above.start k at_k);
      met = λ k at_k w bound. by_node vs n met within (λ j v. j < length g → IsLowerBound f (Enters f g (set vs n met) j) w → f.IsBelow w v)
          (λ _ b. met_bound w b) (λ j other at_j b. above.met j at_j w (bound_before j w b)) k at_k bound;
      safe = λ others safe k at_k. by_node vs n met within (λ j v. j < length g → f.IsBelow (value_at f others j) v)
          (λ _. safe_bound others safe) (λ j other at_j. above.safe others safe j at_j) k at_k;
    }

    -- ---- and the node is being left

    entered_left : (k : ℕ) → k ≢ n → IsLeft f g vs k → IsLeft f g (set vs n met) k
    entered_left k other left t at_t =
        let to = get_or (led_to g k) t 0 in
        let same = get_or-set_other vs n k met f.top other in
        subst (λ (u : V). f.IsBelow (value_at f (set vs n met) to) (f.transfer k u)) (sym same)
        (is.transitive (value_at f (set vs n met) to) (value_at f vs to) (f.transfer k (value_at f vs k))
        (met_value to) (above.value to) (is.transfer k (value_at f vs k) (above.value k)) (met_lower to) (left t at_t))

    new_below : f.IsBelow (value_at f (set vs n met) n) (f.transfer m x)
    new_below = subst (λ u. f.IsBelow u (f.transfer m x)) (sym (get_or-set_same vs n met f.top within)) (is_met.0.1 (f.transfer m x) (inr refl))

    entered_leaving :
        (q r : Queue) (t : ℕ) → t < length (led_to g m) → n ≡ get_or (led_to g m) t 0 → IsQueue r → StillWait q r
        → (set vs n met ≡ vs) ⊎ Waits r n → IsLeaving f g m x vs q t → IsLeaving f g m x (set vs n met) r (t + 1)
    entered_leaving q r t turn next queue still changed leaving = record {
      queue = queue;
      marks = still.many ∙ leaving.marks;
      above = entered_above;
      same = λ idle. same idle changed;
      down = met_down;
      left = λ k other idle. left k other idle changed;
      turns = λ u before at_u. ⊎_elim (λ earlier. earlier_turn u earlier at_u) (λ (none : t ≤ u). last_turn u (omega (arith, before, none))) (cases_lt u t);
    }
      where
        idle_before : (k : ℕ) → (Waits r k → ⊥) → Waits q k → ⊥
        idle_before k idle waiting = idle (still.waits k waiting)

        other_from : (k : ℕ) → (Waits r k → ⊥) → Waits r n → k ≢ n
        other_from k idle waiting is_n = idle (subst (Waits r) (sym is_n) waiting)

        same : (Waits r m → ⊥) → (set vs n met ≡ vs) ⊎ Waits r n → value_at f (set vs n met) m ≡ x
        same idle (inl unchanged) = ap (λ us. value_at f us m) unchanged ∙ leaving.same (idle_before m idle)
        same idle (inr waiting) = get_or-set_other vs n m met f.top (other_from m idle waiting) ∙ leaving.same (idle_before m idle)

        left : (k : ℕ) → k ≢ m → (Waits r k → ⊥) → (set vs n met ≡ vs) ⊎ Waits r n → IsLeft f g (set vs n met) k
        left k other idle (inl unchanged) = subst (λ us. IsLeft f g us k) (sym unchanged) (leaving.left k other (idle_before k idle))
        left k other idle (inr waiting) = entered_left k (other_from k idle waiting) (leaving.left k other (idle_before k idle))

        earlier_turn : (u : ℕ) → u < t → u < length (led_to g m) → f.IsBelow (value_at f (set vs n met) (get_or (led_to g m) u 0)) (f.transfer m x)
        earlier_turn u earlier at_u =
            let to = get_or (led_to g m) u 0 in
            is.transitive (value_at f (set vs n met) to) (value_at f vs to) (f.transfer m x) (met_value to) (above.value to) (is.transfer m x value) (met_lower to) (leaving.turns u earlier at_u)

        last_turn : (u : ℕ) → u ≡ t → f.IsBelow (value_at f (set vs n met) (get_or (led_to g m) u 0)) (f.transfer m x)
        last_turn u is_t = subst (λ k. f.IsBelow (value_at f (set vs n met) k) (f.transfer m x)) (next ∙ ap (λ k. get_or (led_to g m) k 0) (sym is_t)) new_below

  -- ---- how a node is left

  pub taken :
      (vs : List V) (q r : Queue) (m : ℕ) → m < length q.waits.items → IsSolving f g vs q → IsQueue r → r.waits.items ≡ set q.waits.items m false
      → IsLeaving f g m (value_at f vs m) vs r 0
  taken vs q r m at solving queue marks = record {
    queue = queue;
    marks = ap (length {A = Bool}) marks ∙ length-set q.waits.items m false ∙ solving.marks;
    above = solving.above;
    same = λ _. refl;
    down = is.reflexive (value_at f vs m) (solving.above.value m);
    left = λ n other idle. solving.left n (λ waiting. idle (ap (λ (bs : List Bool). get_or bs n false) marks ∙ get_or-set_other q.waits.items m n false false other ∙ waiting));
    turns = λ t at. absurd (omega (arith, at));
  }

  pub all_left : (vs : List V) (q : Queue) (m many : ℕ) (x : V) → length (led_to g m) ≤ many → IsLeaving f g m x vs q many → IsSolving f g vs q
  all_left vs q m many x all leaving = record {
    queue = leaving.queue;
    marks = leaving.marks;
    above = leaving.above;
    left = λ n idle. ⊎_elim
        (λ (same : n ≡ m). subst (IsLeft f g vs) (sym same) (here (λ waiting. idle (subst (Waits q) (sym same) waiting))))
        (λ other. leaving.left n other idle) (cases_eq n m);
  }
    where
      here : (Waits q m → ⊥) → IsLeft f g vs m
      here idle t at = subst (λ u. f.IsBelow (value_at f vs (get_or (led_to g m) t 0)) (f.transfer m u)) (sym (leaving.same idle)) (leaving.turns t (omega (arith, at, all)) at)

  -- where no node waits, that is the solution
  module _ (vs : List V) (q : Queue) (solving : IsSolving f g vs q) (none : (n : ℕ) → Waits q n → ⊥) where
    below_left_of : (n m : ℕ) → Contains (led_to g m) n → f.IsBelow (value_at f vs n) (f.transfer m (value_at f vs m))
    below_left_of n m edge =
        subst (λ k. f.IsBelow (value_at f vs k) (f.transfer m (value_at f vs m))) (get_or_default (led_to g m) edge.0 0 n edge.1 ∙ edge.2) (solving.left m (none m) edge.0 edge.1)

    is_solution : IsSolution f g vs
    is_solution = record {
      many = solving.above.many;
      met = λ n at. (
        (
          solving.above.value n,
          λ e by. elim by [
            | inl is_start ↦ subst (f.IsBelow (value_at f vs n)) (sym is_start) (solving.above.start n at)
            | inr from ↦ subst (f.IsBelow (value_at f vs n)) (sym from.2) (below_left_of n from.0 from.1)
          ],
        ),
        solving.above.met n at,
      );
    }

    pub is_greatest : IsGreatestSolution f g vs
    is_greatest = record { solution = is_solution; greatest = λ others solution. solving.above.safe others (solution_safe others solution) }

-- two that are greatest are one
pub one_greatest : {V : Type 0} (f : Framework V) → IsMonotone f → (g : List (List ℕ)) (vs ws : List V) → IsGreatestSolution f g vs → IsGreatestSolution f g ws → vs ≡ ws
one_greatest f is g vs ws left right =
    let many = left.solution.many in
    ext_get_or f.top vs ws (many ∙ sym right.solution.many) (λ n at.
    let within : n < length g = subst (λ k. n < k) many at in
    is.antisymmetric (value_at f vs n) (value_at f ws n) (left.solution.met n within).0.0 (right.solution.met n within).0.0
    (right.greatest vs left.solution n within) (left.greatest ws right.solution n within))

-- a set has entered the next one of the nodes to which a node leads
module _ {V : Type 0} (f : Framework V) (is : IsMonotone f) (g : List (List ℕ)) where
  pub entered :
      (vs after : List V) (q r : Queue) (m n t : ℕ) (x s : V) → m < length g → n < length g → t < length (led_to g m) → n ≡ get_or (led_to g m) t 0
      → f.IsValue x → s ≡ f.transfer m x → HasEntered f n s vs q after r → IsLeaving f g m x vs q t → IsLeaving f g m x after r (t + 1)
  entered vs after q r m n t x s from at turn next value left has leaving =
      subst (λ us. IsLeaving f g m x us r (t + 1)) (sym is_set)
      (entered_leaving f is g vs m n x from at edge leaving.above value leaving.down q r t turn next has.queue has.still
      (⊎_elim (λ same. inl (sym is_set ∙ same)) (λ waiting. inr waiting) has.changed) leaving)
    where
      edge : Contains (led_to g m) n
      edge = (t, turn, get_or_default (led_to g m) t n 0 turn ∙ sym next)

      is_set : after ≡ set vs n (f.meet (value_at f vs n) (f.transfer m x))
      is_set = has.met ∙ ap (λ u. set vs n (f.meet (value_at f vs n) u)) left
