-- Paths and ways through two graphs.
use Rattle.std.proofs.Common.{◌≡◌, ◌⊎◌, inl, inr, ℕ, suc, zero, ◌<◌, Bool, true, false, List, [], ◌∷◌, length, get_or, refl, subst, arith}
use Rattle.std.specs.List.{AllByRecursion, Contains}
use Rattle.flow_solver.specs.Examples.{NodesNear, NodesOfLoops, NodesPassed, WaysPart, circling, looping, parting}
use Rattle.flow_solver.specs.Ways.{IsBefore, IsPassed, IsPath, Leads, last_of, led_to}

of_all : (xs : List ℕ) (m k : ℕ) → k < length xs → get_or xs k m ≡ m → AllByRecursion (λ n. n < 3) xs → m < 3
of_all [] m k within is all = absurd (omega arith)
of_all (x ∷ xs) m zero within is all = omega (arith, is, all.0)
of_all (x ∷ xs) m (suc k) within is all = of_all xs m k (omega arith) is all.1

next : (n m : ℕ) → n < 3 → Contains (led_to looping n) m → m < 3
next zero m within there = of_all (1 ∷ 2 ∷ []) m there.0 there.1 there.2 (omega arith, (omega arith, tt))
next (suc zero) m within there = of_all (2 ∷ []) m there.0 there.1 there.2 (omega arith, tt)
next (suc (suc zero)) m within there = of_all (1 ∷ 2 ∷ []) m there.0 there.1 there.2 (omega arith, (omega arith, tt))
next (suc (suc (suc n))) m within there = absurd (omega arith)

stays : (n : ℕ) (path : List ℕ) → n < 3 → IsPath looping n path → last_of n path < 3
stays n [] within leads = within
stays n (m ∷ path) within leads = stays m path (next n m within leads.0) leads.1

pub nodes_of_loops : NodesOfLoops
nodes_of_loops = (
  ([], tt, refl),
  (1 ∷ [], ((0, omega arith, refl), tt), refl),
  (2 ∷ [], ((1, omega arith, refl), tt), refl),
  λ reached. let less : 3 < 3 = subst (λ n. n < 3) reached.2 (stays 0 reached.0 (omega arith) reached.1) in absurd (omega arith),
)

pub nodes_near : NodesNear
nodes_near = (refl, refl, refl, refl)

abbrev FirstTo : List ℕ → List ℕ → Type 0
FirstTo turns others = (turns ≡ others) ⊎ IsBefore turns others

by_left : (others : List ℕ) → Leads parting [] 0 others 3 → FirstTo (0 ∷ 0 ∷ []) others
by_left [] leads = absurd (cc)
by_left (zero ∷ []) leads = absurd (omega (arith, leads.2))
by_left (suc zero ∷ []) leads = absurd (omega (arith, leads.2))
by_left (suc (suc t) ∷ []) leads = absurd (omega (arith, leads.1))
by_left (zero ∷ zero ∷ []) leads = inl refl
by_left (zero ∷ suc u ∷ []) leads = absurd (omega (arith, leads.2.1))
by_left (suc t ∷ u ∷ []) leads = inr (inr (refl, inl (omega arith)))
by_left (t ∷ u ∷ v ∷ others) leads = inr (inl (omega arith))

by_right : (others : List ℕ) → Leads parting (false ∷ true ∷ []) 0 others 3 → FirstTo (1 ∷ 0 ∷ []) others
by_right [] leads = absurd (cc)
by_right (zero ∷ []) leads = absurd (omega (arith, leads.2))
by_right (suc zero ∷ []) leads = absurd (omega (arith, leads.2))
by_right (suc (suc t) ∷ []) leads = absurd (omega (arith, leads.1))
by_right (zero ∷ u ∷ []) leads = absurd (let closed : true ≡ false = leads.2.0 in cc)
by_right (suc zero ∷ zero ∷ []) leads = inl refl
by_right (suc zero ∷ suc u ∷ []) leads = absurd (omega (arith, leads.2.1))
by_right (suc (suc t) ∷ u ∷ []) leads = absurd (omega (arith, leads.1))
by_right (t ∷ u ∷ v ∷ others) leads = inr (inl (omega arith))

to_closed : (others : List ℕ) → Leads parting (false ∷ true ∷ []) 0 others 1 → FirstTo (0 ∷ []) others
to_closed [] leads = absurd (cc)
to_closed (zero ∷ []) leads = inl refl
to_closed (suc t ∷ []) leads = inr (inr (refl, inl (omega arith)))
to_closed (t ∷ u ∷ others) leads = inr (inl (omega arith))

from_closed : (turns : List ℕ) → Leads parting (true ∷ []) 0 turns 3 → ⊥
from_closed [] leads = absurd (cc)
from_closed (t ∷ turns) leads = let closed : true ≡ false = leads.0 in absurd (cc)

pub ways_part : WaysPart
ways_part = (
  record { leads = (refl, omega arith, (refl, omega arith, refl)); first = by_left },
  record { leads = (refl, omega arith, (refl, omega arith, refl)); first = by_right },
  record { leads = (refl, omega arith, refl); first = to_closed },
  from_closed,
)

first_passed : (g : List (List ℕ)) (n : ℕ) → IsPassed g 0 (suc n)
first_passed g n closed [] leads = absurd (cc)
first_passed g n closed (t ∷ turns) leads = leads.0

circle_passed : IsPassed circling 1 2
circle_passed closed [] leads = absurd (cc)
circle_passed closed (zero ∷ []) leads = absurd (omega (arith, leads.2))
circle_passed closed (zero ∷ u ∷ turns) leads = leads.2.0
circle_passed closed (suc t ∷ turns) leads = absurd (omega (arith, leads.1))

-- where a way leads round it, a node isn't passed
not_by : (g : List (List ℕ)) (closed : List Bool) (through to : ℕ) (turns : List ℕ) → get_or closed through false ≡ true → Leads g closed 0 turns to → IsPassed g through to → ⊥
not_by g closed through to turns shut leads passed = let opened : get_or closed through false ≡ false = passed closed turns leads in absurd (cc)

pub nodes_passed : NodesPassed
nodes_passed = (
  first_passed parting 2,
  not_by parting (false ∷ true ∷ []) 1 3 (1 ∷ 0 ∷ []) refl (refl, omega arith, (refl, omega arith, refl)),
  first_passed looping 1,
  not_by looping (false ∷ true ∷ []) 1 2 (1 ∷ []) refl (refl, omega arith, refl),
  not_by looping (false ∷ false ∷ true ∷ []) 2 1 (0 ∷ []) refl (refl, omega arith, refl),
  circle_passed,
)
