-- Words of private functions: what a search has come to.
use Rattle.std.specs.Prelude.{◌≡◌, ℕ, ◌+◌, ◌<◌, ◌⊎◌, Bool, List, [], ◌∷◌, ◌++◌, length, slice_index, slice_index_or, slice_set, Option, None, Some}
use Rattle.std.specs.List.{sum_by}
use Rattle.flow_solver.specs.declared.search.Step.{Step}
use Rattle.flow_solver.specs.Ways.{IsBefore, IsOpen, Leads, led_to}

abbrev pub step_at : List Step → ℕ → Step
step_at steps j = slice_index_or steps j (record { node = 0; from = 0 })

abbrev pub node_at : List Step → ℕ → ℕ
node_at steps j = (step_at steps j).node

-- where a node stands among the steps
abbrev pub place_of : List (Option ℕ) → ℕ → Option ℕ
place_of places n = slice_index_or places n None

-- the search has these steps and places after it comes to a node, which has that place or is new
abbrev pub ComesBy : Option ℕ → List Step → List (Option ℕ) → ℕ → ℕ → List Step → List (Option ℕ) → Type 0
ComesBy (Some j) steps places n from steps_after places_after = (steps_after ≡ steps) × (places_after ≡ places)
ComesBy None steps places n from steps_after places_after =
    (steps_after ≡ steps ++ record { node = n; from = from } ∷ []) × (places_after ≡ slice_set places n (Some (length steps)))

abbrev pub Comes : List Step → List (Option ℕ) → ℕ → ℕ → List Step → List (Option ℕ) → Type 0
Comes steps places n = ComesBy (place_of places n) steps places n

-- one for a node that it hasn't come to
abbrev pub free_at : Option ℕ → ℕ
free_at None = 1
free_at (Some j) = 0

-- a turn at a place is before this one
abbrev pub IsSooner : ℕ → ℕ → ℕ → ℕ → Type 0
IsSooner j t at turn = (j < at) ⊎ ((j ≡ at) × (t < turn))

abbrev pub IsNotBehind : List ℕ → List ℕ → Type 0
IsNotBehind turns others = (turns ≡ others) ⊎ IsBefore turns others

abbrev pub way_at : List (List ℕ) → ℕ → List ℕ
way_at ways j = slice_index_or ways j []

-- a step's way is that of the step before it and a turn there
abbrev pub CameBy : List (List ℕ) → ℕ → ℕ → ℕ → ℕ → Type 0
CameBy ways from j at turn = (t : ℕ) × IsSooner from t at turn × (from < j) × (way_at ways j ≡ way_at ways from ++ t ∷ [])

-- where the turn at a step leads there is a step whose way isn't behind that
abbrev pub IsDone : List (List ℕ) → List (List ℕ) → List (Option ℕ) → ℕ → ℕ → ℕ → Type 0
IsDone g ways places n j t =
    (i : ℕ) × (place_of places (slice_index (led_to g n) t) ≡ Some i) × IsNotBehind (way_at ways i) (way_at ways j ++ t ∷ [])

-- The search has gone through the steps before a place, and there through the turns before one. Each step has the first way to its
-- node, and they stand in the order of their ways.
pub record HasSearched (g : List (List ℕ)) (closed : List Bool) (steps : List Step) (places : List (Option ℕ)) (at turn : ℕ) : Type 0 where
  pub ways : List (List ℕ)
  pub many : length ways ≡ length steps
  pub nodes : length places ≡ length g
  pub free : sum_by free_at places + length steps ≡ length g
  pub some : 0 < length steps
  pub root : node_at steps 0 ≡ 0
  pub still : way_at ways 0 ≡ []
  pub placed : (j : ℕ) → j < length steps → (node_at steps j < length g) × (place_of places (node_at steps j) ≡ Some j)
  pub known : (n j : ℕ) → place_of places n ≡ Some j → (j < length steps) × (node_at steps j ≡ n)
  pub leads : (j : ℕ) → j < length steps → Leads g closed 0 (way_at ways j) (node_at steps j)
  pub came : (j : ℕ) → j < length steps → (j ≡ 0) ⊎ CameBy ways (step_at steps j).from j at turn
  pub ordered : (i j : ℕ) → i < j → j < length steps → IsBefore (way_at ways i) (way_at ways j)
  pub done : (j t : ℕ) → j < length steps → IsSooner j t at turn → IsOpen closed (node_at steps j) → t < length (led_to g (node_at steps j))
      → IsDone g ways places (node_at steps j) j t
