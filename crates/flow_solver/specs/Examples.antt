-- Four graphs: one with a loop at a node, two nodes that enter each other, and a node that nothing enters; one with two ways to a node; one
-- with a loop on the only way; and a chain.
use Rattle.std.specs.Prelude.{◌≡◌, ℕ, true, false, List, [], ◌∷◌}
use Rattle.flow_solver.specs.Near.{is_near, reached_nodes}
use Rattle.flow_solver.specs.Ways.{IsFirstWay, IsPassed, IsReached, Leads}

-- 0 to 1 and 2, 1 to 2, 2 to 1 and 2, 3 to 0
abbrev pub looping : List (List ℕ)
looping = (1 ∷ 2 ∷ []) ∷ (2 ∷ []) ∷ (1 ∷ 2 ∷ []) ∷ (0 ∷ []) ∷ []

-- 0 to 1 and 2, both to 3
abbrev pub parting : List (List ℕ)
parting = (1 ∷ 2 ∷ []) ∷ (3 ∷ []) ∷ (3 ∷ []) ∷ [] ∷ []

-- 0 to 1, 1 to 1 and 2
abbrev pub circling : List (List ℕ)
circling = (1 ∷ []) ∷ (1 ∷ 2 ∷ []) ∷ [] ∷ []

-- 0 to 1, 1 to 2
abbrev pub chain : List (List ℕ)
chain = (1 ∷ []) ∷ (2 ∷ []) ∷ [] ∷ []

-- what leads to a reached node isn't reached by that
abbrev pub NodesOfLoops : Type 0
NodesOfLoops = IsReached looping 0 × IsReached looping 1 × IsReached looping 2 × (IsReached looping 3 → ⊥)

-- The same, as it is computed. The end of the chain is two edges away.
abbrev pub NodesNear : Type 0
NodesNear =
    (reached_nodes looping ≡ true ∷ true ∷ true ∷ false ∷ []) × (is_near chain 1 2 ≡ false) × (is_near chain 2 2 ≡ true)
    × (reached_nodes chain ≡ true ∷ true ∷ true ∷ [])

-- It is by 1, and where that is closed by 2. A node that is closed is come to, and one behind closed nodes isn't.
abbrev pub WaysPart : Type 0
WaysPart =
    IsFirstWay parting [] 3 (0 ∷ 0 ∷ []) × IsFirstWay parting (false ∷ true ∷ []) 3 (1 ∷ 0 ∷ []) × IsFirstWay parting (false ∷ true ∷ []) 1 (0 ∷ [])
    × ((turns : List ℕ) → Leads parting (true ∷ []) 0 turns 3 → ⊥)

-- Where ways part and meet, and where a loop is entered at two nodes, none of these is passed by each; the first node is, and that of a loop.
abbrev pub NodesPassed : Type 0
NodesPassed =
    IsPassed parting 0 3 × (IsPassed parting 1 3 → ⊥) × IsPassed looping 0 2 × (IsPassed looping 1 2 → ⊥) × (IsPassed looping 2 1 → ⊥) × IsPassed circling 1 2
