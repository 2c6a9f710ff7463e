-- Nodes that a path of few edges comes to.
use Rattle.std.specs.Prelude.{ℕ, zero, suc, Bool, ◌&&◌, ◌||◌, List, length, map, nat_eq}
use Rattle.std.specs.List.{list_any, range_with_len}
use Rattle.flow_solver.specs.Ways.{led_to}

-- 0, 1, .. up to the last node
abbrev pub nodes_of : List (List ℕ) → List ℕ
nodes_of g = range_with_len 0 (length g)

-- a path of at most so many edges leads there from the first node
abbrev pub is_near : List (List ℕ) → ℕ → ℕ → Bool
is_near g zero n = nat_eq n 0
is_near g (suc k) n = is_near g k n || list_any (λ m. is_near g k m && list_any (nat_eq n) (led_to g m)) (nodes_of g)

-- A path with as many edges as there are nodes passes one of them twice, so a shortest path has fewer.
abbrev pub is_reached : List (List ℕ) → ℕ → Bool
is_reached g n = is_near g (length g) n

-- of each node whether a path ends there
abbrev pub reached_nodes : List (List ℕ) → List Bool
reached_nodes g = map (is_reached g) (nodes_of g)
