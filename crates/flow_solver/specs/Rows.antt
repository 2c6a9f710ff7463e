-- The lists of a graph, however they are held.
use Rattle.std.specs.Prelude.{ℕ, List, map}
use Rattle.flow_solver.specs.declared.graph.Rows.{Rows}
use Rattle.flow_solver.specs.declared.graph.Rows.TheVariants.{Long, Short}

abbrev pub rows_in : Rows → List (List ℕ)
rows_in (Long rows) = map (λ nodes. nodes.items) rows.items
rows_in (Short rows) = rows.items
