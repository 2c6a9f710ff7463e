-- To a node no way leads, or one of the ways is the first.
use Rattle.std.specs.Prelude.{◌⊎◌, ℕ, Bool, List}
use Rattle.flow_solver.specs.Ways.{IsFirstWay, Leads}

abbrev pub NoneLeads : List (List ℕ) → List Bool → ℕ → Type 0
NoneLeads g closed to = (turns : List ℕ) → Leads g closed 0 turns to → ⊥

-- In a graph 0 to 1 and 2, 1 to 3, 2 to 3, 3 to 0 the first way to 3 is by 1; where 0 is closed, none leads there.
abbrev pub WaysHaveAFirst : Type 0
WaysHaveAFirst = (g : List (List ℕ)) (closed : List Bool) (to : ℕ) → NoneLeads g closed to ⊎ ((turns : List ℕ) × IsFirstWay g closed to turns)
