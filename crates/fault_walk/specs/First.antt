-- The first of several faults, and of several places.
use Rattle.std.specs.Prelude.{◌≡◌, ◌↔◌, ◌≤◌, ℕ, false, List, [], Option, None, Some}
use Rattle.std.specs.List.{Contains}
use Rattle.name_claims.specs.declared.claims.Fault.{Fault}
use Rattle.name_claims.specs.Faults.{before}
use Rattle.fault_walk.specs.Told.{noted}

-- one of these, before which none of them comes
abbrev pub IsFirstOf : List Fault → Fault → Type 0
IsFirstOf fs f = Contains fs f × ((g : Fault) → Contains fs g → before g f ≡ false)

abbrev pub NoneIsNotedOfNone : Type 0
NoneIsNotedOfNone = (fs : List Fault) → (noted fs None ≡ None) ↔ (fs ≡ [])

abbrev pub NotedComeFirst : Type 0
NotedComeFirst = (fs : List Fault) (f : Fault) → noted fs None ≡ Some f → IsFirstOf fs f

-- None where there is no place, or else one of them, before which none comes
abbrev pub IsFirst : List ℕ → Option ℕ → Type 0
IsFirst places None = places ≡ []
IsFirst places (Some p) = Contains places p × ((q : ℕ) → Contains places q → p ≤ q)
