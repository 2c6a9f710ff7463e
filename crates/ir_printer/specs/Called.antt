-- Words of private functions: where a function stands that takes further arguments, among those that are declared.
use Rattle.std.specs.Prelude.{◌≡◌, ◌+◌, ℕ, Bool, cond, if◌then◌else◌, List, [], ◌∷◌, codes, Option, None, Some}
use Rattle.ir_core.specs.declared.modules.Declaration.{Declaration}
use Rattle.ir_types.specs.declared.names.Name.{Name}
use Rattle.ir_core.specs.declared.name_index.places.PlaceIndex.{PlaceIndex}
use Rattle.ir_core.specs.NameIndexes.Places.{place_in}
use Rattle.ir_printer.specs.Printed.{takes_further}

-- the place of the first one of that name, counted from this number on
abbrev pub place_from : ℕ → List Declaration → Name → Option ℕ
place_from at [] x = None
place_from at (d ∷ ds) x = cond (takes_further x d) (Some at) (place_from (at + 1) ds x)

-- the index tells these places
abbrev pub TellsPlaces : PlaceIndex → List Declaration → Type 0
TellsPlaces places ds = (x : Name) → place_in places x ≡ place_from 0 ds x

-- what `...` adds behind parameters, of which there are some or none
abbrev pub dots_text : Bool → Bool → List ℕ
dots_text none variadic = if variadic then (if none then codes "..." else codes ", ...") else []
