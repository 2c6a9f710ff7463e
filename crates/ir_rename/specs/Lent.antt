-- Words of private functions: names that are lent, and names found by an index.
use Rattle.std.specs.Prelude.{ℕ, List, map, slice_index_or, Option, None, Some}
use Rattle.std.specs.Borrow.{Bor}
use Rattle.ir_types.specs.declared.names.Name.{Name}
use Rattle.ir_core.specs.NameIndexes.Places.{place_in}
use Rattle.ir_rename.specs.declared.renaming.Renaming.{Renaming}

abbrev pub lent : List (Bor Name) → List Name
lent = map (λ name. name.now)

abbrev pub given_at : Option ℕ → List Name → Name → Name
given_at None given name = name
given_at (Some place) given name = slice_index_or given place name

-- the name that is given in place of this one
abbrev pub renamed : Renaming → Name → Name
renamed names name = given_at (place_in names.places name) names.given name
