-- Where names stand first, as an index tells it.
use Rattle.std.specs.Prelude.{◌≡◌, ℕ, List, Option, Some, if◌then◌else◌}
use Rattle.indexmap.specs.IndexMap.{get_by}
use Rattle.ir_types.specs.declared.names.Name.{Name}
use Rattle.ir_types.specs.Same.{same_name}
use Rattle.ir_core.specs.declared.name_index.places.PlaceIndex.{PlaceIndex}
use Rattle.ir_core.specs.NameIndexes.Among.{place_among}

-- the place that it tells of a name
abbrev pub place_in : PlaceIndex → Name → Option ℕ
place_in index name = get_by (λ key. same_name name key.now) index.places

-- the place of a name, where one of the names has this one
abbrev pub placed : Name → ℕ → (Name → Option ℕ) → Name → Option ℕ
placed name place rest other = if same_name other name then Some place else rest other

-- each of the names has the place where it stands first, and no other name has one
abbrev pub ArePlaces : PlaceIndex → List Name → Type 0
ArePlaces index names = (name : Name) → place_in index name ≡ place_among name names
