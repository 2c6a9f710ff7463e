-- Words of a private type: where names stand first, as it is kept by their hashes.
use Rattle.std.specs.Prelude.{◌≡◌, ℕ, List}
use Rattle.std.specs.Borrow.{Bor}
use Rattle.std.specs.Map.{lookup}
use Rattle.ir_types.specs.declared.names.Name.{Name}
use Rattle.ir_types.specs.Same.{same_name}
use Rattle.ir_core.specs.NameIndexes.Among.{place_among}

abbrev pub ArePlaces : List Name → List (Bor Name × ℕ) → Type 0
ArePlaces names places = (name : Name) → lookup (λ (key : Bor Name). same_name name key.now) places ≡ place_among name names
