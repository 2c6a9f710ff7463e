-- Whether a name is one of several.
use Rattle.std.specs.Prelude.{ℕ, Bool, List, Option}
use Rattle.std.specs.List.{list_any, position}
use Rattle.ir_types.specs.declared.names.Name.{Name}
use Rattle.ir_types.specs.Same.{same_name}

-- `x` is among `x` and 7, and 8 is not.
abbrev pub is_among : Name → List Name → Bool
is_among name names = list_any (same_name name) names

-- Where it stands first, if it is one: of `x` and 7 the place of 7 is 1.
abbrev pub place_among : Name → List Name → Option ℕ
place_among name names = position (same_name name) names
