-- Names that are collected, each once.
use Rattle.std.specs.Prelude.{◌&&◌, ◌++◌, Bool, true, not, List, [], ◌∷◌, map, if◌then◌else◌}
use Rattle.std.specs.Borrow.{Bor}
use Rattle.ir_types.specs.declared.names.Name.{Name}
use Rattle.ir_core.specs.NameIndexes.Among.{is_among}

-- names that are lent
abbrev pub named : List (Bor Name) → List Name
named = map (λ lent. lent.now)

-- a name more, if it is new
abbrev pub with_name : List Name → Name → List Name
with_name taken name = if is_among name taken then taken else (taken ++ name ∷ [])

abbrev pub with_names : List Name → List Name → List Name
with_names taken [] = taken
with_names taken (name ∷ names) = with_names (with_name taken name) names

-- no name stands twice, and none is one of those that are taken
abbrev pub are_new : List Name → List Name → Bool
are_new taken [] = true
are_new taken (name ∷ names) = not (is_among name taken) && are_new (with_name taken name) names
