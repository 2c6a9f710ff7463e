-- The types of names as they are collected: where a name comes again, what was told of it first stays.
use Rattle.std.specs.Prelude.{List, [], ◌∷◌, Option, None, Some, if◌then◌else◌}
use Rattle.ir_types.specs.declared.names.Name.{Name}
use Rattle.ir_types.specs.declared.ty.Ty.{Ty}
use Rattle.ir_types.specs.Same.{same_name}

-- of each name whether it is there, and then its type, or that it has none
abbrev pub Types : Type 0
Types = Name → Option (Option Ty)

abbrev pub none_typed : Types
none_typed name = None

abbrev pub or_else : Option (Option Ty) → Option (Option Ty) → Option (Option Ty)
or_else None other = other
or_else (Some t) other = Some t

abbrev pub type_at : Name → Option Ty → Types
type_at name t other = if same_name other name then Some t else None

-- a name more: where it is there, what is told of it stays
unfoldable pub with_type : Types → Name → Option Ty → Types
with_type types name t other = or_else (types other) (type_at name t other)

abbrev pub with_types : Types → List (Name × Option Ty) → Types
with_types types [] = types
with_types types (r ∷ rs) = with_types (with_type types r.0 r.1) rs
