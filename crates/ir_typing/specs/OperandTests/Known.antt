-- The named types that a module has, and those that stand in types.
use Rattle.std.specs.Prelude.{Bool, List}
use Rattle.std.specs.List.{list_all}
use Rattle.ir_core.specs.declared.modules.Module.{Module}
use Rattle.ir_types.specs.declared.names.Name.{Name}
use Rattle.ir_types.specs.declared.ty.Ty.{Ty}
use Rattle.ir_core.specs.TypeNames.{names_in_type, type_names}
use Rattle.ir_core.specs.NameIndexes.Among.{is_among}

-- these names are among the others
abbrev pub are_among : List Name → List Name → Bool
are_among names known = list_all (λ x. is_among x known) names

-- each named type that stands in the type is one of the module's
abbrev pub is_type_known : Module → Ty → Bool
is_type_known m t = are_among (names_in_type t) (type_names m)

abbrev pub are_types_known : Module → List Ty → Bool
are_types_known m = list_all (is_type_known m)
