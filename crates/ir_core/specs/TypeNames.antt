-- The names of types: those that a module defines, and those that stand in a type.
use Rattle.std.specs.Prelude.{List, [], ◌∷◌, map}
use Rattle.std.specs.List.{flat_map}
use Rattle.ir_core.specs.declared.modules.Module.{Module}
use Rattle.ir_types.specs.declared.named.NamedTy.{NamedTy}
use Rattle.ir_types.specs.declared.names.Name.{Name}
use Rattle.ir_types.specs.declared.ty.Ty.{Ty, fold-Ty}
use Rattle.ir_types.specs.declared.ty.Ty.TheOpen.{Ty-F}
use Rattle.ir_types.specs.declared.ty.Ty.TheOpen as ty
use Rattle.ir_types.specs.Named.{fields_or_none}

abbrev pub names_at_level : Ty-F (List Name) → List Name
names_at_level (ty.Int width) = []
names_at_level (ty.Ptr target) = target
names_at_level (ty.Array count element) = element
names_at_level (ty.Struct fields) = flat_map (λ names. names) fields
names_at_level (ty.Named x) = x ∷ []
names_at_level ty.Void = []

-- the names that stand in a type, also behind pointers
abbrev pub names_in_type : Ty → List Name
names_in_type = fold-Ty (List Name) names_at_level

-- those in the struct of a named type; an opaque one has none
abbrev pub names_in_struct : NamedTy → List Name
names_in_struct t = flat_map names_in_type (fields_or_none t.fields)

-- the names of the types that a module defines, in its order
abbrev pub type_names : Module → List Name
type_names m = map (λ (t : NamedTy). t.name) m.types
