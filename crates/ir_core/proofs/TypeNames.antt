-- The names that stand in each kind of type.
use Rattle.std.proofs.Common.{◌≡◌, ◌∙◌, ℕ, List, [], ◌∷◌, ◌++◌, map, refl, ap}
use Rattle.std.specs.List.{flat_map}
use Rattle.ir_types.specs.declared.names.Name.{Name}
use Rattle.ir_types.specs.declared.ty.Ty.{Ty, Int, Ptr, Array, Struct, Named, Void}
use Rattle.ir_types.proofs.Induction as fold
use Rattle.ir_core.specs.TypeNames.{names_at_level, names_in_type}

pub at_int : (width : ℕ) → names_in_type (Int width) ≡ []
at_int = fold.at_int (List Name) names_at_level

pub at_ptr : (t : Ty) → names_in_type (Ptr t) ≡ names_in_type t
at_ptr = fold.at_ptr (List Name) names_at_level

pub at_array : (n : ℕ) (t : Ty) → names_in_type (Array n t) ≡ names_in_type t
at_array = fold.at_array (List Name) names_at_level

in_parts : (ts : List Ty) → flat_map (λ names. names) (map names_in_type ts) ≡ flat_map names_in_type ts
in_parts [] = refl
in_parts (t ∷ ts) = ap (λ names. names_in_type t ++ names) (in_parts ts)

pub at_struct : (ts : List Ty) → names_in_type (Struct ts) ≡ flat_map names_in_type ts
at_struct ts = fold.at_struct (List Name) names_at_level ts ∙ in_parts ts

pub at_named : (x : Name) → names_in_type (Named x) ≡ x ∷ []
at_named = fold.at_named (List Name) names_at_level

pub at_void : names_in_type Void ≡ []
at_void = fold.at_void (List Name) names_at_level
