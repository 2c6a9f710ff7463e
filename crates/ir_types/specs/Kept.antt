-- Layouts as the code keeps them: a size above 2^31 is kept as 2^31 + 1.
use Rattle.std.specs.Prelude.{◌≡◌, ◌<◌, ◌+◌, ℕ, zero, suc, min, cond, List, [], ◌∷◌, map, Option, None, Some}
use Rattle.std.specs.List.{AllByRecursion}
use Rattle.std.specs.Option.{is_some, option_map, option_and_then}
use Rattle.std.specs.HashMap.{get_by}
use Rattle.ir_types.specs.declared.layout.Layout.{Layout}
use Rattle.ir_types.specs.declared.name_map.NameMap.{NameMap}
use Rattle.ir_types.specs.declared.named.NamedTy.{NamedTy}
use Rattle.ir_types.specs.declared.names.Name.{Name}
use Rattle.ir_types.specs.declared.ty.Ty.{Ty, fold-Ty}
use Rattle.ir_types.specs.declared.ty.Ty.TheOpen.{Ty-F}
use Rattle.ir_types.specs.declared.ty.Ty.TheOpen as ty
use Rattle.ir_types.specs.Layout.{of_struct, all_of, round_up, layout_level}
use Rattle.ir_types.specs.Named.{fields_of, knows_type, layout_of_name, found_in}
use Rattle.ir_types.specs.Same.{same_name}

abbrev pub capped_size : ℕ → ℕ
capped_size size = min size 2147483649

abbrev pub capped : Layout → Layout
capped layout = record { size = capped_size layout.size; align = layout.align }

abbrev pub capped_level : (Name → Option Layout) → Ty-F (Option Layout) → Option Layout
capped_level of_name (ty.Named x) = of_name x
capped_level of_name level = option_map capped (layout_level of_name level)

-- what is kept of the layout of a type, where this is kept of the layouts of names
abbrev pub capped_by : (Name → Option Layout) → Ty → Option Layout
capped_by of_name = fold-Ty (Option Layout) (capped_level of_name)

abbrev pub capped_fields : (Name → Option Layout) → List Ty → Option Layout
capped_fields of_name fields = option_map (λ layouts. capped (of_struct layouts)) (all_of (map (capped_by of_name) fields))

-- ---- values by name

abbrev pub value_of : {V : Type 0} → NameMap V → Name → Option V
value_of map name = get_by (same_name name) map.values

-- the values, where a name has this one
abbrev pub and_value : {V : Type 0} → Name → V → (Name → Option V) → Name → Option V
and_value name value rest other = cond (same_name other name) (Some value) (rest other)

abbrev pub AlignsArePositive : (Name → Option Layout) → Type 0
AlignsArePositive of_name = (name : Name) (layout : Layout) → of_name name ≡ Some layout → 0 < layout.align

-- ---- the types that a module names

abbrev pub flattened : {A : Type 0} → Option (Option A) → Option A
flattened None = None
flattened (Some inner) = inner

abbrev pub fields_at : NameMap (Option (List Ty)) → Name → Option (List Ty)
fields_at map name = flattened (value_of map name)

-- the fields of each name
abbrev pub AreIndexed : List NamedTy → NameMap (Option (List Ty)) → Type 0
AreIndexed types map = (name : Name) → fields_at map name ≡ fields_of types name

-- a name has fields kept for it, or that it has none, where it is known
abbrev pub AreListed : List NamedTy → NameMap (Option (List Ty)) → Type 0
AreListed types map = (name : Name) → is_some (value_of map name) ≡ knows_type types name

-- what is kept of the layout of a name's struct
abbrev pub struct_kept : (Name → Option (List Ty)) → (Name → Option Layout) → Name → Option Layout
struct_kept fields of_name name = option_and_then (capped_fields of_name) (fields name)

-- what is kept is what is kept of the names' layouts
abbrev pub ArePartlyKept : List NamedTy → (Name → Option Layout) → Type 0
ArePartlyKept types of_name =
    (name : Name) (layout : Layout) → of_name name ≡ Some layout → option_map capped (layout_of_name (found_in types) name) ≡ Some layout

-- and of each name that has one
abbrev pub AreKept : List NamedTy → (Name → Option Layout) → Type 0
AreKept types of_name = (name : Name) → of_name name ≡ option_map capped (layout_of_name (found_in types) name)

-- one name more is kept
pub record IsOneMore (fields : Name → Option (List Ty)) (old new : Name → Option Layout) (name : Name) : Type 0 where
  pub layout : Layout
  pub is_new : old name ≡ None
  pub is_struct : struct_kept fields old name ≡ Some layout
  pub is_put : (other : Name) → new other ≡ and_value name layout old other

-- the name is kept, or its struct's layout can't be yet
abbrev pub IsClosed : (Name → Option (List Ty)) → (Name → Option Layout) → Name → Type 0
IsClosed fields of_name name = of_name name ≡ None → struct_kept fields of_name name ≡ None

abbrev pub AreClosed : (Name → Option (List Ty)) → (Name → Option Layout) → List NamedTy → Type 0
AreClosed fields of_name types = AllByRecursion (λ t. IsClosed fields of_name t.name) types

abbrev pub one_where_none : Option Layout → ℕ
one_where_none None = 1
one_where_none (Some layout) = 0

-- how many of the types aren't kept
abbrev pub missing_of : (Name → Option Layout) → List NamedTy → ℕ
missing_of of_name [] = 0
missing_of of_name (t ∷ types) = one_where_none (of_name t.name) + missing_of of_name types

-- what is kept beside the types: the fields of each name, and of each layout of a name what is kept of it
abbrev pub AreBeside : List NamedTy → NameMap (Option (List Ty)) → NameMap Layout → Type 0
AreBeside types fields layouts =
    AreIndexed types fields × AreListed types fields × AreKept types (value_of layouts) × AlignsArePositive (value_of layouts)

-- ---- fields

abbrev pub offset_behind : Option Layout → ℕ → ℕ → (ℕ → ℕ → ℕ) → ℕ
offset_behind None from k further = 0
offset_behind (Some layout) from zero further = capped_size (round_up from layout.align)
offset_behind (Some layout) from (suc k) further = further (capped_size (round_up from layout.align + layout.size)) k

-- where a field begins, by what is kept
abbrev pub kept_offset : (Name → Option Layout) → ℕ → List Ty → ℕ → ℕ
kept_offset of_name from [] k = capped_size from
kept_offset of_name from (t ∷ ts) k = offset_behind (capped_by of_name t) from k (λ end rest. kept_offset of_name end ts rest)
