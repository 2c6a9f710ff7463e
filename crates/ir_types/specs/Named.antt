-- The layout of types beside the types that a module names.
--
-- A type has a layout where those of the names in it, outside of pointers, can be found one after the other, each from those
-- before it. So a type has none that holds itself without a pointer, nor one that holds an opaque type or `void`.
use Rattle.std.specs.Prelude.{◌≡◌, ◌*◌, ℕ, zero, suc, Bool, cond, nat_le, List, [], ◌∷◌, map, length, Option, None, Some, Result, Ok, Err}
use Rattle.std.specs.List.{list_any}
use Rattle.std.specs.Option.{option_and_then, is_some}
use Rattle.ir_types.specs.declared.layout.Layout.{Layout}
use Rattle.ir_types.specs.declared.named.NamedTy.{NamedTy}
use Rattle.ir_types.specs.declared.names.Name.{Name}
use Rattle.ir_types.specs.declared.sizes.SizeFault.{SizeFault}
use Rattle.ir_types.specs.declared.sizes.SizeFault.TheVariants.{Unsized, TooLarge}
use Rattle.ir_types.specs.declared.ty.Ty.{Ty, Struct, out-Ty}
use Rattle.ir_types.specs.declared.ty.Ty.TheOpen.{Ty-F}
use Rattle.ir_types.specs.declared.ty.Ty.TheOpen as ty
use Rattle.ir_types.specs.Same.{same_name}
use Rattle.ir_types.specs.Layout.{all_of, layout_by, offset_from}

-- the fields of the first type of that name: none where it is opaque, and where there is none
abbrev pub fields_of : List NamedTy → Name → Option (List Ty)
fields_of [] x = None
fields_of (t ∷ types) x = cond (same_name t.name x) t.fields (fields_of types x)

-- the module names the type, opaque or not
abbrev pub knows_type : List NamedTy → Name → Bool
knows_type types x = list_any (λ (t : NamedTy). same_name t.name x) types

-- names with their layouts
abbrev pub Found : Type 0
Found = List (Name × Layout)

abbrev pub layout_of_name : Found → Name → Option Layout
layout_of_name [] x = None
layout_of_name (entry ∷ found) x = cond (same_name entry.0 x) (Some entry.1) (layout_of_name found x)

-- The name is found next, after these: it is a new one, of a struct that has this layout by theirs.
pub record IsNext (types : List NamedTy) (found : Found) (x : Name) (layout : Layout) : Type 0 where
  pub fields : List Ty
  pub is_new : layout_of_name found x ≡ None
  pub is_struct : fields_of types x ≡ Some fields
  pub by_found : layout_by (layout_of_name found) (Struct fields) ≡ Some layout

-- these names are found one after the other, the last one first
abbrev pub AreFound : List NamedTy → Found → Type 0
AreFound types [] = Unit {0}
AreFound types (entry ∷ found) = IsNext types found entry.0 entry.1 × AreFound types found

-- the type lies in memory so
abbrev pub HasLayout : List NamedTy → Ty → Layout → Type 0
HasLayout types t layout = (found : Found) × AreFound types found × (layout_by (layout_of_name found) t ≡ Some layout)

-- ---- the layout, computed

-- the layout of a name, by those that are found
abbrev pub layout_of_struct : List NamedTy → Found → Name → Option Layout
layout_of_struct types found x = option_and_then (λ fields. layout_by (layout_of_name found) (Struct fields)) (fields_of types x)

-- one name more, where it isn't found and its layout can be
abbrev pub and_name : Name → Found → Option Layout → Option Layout → Found
and_name x found (Some layout) by_fields = found
and_name x found None (Some layout) = (x, layout) ∷ found
and_name x found None None = found

abbrev pub with_name : List NamedTy → Found → Name → Found
with_name types found x = and_name x found (layout_of_name found x) (layout_of_struct types found x)

-- each name of the list in turn
abbrev pub with_names : List NamedTy → List NamedTy → Found → Found
with_names types [] found = found
with_names types (t ∷ ts) found = with_names types ts (with_name types found t.name)

-- the list gone through so often
abbrev pub with_rounds : ℕ → List NamedTy → Found → Found
with_rounds zero types found = found
with_rounds (suc n) types found = with_rounds n types (with_names types types found)

-- A round that finds none is the last that could, so there are at most as many as there are names.
abbrev pub found_in : List NamedTy → Found
found_in types = with_rounds (length types) types []

abbrev pub layout_of : List NamedTy → Ty → Option Layout
layout_of types t = layout_by (layout_of_name (found_in types)) t

-- the type has a layout
abbrev pub is_sized : List NamedTy → Ty → Bool
is_sized types t = is_some (layout_of types t)

abbrev pub size_in : Option Layout → ℕ
size_in (Some layout) = layout.size
size_in None = 0

abbrev pub align_in : Option Layout → ℕ
align_in (Some layout) = layout.align
align_in None = 1

-- Size and alignment of a type that has a layout; of another one they say nothing.
abbrev pub size_of : List NamedTy → Ty → ℕ
size_of types t = size_in (layout_of types t)

abbrev pub align_of : List NamedTy → Ty → ℕ
align_of types t = align_in (layout_of types t)

-- ---- blocks

-- The bytes of so many of the type, one after the other: 2^31 at most.
abbrev pub block_in : Option Layout → ℕ → Result ℕ SizeFault
block_in None count = Err Unsized
block_in (Some layout) count = cond (nat_le (layout.size * count) 2147483648) (Ok (layout.size * count)) (Err TooLarge)

abbrev pub block_of : List NamedTy → Ty → ℕ → Result ℕ SizeFault
block_of types t count = block_in (layout_of types t) count

-- ---- fields

abbrev pub fields_or_none : Option (List Ty) → List Ty
fields_or_none None = []
fields_or_none (Some fields) = fields

abbrev pub fields_at_level : List NamedTy → Ty-F Ty → List Ty
fields_at_level types (ty.Struct fields) = fields
fields_at_level types (ty.Named x) = fields_or_none (fields_of types x)
fields_at_level types level = []

-- the fields of a struct, or of a named one
abbrev pub fields_in : List NamedTy → Ty → List Ty
fields_in types t = fields_at_level types (out-Ty t)

abbrev pub offset_in : Option (List Layout) → ℕ → ℕ
offset_in (Some fields) k = offset_from 0 fields k
offset_in None k = 0

-- where the field of that number begins
abbrev pub field_offset : List NamedTy → Ty → ℕ → ℕ
field_offset types t k = offset_in (all_of (map (layout_of types) (fields_in types t))) k
