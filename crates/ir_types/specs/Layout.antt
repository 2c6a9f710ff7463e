-- How types lie in memory: the layout of this project's data layout (LangRef 3.7, Data Layout). A pointer takes 8 bytes; an
-- integer its bytes, rounded up to a power of two, and lies at multiples of that; arrays have no gaps; the fields of a struct
-- lie one after the other, each at a multiple of its alignment, and its size is rounded up to its own.
use Rattle.std.specs.Prelude.{ℕ, ◌+◌, ◌-◌, ◌*◌, ◌/◌, max, cond, nat_le, zero, suc, List, [], ◌∷◌, Option, None, Some}
use Rattle.std.specs.Option.{option_map}
use Rattle.ir_types.specs.declared.layout.Layout.{Layout}
use Rattle.ir_types.specs.declared.names.Name.{Name}
use Rattle.ir_types.specs.declared.ty.Ty.{Ty, fold-Ty}
use Rattle.ir_types.specs.declared.ty.Ty.TheOpen.{Ty-F}
use Rattle.ir_types.specs.declared.ty.Ty.TheOpen as ty

-- the least multiple of `align` that is `n` or more
abbrev pub round_up : ℕ → ℕ → ℕ
round_up n align = (n + (align - 1)) / align * align

-- `p`, doubled as often as it takes to reach `n`, but so often at most
abbrev pub doubled : ℕ → ℕ → ℕ → ℕ
doubled zero p n = p
doubled (suc often) p n = cond (nat_le n p) p (doubled often (p + p) n)

-- the least power of two that is `n` or more
abbrev pub power_from : ℕ → ℕ
power_from n = doubled n 1 n

-- `i17` has 3 bytes, which lie in 4.
abbrev pub of_int : ℕ → Layout
of_int width = let bytes : ℕ = (width + 7) / 8 in record { size = power_from bytes; align = power_from bytes }

abbrev pub of_ptr : Layout
of_ptr = record { size = 8; align = 8 }

abbrev pub of_array : ℕ → Layout → Layout
of_array count element = record { size = count * element.size; align = element.align }

-- where fields end that begin at `from` or behind it
abbrev pub end_of : ℕ → List Layout → ℕ
end_of from [] = from
end_of from (field ∷ fields) = end_of (round_up from field.align + field.size) fields

-- the greatest alignment of fields, and at least this one
abbrev pub align_from : ℕ → List Layout → ℕ
align_from least [] = least
align_from least (field ∷ fields) = align_from (max least field.align) fields

-- a struct of such fields behind others that end at `from` and want the alignment `least`
abbrev pub struct_from : ℕ → ℕ → List Layout → Layout
struct_from from least fields =
    record { size = round_up (end_of from fields) (align_from least fields); align = align_from least fields }

abbrev pub of_struct : List Layout → Layout
of_struct fields = struct_from 0 1 fields

-- where the field of that number begins, in fields that begin at `from` or behind it
abbrev pub offset_from : ℕ → List Layout → ℕ → ℕ
offset_from from [] k = from
offset_from from (field ∷ fields) zero = round_up from field.align
offset_from from (field ∷ fields) (suc k) = offset_from (round_up from field.align + field.size) fields k

-- all of them, where each is there
abbrev pub all_of : {A : Type 0} → List (Option A) → Option (List A)
all_of [] = Some []
all_of (None ∷ xs) = None
all_of (Some x ∷ xs) = option_map (λ rest. x ∷ rest) (all_of xs)

-- One level of a type, with the layout of each part in its place; `of_name` are the layouts of named types. There is none of
-- `void`, and none where a part has none; what a pointer points to need have none.
abbrev pub layout_level : (Name → Option Layout) → Ty-F (Option Layout) → Option Layout
layout_level of_name (ty.Int width) = Some (of_int width)
layout_level of_name (ty.Ptr target) = Some of_ptr
layout_level of_name (ty.Array count element) = option_map (of_array count) element
layout_level of_name (ty.Struct fields) = option_map of_struct (all_of fields)
layout_level of_name (ty.Named x) = of_name x
layout_level of_name ty.Void = None

abbrev pub layout_by : (Name → Option Layout) → Ty → Option Layout
layout_by of_name = fold-Ty (Option Layout) (layout_level of_name)
