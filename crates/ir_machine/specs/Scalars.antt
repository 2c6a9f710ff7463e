-- The scalars of a type, each at its offset, and the bytes that values of them make: what a global holds at the start of a run.
use Rattle.std.specs.Prelude.{◌+◌, ◌-◌, ℕ, zero, suc, Bool, ◌&&◌, cond, nat_le, nat_lt, List, [], ◌∷◌, ◌++◌, map, Option, None, Some}
use Rattle.std.specs.List.{flat_map, range_with_len, zip}
use Rattle.std.specs.Option.{option_map}
use Rattle.ir_types.specs.declared.layout.Layout.{Layout}
use Rattle.ir_types.specs.declared.named.NamedTy.{NamedTy}
use Rattle.ir_types.specs.declared.names.Name.{Name}
use Rattle.ir_types.specs.declared.ty.Ty.{Ty, Int, Struct, fold-Ty}
use Rattle.ir_types.specs.declared.ty.Ty.TheOpen.{Ty-F}
use Rattle.ir_types.specs.declared.ty.Ty.TheOpen as ty
use Rattle.ir_types.specs.Same.{same_name}
use Rattle.ir_types.specs.Layout.{all_of, of_array, of_int, of_ptr, of_struct, round_up}
use Rattle.ir_types.specs.Named.{Found, align_in, fields_of, fields_or_none, found_in, is_sized, size_in, size_of}
use Rattle.ir_core.specs.declared.operands.Const.{Const}
use Rattle.ir_core.specs.declared.operands.Const.TheVariants as constant
use Rattle.ir_core.specs.declared.modules.Init.{Init, fold-Init}
use Rattle.ir_core.specs.declared.modules.Init.TheOpen.{Init-F}
use Rattle.ir_core.specs.declared.modules.Init.TheOpen as init
use Rattle.ir_core.specs.declared.values.Byte.{Byte}
use Rattle.ir_core.specs.declared.values.Byte.TheVariants.{Undef}
use Rattle.ir_core.specs.declared.values.Kind.{Kind}
use Rattle.ir_core.specs.declared.values.Kind.TheVariants as kind
use Rattle.ir_core.specs.declared.values.Value.{Value}
use Rattle.ir_core.specs.declared.values.Value.TheVariants as value
use Rattle.ir_core.specs.Types.{kind_of}
use Rattle.ir_values.specs.Constants.{Scope, constant_value}
use Rattle.block_memory.specs.Bytes.{byte_at, byte_count}
use Rattle.ir_machine.specs.declared.scalars.Scalar.{Scalar}

-- ---- the scalars of a type

-- a part of a type: its layout, where it has one, and its scalars
pub record Part : Type 0 where
  pub layout : Option Layout
  pub scalars : List Scalar

abbrev pub no_part : Part
no_part = record { layout = None; scalars = [] }

-- behind so many bytes more
abbrev pub behind : ℕ → List Scalar → List Scalar
behind by scalars = map (λ (s : Scalar). record s { at = by + s.at }) scalars

-- of so many elements of that size, from an offset on
abbrev pub in_array : ℕ → ℕ → ℕ → List Scalar → List Scalar
in_array zero from size scalars = []
in_array (suc count) from size scalars = behind from scalars ++ in_array count (from + size) size scalars

-- of fields that begin at an offset or behind it, each at a multiple of its alignment
abbrev pub in_struct : ℕ → List Part → List Scalar
in_struct from [] = []
in_struct from (p ∷ parts) =
    let at : ℕ = round_up from (align_in p.layout) in behind at p.scalars ++ in_struct (at + size_in p.layout) parts

-- a type that has a kind is one scalar
abbrev pub alone : Option Kind → List Scalar
alone None = []
alone (Some k) = record { at = 0; kind = k } ∷ []

-- One level of a type, with what is told of each part in its place; `of_name` tells of named types.
abbrev pub part_level : (Name → Part) → Ty-F Part → Part
part_level of_name (ty.Int width) = record { layout = Some (of_int width); scalars = alone (kind_of (Int width)) }
part_level of_name (ty.Ptr target) = record { layout = Some of_ptr; scalars = alone (Some kind.Ptr) }
part_level of_name (ty.Array count element) =
    record { layout = option_map (of_array count) element.layout; scalars = in_array count 0 (size_in element.layout) element.scalars }
part_level of_name (ty.Struct fields) =
    record { layout = option_map of_struct (all_of (map (λ (p : Part). p.layout) fields)); scalars = in_struct 0 fields }
part_level of_name (ty.Named x) = of_name x
part_level of_name ty.Void = no_part

abbrev pub part_by : (Name → Part) → Ty → Part
part_by of_name = fold-Ty Part (part_level of_name)

-- of a name, by those that were found before it, as its layout is
abbrev pub part_of_name : List NamedTy → Found → Name → Part
part_of_name types [] x = no_part
part_of_name types (entry ∷ found) x =
    cond (same_name entry.0 x) (part_by (part_of_name types found) (Struct (fields_or_none (fields_of types x)))) (part_of_name types found x)

abbrev pub part_at : List NamedTy → Ty → Part
part_at types = part_by (part_of_name types (found_in types))

-- THE scalars of a type, in their order: a type without a layout has none
abbrev pub scalars_of : List NamedTy → Ty → List Scalar
scalars_of types t = cond (is_sized types t) (part_at types t).scalars []

-- ---- the values of an initialiser

abbrev pub zero_of : Kind → Value
zero_of (kind.Int width) = value.Num 0
zero_of kind.Ptr = value.Bare 0

-- undef may be of any type
abbrev pub held_value : Scope → Ty → Const → Value
held_value scope t constant.Undef = value.Undef
held_value scope t c = constant_value scope t c

-- One level of an initialiser at a type, which gives each scalar of the type its value: of a constant the constant's, of `zeroinitializer`
-- zero, and of parts those that they give to the scalars of their types.
abbrev pub values_level : Scope → Init-F (Ty → List Value) → Ty → List Value
values_level scope (init.Const c) t = map (λ (s : Scalar). held_value scope t c) (scalars_of scope.types t)
values_level scope init.Zero t = map (λ (s : Scalar). zero_of s.kind) (scalars_of scope.types t)
values_level scope (init.Bytes bytes) t = map value.Num bytes
values_level scope (init.Array parts) t = flat_map (λ (p : Ty × (Ty → List Value)). p.1 p.0) parts
values_level scope (init.Struct parts) t = flat_map (λ (p : Ty × (Ty → List Value)). p.1 p.0) parts

abbrev pub values_of : Scope → Init → Ty → List Value
values_of scope = fold-Init (Ty → List Value) (values_level scope)

-- ---- their bytes

abbrev pub is_in : ℕ → Scalar → Bool
is_in place s = nat_le s.at place && nat_lt place (s.at + byte_count s.kind)

-- The byte at a place is that of the value whose scalar it lies in. Between and behind them it is undef.
abbrev pub byte_among : List (Scalar × Value) → ℕ → Byte
byte_among [] place = Undef
byte_among (held ∷ rest) place = cond (is_in place held.0) (byte_at held.1 (place - held.0.at)) (byte_among rest place)

-- THE bytes of a value of a type, as an initialiser tells it
abbrev pub initial_bytes : Scope → Ty → Init → List Byte
initial_bytes scope t i = map (byte_among (zip (scalars_of scope.types t) (values_of scope i t))) (range_with_len 0 (size_of scope.types t))
