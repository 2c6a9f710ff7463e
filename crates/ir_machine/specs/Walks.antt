-- How the code walks a type, an initialiser and bytes, and what it finds by its name.
use Rattle.std.specs.Prelude.{◌≡◌, ◌+◌, ◌-◌, ℕ, Bool, true, cond, List, [], ◌∷◌, ◌++◌, map, Option, None, Some}
use Rattle.std.specs.List.{flat_map}
use Rattle.std.specs.Map.{lookup}
use Rattle.ir_types.specs.declared.named.NamedTy.{NamedTy}
use Rattle.ir_types.specs.declared.names.Name.{Name}
use Rattle.ir_types.specs.declared.ty.Ty.{Ty}
use Rattle.ir_types.specs.Named.{size_of}
use Rattle.ir_types.specs.Same.{same_name}
use Rattle.ir_core.specs.declared.modules.GlobalVar.{GlobalVar}
use Rattle.ir_core.specs.declared.modules.Init.{Init}
use Rattle.ir_core.specs.declared.values.Byte.{Byte}
use Rattle.ir_core.specs.declared.values.Value.{Value}
use Rattle.ir_values.specs.Constants.{Scope}
use Rattle.ir_values.specs.Values.{HasWidth}
use Rattle.block_memory.specs.declared.items.ShownByte.{ShownByte}
use Rattle.block_memory.specs.Bytes.{byte_at}
use Rattle.block_memory.specs.Memory.{Cell}
use Rattle.ir_machine.specs.declared.inputs.External.{External}
use Rattle.ir_machine.specs.declared.inputs.InputBlock.{InputBlock}
use Rattle.ir_machine.specs.declared.scalars.Scalar.{Scalar}
use Rattle.ir_machine.specs.declared.scalars.Stretch.{Stretch}
use Rattle.ir_machine.specs.declared.scalars.Stretch.TheVariants.{Elements, Fields}
use Rattle.ir_machine.specs.Scalars.{behind, in_array, in_struct, is_in, part_at, values_of}

-- ---- types

abbrev pub elements_in : List NamedTy → ℕ → Ty → ℕ → List Scalar
elements_in types at t count = in_array count at (size_of types t) (part_at types t).scalars

abbrev pub fields_in : List NamedTy → ℕ → ℕ → List Ty → List Scalar
fields_in types at from fields = behind at (in_struct from (map (part_at types) fields))

abbrev pub one_in : List NamedTy → Stretch → List Scalar
one_in types (Elements at t count) = elements_in types at t.now count
one_in types (Fields at from fields) = fields_in types at from fields.now

-- the last is walked first
abbrev pub all_in : List NamedTy → List Stretch → List Scalar
all_in types [] = []
all_in types (s ∷ left) = all_in types left ++ one_in types s

abbrev pub IsWide : Scalar → Type 0
IsWide s = HasWidth s.kind

-- ---- initialisers

abbrev pub values_in : Scope → List (Ty × Init) → List Value
values_in scope parts = flat_map (λ p. values_of scope p.1 p.0) parts

-- ---- bytes

abbrev pub byte_over : Scalar × Value → ℕ → Byte → Byte
byte_over held place old = cond (is_in place held.0) (byte_at held.1 (place - held.0.at)) old

-- bytes, of which the first stands at a place, with those of a scalar over them
abbrev pub overlaid : Scalar × Value → ℕ → List Byte → List Byte
overlaid held place [] = []
overlaid held place (b ∷ bytes) = byte_over held place b ∷ overlaid held (place + 1) bytes

-- a block of the input, by what its bytes are
abbrev pub cell_given : (ShownByte → Byte) → InputBlock → Cell
cell_given byte b = record { align = b.align; live = true; bytes = map byte b.bytes }

-- ---- what is found by its name

abbrev pub global_name : GlobalVar → Name
global_name g = g.name

abbrev pub external_name : External → Name
external_name e = e.name

abbrev pub is_named : {A : Type 0} → (A → Name) → Name → A → Bool
is_named name x a = same_name (name a) x

-- where the first of that name stands, in a list whose first stands at a place
abbrev pub first_place : {A : Type 0} → (A → Name) → Name → ℕ → List A → Option ℕ
first_place name x at [] = None
first_place name x at (a ∷ more) = cond (is_named name x a) (Some at) (first_place name x (at + 1) more)

-- each name has the place of its first, where there is one
abbrev pub AreFirstFrom : {A : Type 0} → (A → Name) → ℕ → List A → List (Name × ℕ) → Type 0
AreFirstFrom name at xs places = (x : Name) → lookup (same_name x) places ≡ first_place name x at xs

abbrev pub AreFirst : {A : Type 0} → (A → Name) → List A → List (Name × ℕ) → Type 0
AreFirst name xs places = AreFirstFrom name 0 xs places
