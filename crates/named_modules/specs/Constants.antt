-- What constants and initialisers name (LangRef 3.7, Constants).
use Rattle.std.specs.Prelude.{◌≡◌, ℕ, ◌&&◌, ◌||◌, Bool, true, false, List, [], ◌∷◌, length, map, Option, None, Some, is_some}
use Rattle.std.specs.List.{list_all}
use Rattle.std.specs.Option.{option_map}
use Rattle.ir_core.specs.declared.modules.Init.{Init}
use Rattle.ir_core.specs.declared.modules.Init as init
use Rattle.ir_core.specs.declared.modules.Module.{Module}
use Rattle.ir_core.specs.declared.operands.Const.{Const}
use Rattle.ir_core.specs.declared.operands.Const as constant
use Rattle.ir_core.specs.Types.{is_first_class, is_pointer}
use Rattle.ir_core.specs.Typing.{Index, are_parts, contents_of, is_bytes, is_due, parts_of_array, parts_of_struct}
use Rattle.ir_types.specs.declared.names.Name.{Name}
use Rattle.ir_types.specs.declared.ty.Ty.{Ty, Ptr, out-Ty}
use Rattle.ir_types.specs.Same.{same_ty}
use Rattle.module_grammar.specs.declared.constants.ConstText.{ConstText, fold-ConstText, out-ConstText}
use Rattle.module_grammar.specs.declared.constants.ConstText.TheOpen.{ConstText-F}
use Rattle.module_grammar.specs.declared.constants.ConstText.TheOpen as level
use Rattle.module_grammar.specs.declared.constants.GlobalNameText.{GlobalNameText}
use Rattle.module_grammar.specs.declared.constants.GlobalNameText.TheVariants as global
use Rattle.module_grammar.specs.declared.constants.InitText.{InitText, fold-InitText}
use Rattle.module_grammar.specs.declared.constants.InitText.TheOpen.{InitText-F}
use Rattle.module_grammar.specs.declared.constants.InitText.TheOpen as held
use Rattle.module_grammar.specs.declared.places.Placed.{Placed}
use Rattle.module_grammar.specs.declared.types.TypeText.{TypeText}
use Rattle.named_modules.specs.Addresses.{address_type}
use Rattle.named_modules.specs.Types.{int_of, is_type, is_value_type, type_of}

abbrev pub global_name : GlobalNameText → Placed Name
global_name (global.Plain name) = name
global_name (global.Debug name) = name

-- what is due, or anything where nothing is
abbrev pub may_be : Option Ty → Ty → Bool
may_be None t = true
may_be (Some due) t = same_ty due t

-- ---- what constants are built as

abbrev pub built_part : TypeText × (Ty → Const) → Ty × Const
built_part p = (type_of p.0, p.1 (type_of p.0))

-- A number that is none of its type is built as `undef`, which is no number: `i32 4294967296` leads to no field of `{ i8, i8 }`.
abbrev pub number_or_undef : Option ℕ → Const
number_or_undef None = constant.Undef
number_or_undef (Some n) = constant.Number n

abbrev pub const_at_level : ConstText-F (Ty → Const) → Ty → Const
const_at_level (level.Int i) t = number_or_undef (int_of t i)
const_at_level (level.Null at) t = constant.Null
const_at_level level.Undef t = constant.Undef
const_at_level (level.Global g) t = constant.Global (global_name g).what
const_at_level (level.Element at inbounds (of, base_ty, base, indices)) t =
    constant.Element (inbounds, type_of of, map built_part ((base_ty, base) ∷ indices))
const_at_level (level.Cast at (from, c, target)) t = constant.Cast (type_of target, built_part (from, c) ∷ [])

-- the constant at the type that is stated for it: `-1` at i8 is the number 255
abbrev pub const_of : ConstText → Ty → Const
const_of = fold-ConstText (Ty → Const) const_at_level

-- ---- which types constants are of

-- whether a constant is of a type that is stated for it, and its number there, if it is one
pub record Judged : Type 0 where
  pub number : Ty → Option ℕ
  pub fits : Ty → Bool

abbrev pub no_number : Ty → Option ℕ
no_number t = None

abbrev pub part_fits : Module → TypeText × Judged → Bool
part_fits m p = is_value_type m p.0 && p.1.fits (type_of p.0)

abbrev pub index_part : TypeText × Judged → Index
index_part p = record { ty = type_of p.0; number = p.1.number (type_of p.0) }

-- A number is one of its type, `null` a pointer, `undef` any value, the name of a global a pointer to what it holds; a function's name is no
-- value. An address is of the type to which its indices lead, or without index of its base's; where they lead nowhere it has none, and none
-- that is stated is wrong. A `bitcast` is of the type behind its `to`.
abbrev pub judged_at_level : Module → ConstText-F Judged → Judged
judged_at_level m (level.Int i) = record { number = λ t. int_of t i; fits = λ t. is_some (int_of t i) }
judged_at_level m (level.Null at) = record { number = no_number; fits = is_pointer }
judged_at_level m level.Undef = record { number = no_number; fits = is_first_class }
judged_at_level m (level.Global g) =
    record { number = no_number; fits = is_due (option_map Ptr (contents_of m.globals (global_name g).what)) }
judged_at_level m (level.Element at inbounds (of, base_ty, base, indices)) = record {
  number = no_number;
  fits = λ t.
      is_type m of && list_all (part_fits m) ((base_ty, base) ∷ indices)
      && may_be (address_type m.types (type_of base_ty) (type_of of) (map index_part indices)) t;
}
judged_at_level m (level.Cast at (from, c, target)) = record {
  number = no_number;
  fits = λ t. part_fits m (from, c) && is_type m target && same_ty (type_of target) t;
}

abbrev pub judged : Module → ConstText → Judged
judged m = fold-ConstText Judged (judged_at_level m)

abbrev pub const_fits : Module → ConstText → Ty → Bool
const_fits m w t = (judged m w).fits t

-- `-1` at i8 names the number 255; `300` at i8 names none.
abbrev pub IsConst : Module → Ty → ConstText → Const → Type 0
IsConst m t w c = (c ≡ const_of w t) × (const_fits m w t ≡ true)

-- ---- initialisers

abbrev pub built_init_part : TypeText × (Ty → Init) → Ty × Init
built_init_part p = (type_of p.0, p.1 (type_of p.0))

abbrev pub init_at_level : InitText-F (Ty → Init) → Ty → Init
init_at_level (held.Const c) t = init.Const (const_of c t)
init_at_level held.Zero t = init.Zero
init_at_level (held.Bytes bytes) t = init.Bytes bytes.what
init_at_level (held.Array at parts) t = init.Array (map built_init_part parts)
init_at_level (held.Struct at parts) t = init.Struct (map built_init_part parts)

abbrev pub init_of : InitText → Ty → Init
init_of = fold-InitText (Ty → Init) init_at_level

abbrev pub is_undef_at_level : {X : Type 0} → ConstText-F X → Bool
is_undef_at_level level.Undef = true
is_undef_at_level other = false

abbrev pub is_undef : ConstText → Bool
is_undef w = is_undef_at_level (out-ConstText w)

-- `T INIT`
abbrev pub fitting_part : TypeText × (Ty → Bool) → Ty × (Ty → Bool)
fitting_part p = (type_of p.0, p.1)

abbrev pub are_types : Module → List (TypeText × (Ty → Bool)) → Bool
are_types m parts = list_all (λ p. is_type m p.0) parts

-- `undef` and `zeroinitializer` are of each type, bytes an array of as many i8, a list an array of as many elements of their type, or a struct
-- whose fields' types they state, also of a named one.
abbrev pub fits_at_level : Module → InitText-F (Ty → Bool) → Ty → Bool
fits_at_level m (held.Const c) t = is_undef c || const_fits m c t
fits_at_level m held.Zero t = true
fits_at_level m (held.Bytes bytes) t = is_bytes (length bytes.what) (out-Ty t)
fits_at_level m (held.Array at parts) t =
    are_types m parts && are_parts (parts_of_array m.types (out-Ty t) (length parts)) (map fitting_part parts)
fits_at_level m (held.Struct at parts) t = are_types m parts && are_parts (parts_of_struct m.types (out-Ty t)) (map fitting_part parts)

abbrev pub init_fits : Module → InitText → Ty → Bool
init_fits m = fold-InitText (Ty → Bool) (fits_at_level m)

-- `[i8 1, i8 -1]` at `[2 x i8]` names the array of 1 and 255.
abbrev pub IsInit : Module → Ty → InitText → Init → Type 0
IsInit m t w i = (i ≡ init_of w t) × (init_fits m w t ≡ true)
