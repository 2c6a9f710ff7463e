-- What types name (LangRef 3.7, Type System), and numbers at types.
use Rattle.std.specs.Prelude.{ℕ, ◌-◌, ◌^◌, ◌%◌, ◌&&◌, ◌||◌, Bool, true, not, cond, Option, None, Some, nat_eq, nat_le, nat_lt}
use Rattle.std.specs.List.{list_all}
use Rattle.ir_core.specs.declared.modules.Module.{Module}
use Rattle.ir_core.specs.TypeNames.{names_in_type, type_names}
use Rattle.ir_core.specs.Types.{is_first_class, is_width}
use Rattle.ir_lexer.specs.declared.token.Number.{Number}
use Rattle.ir_types.specs.declared.ty.Ty.{Ty, out-Ty}
use Rattle.ir_types.specs.declared.ty.Ty as ty
use Rattle.ir_types.specs.declared.ty.Ty.TheOpen.{Ty-F}
use Rattle.ir_types.specs.declared.ty.Ty.TheOpen as layer
use Rattle.ir_core.specs.NameIndexes.Among.{is_among}
use Rattle.module_grammar.specs.declared.constants.IntText.{IntText}
use Rattle.module_grammar.specs.declared.constants.IntText.TheVariants as int
use Rattle.module_grammar.specs.declared.types.TypeText.{TypeText, fold-TypeText}
use Rattle.module_grammar.specs.declared.types.TypeText.TheOpen.{TypeText-F}
use Rattle.module_grammar.specs.declared.types.TypeText.TheOpen as level

-- ---- types

-- a count is a number from 0 to 2^64 - 1, `-0` too
abbrev pub is_count : Number → Bool
is_count n = nat_lt n.magnitude (2 ^ 64) && (not n.negative || nat_eq n.magnitude 0)

-- a count that no type has is built as 0: the one of `[-1 x i8]`
abbrev pub count_built : Number → ℕ
count_built n = cond (is_count n) n.magnitude 0

abbrev pub type_at_level : TypeText-F Ty → Ty
type_at_level (level.Int width) = ty.Int width.what
type_at_level (level.Named name) = ty.Named name.what
type_at_level (level.Ptr at target) = ty.Ptr target
type_at_level (level.Array at (count, element)) = ty.Array (count_built count.what) element
type_at_level (level.Struct at fields) = ty.Struct fields

-- the type that is written: `[4 x %pair*]`
abbrev pub type_of : TypeText → Ty
type_of = fold-TypeText Ty type_at_level

abbrev pub counted_at_level : TypeText-F Bool → Bool
counted_at_level (level.Int width) = true
counted_at_level (level.Named name) = true
counted_at_level (level.Ptr at target) = target
counted_at_level (level.Array at (count, element)) = is_count count.what && element
counted_at_level (level.Struct at fields) = list_all (λ field. field) fields

-- each count that stands in it is one
abbrev pub is_counted : TypeText → Bool
is_counted = fold-TypeText Bool counted_at_level

-- The types that it names are the module's, and its counts are counts.
abbrev pub is_type : Module → TypeText → Bool
is_type m w = list_all (λ name. is_among name (type_names m)) (names_in_type (type_of w)) && is_counted w

-- a type of values: an integer or a pointer
abbrev pub is_value_type : Module → TypeText → Bool
is_value_type m w = is_type m w && is_first_class (type_of w)

-- ---- numbers

-- the number behind a `-`
abbrev pub kept_negative : ℕ → ℕ → Option ℕ
kept_negative width magnitude = cond (nat_le magnitude (2 ^ (width - 1))) (Some ((2 ^ width - magnitude) % 2 ^ width)) None

abbrev pub kept_positive : ℕ → ℕ → Option ℕ
kept_positive width magnitude = cond (nat_lt magnitude (2 ^ width)) (Some magnitude) None

-- A number of iN lies from -2^(N-1) to 2^N - 1, and is kept modulo 2^N: -1 of i8 as 255, -1 of i1 as 1. 300 and -129 are none of i8,
-- 2 is none of i1.
abbrev pub kept : ℕ → Number → Option ℕ
kept width n = cond n.negative (kept_negative width n.magnitude) (kept_positive width n.magnitude)

-- `true` and `false` are the 1 and the 0 of i1, and are numbers of no other type.
abbrev pub truth : ℕ → Bool → Option ℕ
truth width b = cond (nat_eq width 1) (Some (cond b 1 0)) None

abbrev pub int_of_width : ℕ → IntText → Option ℕ
int_of_width width (int.Number n) = kept width n.what
int_of_width width (int.Truth b) = truth width b.what

abbrev pub int_at_level : Ty-F Ty → IntText → Option ℕ
int_at_level (layer.Int width) i = cond (is_width width) (int_of_width width i) None
int_at_level other i = None

-- the number that is written, if it is one of the type: only integers have numbers
abbrev pub int_of : Ty → IntText → Option ℕ
int_of t i = int_at_level (out-Ty t) i
