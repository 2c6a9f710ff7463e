-- What indices are, and the types that they enter, one inside the other.
use Rattle.std.specs.Prelude.{◌≡◌, ℕ, Bool, true, false, List, [], ◌∷◌, Option, None, Some}
use Rattle.std.specs.Option.{option_copied}
use Rattle.ir_core.specs.Types.{is_integer}
use Rattle.ir_core.specs.Typing.{Index, entered, led_to}
use Rattle.ir_types.specs.declared.named.NamedTy.{NamedTy}
use Rattle.ir_types.specs.declared.ty.Ty.{Ty}
use Rattle.module_grammar.specs.declared.constants.ConstText.{ConstText, out-ConstText}
use Rattle.module_grammar.specs.declared.constants.ConstText.TheOpen.{ConstText-F}
use Rattle.module_grammar.specs.declared.constants.ConstText.TheOpen as level
use Rattle.module_grammar.specs.declared.types.TypeText.{TypeText}
use Rattle.named_modules.specs.Types.{int_of, type_of}
use Rattle.fault_walk.specs.Told.{is_one_large, is_stepped_large}
use Rattle.fault_walk.specs.declared.constants.Path.{Path}

-- an index of this type, which may be a number
abbrev pub index_at : Ty → Option ℕ → Index
index_at t number = record { ty = t; number = number }

abbrev pub number_at_level : {X : Type 0} → ConstText-F X → Ty → Option ℕ
number_at_level (level.Int i) t = int_of t i
number_at_level other t = None

-- the number that a constant is at a type
abbrev pub number_at : ConstText → Ty → Option ℕ
number_at w t = number_at_level (out-ConstText w) t

abbrev pub const_index : TypeText × ConstText → Index
const_index p = index_at (type_of p.0) (number_at p.1 (type_of p.0))

-- ---- paths

abbrev pub has_first : List Index → Bool
has_first [] = false
has_first (i ∷ is) = true

-- the first index goes over many of the type, and is an integer
abbrev pub goes_over : List Index → Bool
goes_over [] = true
goes_over (i ∷ is) = is_integer i.ty

abbrev pub behind_first : List Index → List Index
behind_first [] = []
behind_first (i ∷ is) = is

-- where an index leads on, if those before it have led anywhere
abbrev pub entered_from : List NamedTy → Option Ty → Index → Option Ty
entered_from types None i = None
entered_from types (Some t) i = entered types t i

abbrev pub is_any_large : List NamedTy → Option Ty → Bool
is_any_large types None = false
is_any_large types (Some t) = is_one_large types t

-- Where these indices have led from a type on, and whether one of the types is large that they have entered.
pub record IsPath (types : List NamedTy) (of : Ty) (indices : List Index) (path : Path) : Type 0 where
  pub begun : path.begun ≡ has_first indices
  pub over : path.over ≡ goes_over indices
  pub led : option_copied path.led ≡ led_to types of (behind_first indices)
  pub large : path.large ≡ is_stepped_large types of indices
  pub clear : path.clear ≡ true → (all : List Index) → is_stepped_large types of all ≡ false
