-- Words of private functions: constants behind their types, as they stand.
use Rattle.std.specs.Prelude.{◌&&◌, Bool, false, List, [], ◌∷◌, map}
use Rattle.std.specs.List.{list_all}
use Rattle.ir_types.specs.declared.named.NamedTy.{NamedTy}
use Rattle.ir_types.specs.declared.ty.Ty.{Ty, Ptr}
use Rattle.ir_types.specs.Named.{is_sized}
use Rattle.ir_types.specs.Same.{same_ty}
use Rattle.ir_core.specs.declared.operands.CastOp.TheVariants as conversion
use Rattle.ir_core.specs.declared.operands.Const.{Const, fold-Const}
use Rattle.ir_core.specs.declared.operands.Const.TheOpen.{Const-F}
use Rattle.ir_core.specs.declared.operands.Const.TheOpen as part
use Rattle.ir_core.specs.declared.values.Value.{Value}
use Rattle.ir_core.specs.declared.values.Value.TheVariants.{Undef, Poison}
use Rattle.ir_core.specs.Types.{converts}
use Rattle.ir_core.specs.Typing.{element_type, is_due}
use Rattle.ir_typing.specs.OperandTests.Addresses.{index_told}
use Rattle.ir_values.specs.Addresses.{GivenIndex}
use Rattle.ir_values.specs.Constants.{Part, Scope, is_of_type, number_value, width_of}

-- ---- types

-- each is of the type that is stated for it
abbrev pub are_of_types : Scope → List (Ty × Const) → Bool
are_of_types scope = list_all (λ c. is_of_type scope c.0 c.1)

-- the address of a part, from that of the base
abbrev pub leads_to : List NamedTy → Ty → List (Ty × Const) → Ty → Bool
leads_to types of [] t = false
leads_to types of (base ∷ indices) t = same_ty base.0 (Ptr of) && is_sized types of && is_due (element_type types of (map index_told indices)) t

-- one operand, of a type from which `bitcast` leads to the first of these types, which are the same
abbrev pub is_recast : Ty → List (Ty × Const) → Ty → Bool
is_recast to (from ∷ []) t = converts conversion.BitCast from.0 to && same_ty to t
is_recast to others t = false

-- ---- values

-- `bitcast` from an integer type leads to the same one
abbrev pub only_part : List Part → Ty → Value
only_part (p ∷ []) t = p.1 t
only_part parts t = Poison

abbrev pub number_at_level : Const-F (Ty → Value) → Ty → Value
number_at_level (part.Number n) t = number_value n t
number_at_level part.Undef t = Undef
number_at_level (part.Cast c) t = only_part c.1 t
number_at_level other t = Poison

-- what a constant of an integer type is worth, beside whatever module
abbrev pub number_worth : Const → Ty → Value
number_worth c = fold-Const (Ty → Value) number_at_level c

abbrev pub told_part : Ty × Const → GivenIndex
told_part c = (width_of c.0, number_worth c.1 c.0)
