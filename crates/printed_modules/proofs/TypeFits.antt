-- Types and constants that are in range, known and of values can be written.
use Rattle.std.proofs.Common.{◌≡◌, ◌∙◌, true}
use Rattle.ir_core.specs.declared.modules.Module.{Module}
use Rattle.ir_core.specs.declared.operands.Atom.TheVariants.{Constant}
use Rattle.ir_core.specs.declared.operands.Const.{Const}
use Rattle.ir_core.specs.declared.operands.Const.TheVariants as constant
use Rattle.ir_core.specs.Ranges.{IsAtomInRange, IsResultInRange, IsTypeInRange, constant_written, is_written}
use Rattle.ir_core.specs.Types.{is_first_class}
use Rattle.ir_core.specs.WellFormed.{IsNamedResult, IsResult, IsTypeKnown}
use Rattle.ir_core.proofs.Ranges as ranges
use Rattle.ir_types.specs.declared.names.Name.{Name}
use Rattle.ir_types.specs.declared.ty.Ty.{Ty}
use Rattle.ir_types.specs.declared.ty.Ty.TheVariants as ty
use Rattle.std.specs.Prelude.{Option}
use Rattle.printed_modules.proofs.Fit.{FitsResult, FitsType, FitsValueType}

pub written_in_range : (t : Ty) → IsTypeInRange t → is_written t ≡ true
written_in_range (ty.Int width) is = ranges.at_int width ∙ is
written_in_range t is = is

pub constant_in_range : (t : Ty) (c : Const) → IsAtomInRange {R = Name} t (Constant c) → constant_written t c ≡ true
constant_in_range t (constant.Number n) is = ranges.of_number t n ∙ is
constant_in_range t c is = is

-- a result that is named is one
pub named_result : (t : Ty) (name : Option Name) → IsNamedResult t name → IsResult t
named_result ty.Void name is = tt
named_result t name is = is.0

module _ (m : Module) where
  pub fits_type : (t : Ty) → IsTypeInRange t → IsTypeKnown m t → FitsType m t
  fits_type t range known = (written_in_range t range, known)

  pub fits_value_type : (t : Ty) → IsTypeInRange t → IsTypeKnown m t → is_first_class t ≡ true → FitsValueType m t
  fits_value_type t range known values = ((written_in_range t range, known), values)

  pub fits_result : (t : Ty) → IsResultInRange t → IsTypeKnown m t → IsResult t → FitsResult m t
  fits_result ty.Void range known result = tt
  fits_result (ty.Int width) range known result = ((ranges.at_int width ∙ range, known), result)
  fits_result t range known result = ((range, known), result)
