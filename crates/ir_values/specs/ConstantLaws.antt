-- The laws of constants.
use Rattle.std.specs.Prelude.{◌≡◌, Some}
use Rattle.ir_types.specs.declared.ty.Ty.{Ty}
use Rattle.ir_core.specs.declared.operands.Const.{Const}
use Rattle.ir_core.specs.declared.values.Kind.{Kind}
use Rattle.ir_core.specs.Types.{kind_of}
use Rattle.ir_values.specs.Constants.{Scope, constant_value}
use Rattle.ir_values.specs.Values.{IsInKind}

-- a constant is worth a value of the kind of its stated type, where that has one
abbrev pub ConstantsAreInKind : Type 0
ConstantsAreInKind = (scope : Scope) (t : Ty) (c : Const) (k : Kind) → kind_of t ≡ Some k → IsInKind k (constant_value scope t c)
