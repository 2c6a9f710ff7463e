-- Parts of initialisers that are numbers.
use Rattle.std.specs.Prelude.{◌≡◌, ℕ}
use Rattle.ir_core.specs.declared.modules.Init.{Init}
use Rattle.ir_core.specs.declared.modules.Init as init
use Rattle.ir_core.specs.declared.operands.Const.{Number}
use Rattle.ir_types.specs.declared.ty.Ty.{Ty, Int}

-- a number of an integer type
abbrev pub IsNumber : Ty × Init → Type 0
IsNumber p = (width : ℕ) × (n : ℕ) × (p ≡ (Int width, init.Const (Number n)))
