-- Words of private functions: whether the types that stand in constants and initialisers are known.
use Rattle.std.specs.Prelude.{◌&&◌, Bool, List, Option}
use Rattle.std.specs.List.{list_all}
use Rattle.ir_core.specs.declared.modules.Init.{Init, fold-Init}
use Rattle.ir_core.specs.declared.modules.Module.{Module}
use Rattle.ir_core.specs.declared.operands.Const.{Const}
use Rattle.ir_core.specs.StatedTypes.{stated_at_start, stated_by_init, stated_in}
use Rattle.ir_types.specs.declared.ty.Ty.{Ty}
use Rattle.ir_typing.specs.OperandTests.Known.{are_types_known, is_type_known}

-- constants behind their types
abbrev pub are_constants_known : Module → List (Ty × Const) → Bool
are_constants_known m = list_all (λ c. is_type_known m c.0 && are_types_known m (stated_in c.1))

abbrev pub is_init_known : Module → Init → Bool
is_init_known m i = are_types_known m (fold-Init (List Ty) stated_by_init i)

-- initialisers behind their types
abbrev pub are_inits_known : Module → List (Ty × Init) → Bool
are_inits_known m = list_all (λ i. is_type_known m i.0 && is_init_known m i.1)

abbrev pub is_start_known : Module → Option Init → Bool
is_start_known m init = are_types_known m (stated_at_start init)
