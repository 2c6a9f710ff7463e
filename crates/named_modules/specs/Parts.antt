-- Words of private functions: constants and initialisers behind their types.
use Rattle.std.specs.Prelude.{List, map}
use Rattle.ir_core.specs.declared.modules.Init.{Init}
use Rattle.ir_core.specs.declared.operands.Const.{Const}
use Rattle.ir_types.specs.declared.ty.Ty.{Ty}
use Rattle.module_grammar.specs.declared.constants.ConstText.{ConstText}
use Rattle.module_grammar.specs.declared.constants.InitText.{InitText}
use Rattle.module_grammar.specs.declared.types.TypeText.{TypeText}
use Rattle.named_modules.specs.Constants.{const_of, init_of}
use Rattle.named_modules.specs.Types.{type_of}

abbrev pub part_of : TypeText × ConstText → Ty × Const
part_of p = (type_of p.0, const_of p.1 (type_of p.0))

abbrev pub parts_of : List (TypeText × ConstText) → List (Ty × Const)
parts_of = map part_of

abbrev pub init_part_of : TypeText × InitText → Ty × Init
init_part_of p = (type_of p.0, init_of p.1 (type_of p.0))

abbrev pub init_parts_of : List (TypeText × InitText) → List (Ty × Init)
init_parts_of = map init_part_of
