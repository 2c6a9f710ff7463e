-- Words of private functions. The definitions of a function's registers, each a name and a type.
use Rattle.std.specs.Prelude.{Bool, not, List}
use Rattle.std.specs.List.{list_any}
use Rattle.std.specs.Option.{option_eq}
use Rattle.ir_types.specs.declared.names.Name.{Name}
use Rattle.ir_types.specs.declared.ty.Ty.{Ty}
use Rattle.ir_core.specs.Expressions.{Expr0}
use Rattle.ir_core.specs.Types.{kind_of}
use Rattle.ir_values.specs.Values.{same_kind}
use Rattle.erhl_assert.specs.Facts.{kind_of_expr}

-- of another kind than the expression
abbrev pub is_other_kind : Expr0 → Name × Ty → Bool
is_other_kind e d = not (option_eq same_kind (kind_of d.1) (kind_of_expr e))

abbrev pub some_other_kind : Expr0 → List (Name × Ty) → Bool
some_other_kind e ds = list_any (is_other_kind e) ds
