-- Words of private functions: whether what is told of registers is told for the first time.
use Rattle.std.specs.Prelude.{Bool, true, not, ◌&&◌, List, [], ◌∷◌, Option}
use Rattle.std.specs.List.{list_all}
use Rattle.std.specs.Option.{is_some}
use Rattle.ir_core.specs.declared.functions.Block.{Block}
use Rattle.ir_types.specs.declared.names.Name.{Name}
use Rattle.ir_types.specs.declared.ty.Ty.{Ty}
use Rattle.ir_typing.specs.ShapeKinds.Typed.{Types, with_type}

-- each of these names is new where it is told
abbrev pub are_untold : Types → List (Name × Option Ty) → Bool
are_untold types [] = true
are_untold types (r ∷ rs) = not (is_some (types r.0)) && are_untold (with_type types r.0 r.1) rs

-- no block has the name of a register
abbrev pub have_own_names : Types → List Block → Bool
have_own_names types = list_all (λ (b : Block). not (is_some (types b.name)))
