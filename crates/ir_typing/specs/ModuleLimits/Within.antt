-- Words of private functions: whether types, constants and initialisers are no deeper than so much.
use Rattle.std.specs.Prelude.{ℕ, ◌&&◌, ◌++◌, Bool, List, map, nat_le}
use Rattle.std.specs.List.{list_all}
use Rattle.ir_types.specs.declared.ty.Ty.{Ty}
use Rattle.ir_core.specs.declared.expressions.Expr.{Expr}
use Rattle.ir_core.specs.declared.functions.Case.{Case}
use Rattle.ir_core.specs.declared.functions.Term.{Term}
use Rattle.ir_core.specs.declared.modules.Init.{Init}
use Rattle.ir_core.specs.declared.operands.Atom.{Atom}
use Rattle.ir_core.specs.declared.operands.Const.{Const}
use Rattle.ir_core.specs.Depths.{depth_of, depth_of_atom, depth_of_constant, depth_of_init, depth_of_operand}
use Rattle.ir_core.specs.Expressions.{operands_in}
use Rattle.ir_core.specs.Functions.{cases_of, operands_at_end}
use Rattle.ir_core.specs.Limits.{depth_limit}
use Rattle.ir_core.specs.StatedTypes.{stated_apart}

abbrev pub type_within : ℕ → Ty → Bool
type_within budget t = nat_le (depth_of t) budget

abbrev pub constant_within : ℕ → Const → Bool
constant_within budget c = nat_le (depth_of_constant c) budget

-- the constant, and the type that is stated for it
abbrev pub typed_within : ℕ → Ty × Const → Bool
typed_within budget p = type_within budget p.0 && constant_within budget p.1

abbrev pub init_within : ℕ → Init → Bool
init_within budget i = nat_le (depth_of_init i) budget

abbrev pub part_within : ℕ → Ty × Init → Bool
part_within budget p = type_within budget p.0 && init_within budget p.1

abbrev pub is_shallow : ℕ → Bool
is_shallow d = nat_le d depth_limit

abbrev pub are_shallow : List ℕ → Bool
are_shallow = list_all is_shallow

abbrev pub atom_shallow : {R : Type 0} → Atom R → Bool
atom_shallow a = is_shallow (depth_of_atom a)

-- the depths of a line's right side
abbrev pub depths_at_right : {R : Type 0} → Expr R → List ℕ
depths_at_right e = map depth_of (stated_apart e) ++ map (λ o. depth_of_operand o) (operands_in e)

-- the depths of a block's last line
abbrev pub depths_at_end : Term → List ℕ
depths_at_end t = map (λ o. depth_of_operand o) (operands_at_end t) ++ map (λ (c : Case). depth_of c.ty) (cases_of t)
