-- Words of private functions. The first register of atoms that may differ, and of a list one that mustn't.
use Rattle.std.specs.Prelude.{Bool, ◌&&◌, not, cond, List, Option, Some, find}
use Rattle.std.specs.List.{filter_map}
use Rattle.ir_core.specs.declared.operands.Atom.{Atom}
use Rattle.ir_core.specs.declared.operands.Operand.{Operand}
use Rattle.ir_core.specs.declared.expressions.Reg.{Reg}
use Rattle.erhl_assert.specs.Sides.{has_reg}
use Rattle.erhl_assert.specs.Edges.{is_old}
use Rattle.erhl_assert.specs.Steps.{register_in}
use Rattle.erhl_assert.specs.Acceptance.{first_of_two}

abbrev pub differing_among : List Reg → List (Atom Reg) → Option Reg
differing_among diff atoms = find (λ r. has_reg r diff) (filter_map register_in atoms)

abbrev pub differing_operands : List Reg → List (Operand Reg) → Option Reg
differing_operands diff operands = find (λ r. has_reg r diff) (filter_map (λ (o : Operand Reg). register_in o.atom) operands)

abbrev pub is_left_over : List Reg → Reg → Bool
is_left_over wanted r = not (is_old r) && not (has_reg r wanted)

-- the first one of those behind a register, and of the register too, if it is left over
abbrev pub first_with : List Reg → Reg → Option Reg → Option Reg
first_with wanted r behind = cond (is_left_over wanted r) (Some (first_of_two r behind)) behind
