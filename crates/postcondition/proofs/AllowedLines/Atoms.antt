-- Atoms of the logic, as the logic names them.
use Rattle.std.proofs.Common.{◌≡◌, refl}
use Rattle.ir_core.specs.declared.operands.Atom.{Atom}
use Rattle.ir_core.specs.declared.operands.Atom.TheVariants as atom
use Rattle.ir_core.specs.declared.expressions.Reg.{Reg}
use Rattle.ir_core.specs.Expressions.{map_atom}

pub same_registers : (a : Atom Reg) → map_atom (λ r. r) a ≡ a
same_registers (atom.Constant c) = refl
same_registers (atom.Register x) = refl
