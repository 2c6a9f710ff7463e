use Rattle.std.proofs.Common.{◌≡◌, ◌++◌}
use Rattle.ir_machine.specs.Scalars as meaning
use Rattle.ir_machine.specs.Walks.{all_in}
use Rattle.ir_machine.proofs.scalars.scalars_of.Given as goal

abbrev pub invariant-loop : goal.invariant-loop
invariant-loop l = l.found.items ++ all_in l.types l.left.items ≡ meaning.scalars_of l.types l.ty
