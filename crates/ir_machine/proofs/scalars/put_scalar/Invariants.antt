use Rattle.std.proofs.Common.{◌≡◌}
use Rattle.ir_machine.proofs.Laying.{first_over}
use Rattle.ir_machine.proofs.scalars.put_scalar.Given as goal

abbrev pub invariant-loop-place : goal.invariant-loop-place
invariant-loop-place l = l.bytes ≡ first_over l.scalar.at l.value l.place 0 l.initial.bytes
