use Rattle.std.proofs.Common.{◌≡◌, drop}
use Rattle.ir_machine.specs.Machine.{entry_from}
use Rattle.ir_machine.proofs.jumping.phi_value.Given as goal

abbrev pub invariant-loop-i : goal.invariant-loop-i
invariant-loop-i l = entry_from l.from (drop l.i l.entries) ≡ entry_from l.from l.phi.entries
