use Rattle.std.proofs.Common.{◌≡◌, drop}
use Rattle.ir_machine.specs.Machine.{entry_from}
use Rattle.postcondition.proofs.block_phis.phis.first_from.Given as goal

abbrev pub invariant-loop-entry : goal.invariant-loop-entry
invariant-loop-entry l = entry_from l.from (drop l.entry-index l.entries) ≡ entry_from l.from l.entries
