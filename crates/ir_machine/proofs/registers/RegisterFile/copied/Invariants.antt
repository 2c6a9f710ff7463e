use Rattle.std.proofs.Common.{◌≤◌, length}
use Rattle.ir_machine.proofs.Entries.{AreCopied}
use Rattle.ir_machine.proofs.registers.RegisterFile.copied.Given as goal

abbrev pub invariant-loop-at : goal.invariant-loop-at
invariant-loop-at l = record {
  within : l.at ≤ length l.self.held.entries;
  copied : AreCopied l.held.entries l.self.held.entries l.at;
}

abbrev pub decreases-loop-at : goal.decreases-loop-at
decreases-loop-at l = l.at
