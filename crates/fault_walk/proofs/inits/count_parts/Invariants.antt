use Rattle.std.proofs.Common.{◌≡◌, ◌≤◌, ◌+◌, length}
use Rattle.derivation_cursor.specs.At.{ahead_of}
use Rattle.module_derivations.specs.Empty.{made}
use Rattle.fault_walk.proofs.inits.count_parts.Given as goal

abbrev pub invariant-loop-ahead : goal.invariant-loop-ahead
invariant-loop-ahead l = record {
  count : l.count + length (made (ahead_of l.ahead)).more_inits ≡ length (made (ahead_of l.fn.c)).inits;
  room : l.count + length l.ahead.numbers.now ≤ length l.fn.c.numbers.now;
}

abbrev pub decreases-loop-ahead : goal.decreases-loop-ahead
decreases-loop-ahead l = length l.ahead.numbers.now
