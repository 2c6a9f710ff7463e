use Rattle.std.proofs.Common.{◌≡◌, ◌≤◌, length}
use Rattle.derivation_cursor.specs.At.{SameText, ahead_of}
use Rattle.module_derivations.specs.FlatMarks.Flat.{behind}
use Rattle.module_derivations.specs.Empty.{made}
use Rattle.fault_walk.specs.Names.{counted_in, lines_written, with_all}
use Rattle.fault_walk.proofs.names.write_lines.Given as goal

abbrev pub invariant-loop-c : goal.invariant-loop-c
invariant-loop-c l = record {
  same : SameText l.fn.c l.c;
  written : with_all l.whole (counted_in l.walk) (lines_written (made (ahead_of l.c)).lines) ≡ with_all l.whole (counted_in l.fn.walk) (lines_written (made (ahead_of l.fn.c)).lines);
  behind : behind (ahead_of l.c) ≡ behind (ahead_of l.fn.c);
  shorter : length l.c.numbers.now ≤ length l.fn.c.numbers.now;
}

abbrev pub decreases-loop-c : goal.decreases-loop-c
decreases-loop-c l = length l.c.numbers.now
