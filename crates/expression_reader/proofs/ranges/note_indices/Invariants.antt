use Rattle.std.proofs.Common.{◌≡◌, ◌≤◌, length}
use Rattle.std.specs.List.{flat_map}
use Rattle.derivation_cursor.specs.At.{SameText, ahead_of}
use Rattle.expression_reader.proofs.ranges.note_indices.Given as goal
use Rattle.expression_reader.specs.Ranges.{operand_faults}
use Rattle.fault_walk.specs.Told.{noted}
use Rattle.module_derivations.specs.FlatMarks.Flat.{behind}
use Rattle.module_derivations.specs.Empty.{made}

-- what is noted so far, and in those that are left
abbrev pub invariant-loop-c : goal.invariant-loop-c
invariant-loop-c l = record {
  same : SameText l.fn.c l.c;
  told : noted (flat_map operand_faults (made (ahead_of l.c)).indices) l.told ≡ noted (flat_map operand_faults (made (ahead_of l.fn.c)).indices) l.fn.told;
  behind : behind (ahead_of l.c) ≡ behind (ahead_of l.fn.c);
  shorter : length l.c.numbers.now ≤ length l.fn.c.numbers.now;
}

abbrev pub decreases-loop-c : goal.decreases-loop-c
decreases-loop-c l = length l.c.numbers.now
