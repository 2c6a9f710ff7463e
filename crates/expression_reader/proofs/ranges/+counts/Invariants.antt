use Rattle.std.proofs.Common.{◌≡◌, ◌≤◌, ◌+◌, ◌*◌, length}
use Rattle.std.specs.List.{flat_map}
use Rattle.derivation_cursor.specs.At.{SameText, ahead_of}
use Rattle.expression_reader.proofs.ranges.+counts.Given as goal
use Rattle.expression_reader.specs.Types.{count_faults}
use Rattle.fault_walk.specs.Told.{noted}
use Rattle.module_derivations.specs.FlatMarks.Flat.{behind}
use Rattle.module_derivations.specs.Empty.{made}

abbrev pub decreases-note_counts : goal.decreases-note_counts
decreases-note_counts l = 3 * length l.c.now.numbers.now + 1

abbrev pub decreases-note_base_type : goal.decreases-note_base_type
decreases-note_base_type l = 3 * length l.c.now.numbers.now

abbrev pub decreases-note_array : goal.decreases-note_array
decreases-note_array l = 3 * length l.c.now.numbers.now + 2

abbrev pub decreases-note_struct : goal.decreases-note_struct
decreases-note_struct l = 3 * length l.c.now.numbers.now + 1

abbrev pub decreases-note_types : goal.decreases-note_types
decreases-note_types l = 3 * length l.c.now.numbers.now

abbrev pub decreases-note_more_types : goal.decreases-note_more_types
decreases-note_more_types l = 3 * length l.c.now.numbers.now

-- what is noted so far, and in the types that are left
abbrev pub invariant-note_more_types-loop-c : goal.invariant-note_more_types-loop-c
invariant-note_more_types-loop-c l = record {
  same : SameText l.fn.c l.c;
  told : noted (flat_map count_faults (made (ahead_of l.c)).more_types) l.told ≡ noted (flat_map count_faults (made (ahead_of l.fn.c)).more_types) l.fn.told;
  behind : behind (ahead_of l.c) ≡ behind (ahead_of l.fn.c);
  shorter : length l.c.numbers.now ≤ length l.fn.c.numbers.now;
}

abbrev pub decreases-note_more_types-loop-c : goal.decreases-note_more_types-loop-c
decreases-note_more_types-loop-c l = length l.c.numbers.now
