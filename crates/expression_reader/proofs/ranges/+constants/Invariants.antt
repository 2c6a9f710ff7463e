use Rattle.std.proofs.Common.{◌≡◌, ◌≤◌, ◌+◌, ◌*◌, length}
use Rattle.std.specs.List.{flat_map}
use Rattle.derivation_cursor.specs.At.{SameText, ahead_of}
use Rattle.expression_reader.proofs.ranges.+constants.Given as goal
use Rattle.expression_reader.specs.Told.{part_faults}
use Rattle.fault_walk.specs.Told.{noted}
use Rattle.module_derivations.specs.FlatMarks.Flat.{behind}
use Rattle.module_derivations.specs.Empty.{made}

abbrev pub decreases-note_const : goal.decreases-note_const
decreases-note_const l = 3 * length l.c.now.numbers.now

abbrev pub decreases-note_part : goal.decreases-note_part
decreases-note_part l = 3 * length l.c.now.numbers.now + 1

abbrev pub decreases-note_more_parts : goal.decreases-note_more_parts
decreases-note_more_parts l = 3 * length l.c.now.numbers.now

abbrev pub decreases-note_element : goal.decreases-note_element
decreases-note_element l = 3 * length l.c.now.numbers.now + 2

abbrev pub decreases-note_cast : goal.decreases-note_cast
decreases-note_cast l = 3 * length l.c.now.numbers.now + 2

-- what is noted so far, and in those that are left
abbrev pub invariant-note_more_parts-loop-c : goal.invariant-note_more_parts-loop-c
invariant-note_more_parts-loop-c l = record {
  same : SameText l.fn.c l.c;
  told : noted (flat_map part_faults (made (ahead_of l.c)).more_consts) l.told ≡ noted (flat_map part_faults (made (ahead_of l.fn.c)).more_consts) l.fn.told;
  behind : behind (ahead_of l.c) ≡ behind (ahead_of l.fn.c);
  shorter : length l.c.numbers.now ≤ length l.fn.c.numbers.now;
}

abbrev pub decreases-note_more_parts-loop-c : goal.decreases-note_more_parts-loop-c
decreases-note_more_parts-loop-c l = length l.c.numbers.now
