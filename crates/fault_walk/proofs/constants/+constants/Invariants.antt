use Rattle.std.proofs.Common.{◌≡◌, ◌≤◌, ◌+◌, ◌*◌, ◌++◌, List, length, map}
use Rattle.std.specs.List.{flat_map}
use Rattle.derivation_cursor.specs.At.{SameText, ahead_of}
use Rattle.module_derivations.specs.FlatMarks.Flat.{behind}
use Rattle.ir_core.specs.Typing.{Index}
use Rattle.module_derivations.specs.Empty.{made}
use Rattle.fault_walk.specs.Indices.{IsPath, const_index}
use Rattle.fault_walk.specs.Parts.{part_faults, wanted_by_part}
use Rattle.fault_walk.specs.Told.{told_more}
use Rattle.fault_walk.proofs.constants.+constants.Given as goal

abbrev pub decreases-note_const : goal.decreases-note_const
decreases-note_const l = 4 * length l.c.now.numbers.now

abbrev pub decreases-note_part : goal.decreases-note_part
decreases-note_part l = 4 * length l.c.now.numbers.now + 1

abbrev pub decreases-note_indices : goal.decreases-note_indices
decreases-note_indices l = 4 * length l.c.now.numbers.now

abbrev pub decreases-note_element : goal.decreases-note_element
decreases-note_element l = 4 * length l.c.now.numbers.now + 2

abbrev pub decreases-note_cast : goal.decreases-note_cast
decreases-note_cast l = 4 * length l.c.now.numbers.now + 2

abbrev pub invariant-note_indices-loop-c : goal.invariant-note_indices-loop-c
invariant-note_indices-loop-c l = record {
  same : SameText l.fn.c l.c;
  path : (before : List Index) × (before ++ map const_index (made (ahead_of l.c)).more_consts ≡ map const_index (made (ahead_of l.fn.c)).more_consts) × IsPath l.sight.types l.of before l.path;
  told : told_more l.sight (flat_map (part_faults l.sight) (made (ahead_of l.c)).more_consts) (flat_map (wanted_by_part l.sight) (made (ahead_of l.c)).more_consts) l.told
      ≡ told_more l.sight (flat_map (part_faults l.sight) (made (ahead_of l.fn.c)).more_consts) (flat_map (wanted_by_part l.sight) (made (ahead_of l.fn.c)).more_consts) l.fn.told;
  behind : behind (ahead_of l.c) ≡ behind (ahead_of l.fn.c);
  shorter : length l.c.numbers.now ≤ length l.fn.c.numbers.now;
}

abbrev pub decreases-note_indices-loop-c : goal.decreases-note_indices-loop-c
decreases-note_indices-loop-c l = length l.c.numbers.now
