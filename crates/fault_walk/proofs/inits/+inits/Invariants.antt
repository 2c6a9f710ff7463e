use Rattle.std.proofs.Common.{◌≡◌, ◌≤◌, ◌+◌, ◌*◌, length}
use Rattle.std.specs.List.{flat_map}
use Rattle.std.specs.Option.{option_map}
use Rattle.derivation_cursor.specs.At.{SameText, ahead_of}
use Rattle.module_derivations.specs.FlatMarks.Flat.{behind}
use Rattle.module_derivations.specs.Empty.{made}
use Rattle.fault_walk.specs.Dues.{or_none, rest_faults, seen, wanted_by_part}
use Rattle.fault_walk.specs.Told.{told_more}
use Rattle.fault_walk.proofs.inits.+inits.Given as goal

abbrev pub decreases-note_init : goal.decreases-note_init
decreases-note_init l = 4 * length l.c.now.numbers.now

abbrev pub decreases-note_init_part : goal.decreases-note_init_part
decreases-note_init_part l = 4 * length l.c.now.numbers.now + 1

abbrev pub decreases-note_more_inits : goal.decreases-note_more_inits
decreases-note_more_inits l = 4 * length l.c.now.numbers.now

abbrev pub decreases-note_inits : goal.decreases-note_inits
decreases-note_inits l = 4 * length l.c.now.numbers.now

abbrev pub decreases-note_list : goal.decreases-note_list
decreases-note_list l = 4 * length l.c.now.numbers.now + 1

abbrev pub decreases-note_array_init : goal.decreases-note_array_init
decreases-note_array_init l = 4 * length l.c.now.numbers.now + 2

abbrev pub decreases-note_struct_init : goal.decreases-note_struct_init
decreases-note_struct_init l = 4 * length l.c.now.numbers.now + 2

abbrev pub invariant-note_more_inits-loop-dues : goal.invariant-note_more_inits-loop-dues
invariant-note_more_inits-loop-dues l = record {
  same : SameText l.fn.c l.c;
  told : told_more l.sight (rest_faults l.sight (or_none (option_map seen l.dues)) (made (ahead_of l.c)).more_inits) (flat_map (wanted_by_part l.sight) (made (ahead_of l.c)).more_inits) l.told
      ≡ told_more l.sight (rest_faults l.sight (or_none (option_map seen l.fn.dues)) (made (ahead_of l.fn.c)).more_inits) (flat_map (wanted_by_part l.sight) (made (ahead_of l.fn.c)).more_inits) l.fn.told;
  behind : behind (ahead_of l.c) ≡ behind (ahead_of l.fn.c);
  shorter : length l.c.numbers.now ≤ length l.fn.c.numbers.now;
}

abbrev pub decreases-note_more_inits-loop-dues : goal.decreases-note_more_inits-loop-dues
decreases-note_more_inits-loop-dues l = length l.c.numbers.now
