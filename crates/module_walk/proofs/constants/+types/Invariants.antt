use Rattle.std.proofs.Common.{◌≡◌, ◌≤◌, ◌+◌, ◌*◌, ◌++◌, length, map}
use Rattle.derivation_cursor.specs.At.{SameText, ahead_of}
use Rattle.module_derivations.specs.FlatMarks.Flat.{behind}
use Rattle.module_derivations.specs.Empty.{made}
use Rattle.named_modules.specs.Types.{type_of}
use Rattle.module_walk.proofs.constants.+types.Given as goal

abbrev pub decreases-read_type : goal.decreases-read_type
decreases-read_type l = 3 * length l.c.now.numbers.now + 1

abbrev pub decreases-read_base_type : goal.decreases-read_base_type
decreases-read_base_type l = 3 * length l.c.now.numbers.now

abbrev pub decreases-read_array : goal.decreases-read_array
decreases-read_array l = 3 * length l.c.now.numbers.now + 2

abbrev pub decreases-read_struct : goal.decreases-read_struct
decreases-read_struct l = 3 * length l.c.now.numbers.now + 1

abbrev pub decreases-read_types : goal.decreases-read_types
decreases-read_types l = 3 * length l.c.now.numbers.now

abbrev pub decreases-read_more_types : goal.decreases-read_more_types
decreases-read_more_types l = 3 * length l.c.now.numbers.now

abbrev pub invariant-read_more_types-loop-types : goal.invariant-read_more_types-loop-types
invariant-read_more_types-loop-types l = record {
  same : SameText l.fn.c l.c;
  built : l.types ++ map type_of (made (ahead_of l.c)).more_types ≡ l.fn.types ++ map type_of (made (ahead_of l.fn.c)).more_types;
  behind : behind (ahead_of l.c) ≡ behind (ahead_of l.fn.c);
  shorter : length l.c.numbers.now ≤ length l.fn.c.numbers.now;
}

abbrev pub decreases-read_more_types-loop-types : goal.decreases-read_more_types-loop-types
decreases-read_more_types-loop-types l = length l.c.numbers.now
