use Rattle.std.proofs.Common.{◌≡◌, ◌≤◌, ◌+◌, ◌*◌, ◌++◌, length}
use Rattle.derivation_cursor.specs.At.{SameText, ahead_of}
use Rattle.module_derivations.specs.FlatMarks.Flat.{behind}
use Rattle.module_derivations.specs.Empty.{made}
use Rattle.named_modules.specs.Parts.{init_parts_of}
use Rattle.module_walk.proofs.constants.+inits.Given as goal

abbrev pub decreases-read_init : goal.decreases-read_init
decreases-read_init l = 2 * length l.c.now.numbers.now

abbrev pub decreases-read_init_part : goal.decreases-read_init_part
decreases-read_init_part l = 2 * length l.c.now.numbers.now + 1

abbrev pub decreases-read_inits : goal.decreases-read_inits
decreases-read_inits l = 2 * length l.c.now.numbers.now

abbrev pub decreases-read_held : goal.decreases-read_held
decreases-read_held l = 2 * length l.c.now.numbers.now + 1

abbrev pub decreases-read_more_inits : goal.decreases-read_more_inits
decreases-read_more_inits l = 2 * length l.c.now.numbers.now

abbrev pub invariant-read_more_inits-loop-inits : goal.invariant-read_more_inits-loop-inits
invariant-read_more_inits-loop-inits l = record {
  same : SameText l.fn.c l.c;
  built : l.inits ++ init_parts_of (made (ahead_of l.c)).more_inits ≡ l.fn.inits ++ init_parts_of (made (ahead_of l.fn.c)).more_inits;
  behind : behind (ahead_of l.c) ≡ behind (ahead_of l.fn.c);
  shorter : length l.c.numbers.now ≤ length l.fn.c.numbers.now;
}

abbrev pub decreases-read_more_inits-loop-inits : goal.decreases-read_more_inits-loop-inits
decreases-read_more_inits-loop-inits l = length l.c.numbers.now
