use Rattle.std.proofs.Common.{◌≡◌, ◌≤◌, ◌+◌, ◌*◌, ◌++◌, length}
use Rattle.derivation_cursor.specs.At.{SameText, ahead_of}
use Rattle.module_derivations.specs.FlatMarks.Flat.{behind}
use Rattle.module_derivations.specs.Empty.{made}
use Rattle.named_modules.specs.Parts.{parts_of}
use Rattle.module_walk.proofs.constants.+constants.Given as goal

abbrev pub decreases-read_const : goal.decreases-read_const
decreases-read_const l = 5 * length l.c.now.numbers.now

abbrev pub decreases-read_part : goal.decreases-read_part
decreases-read_part l = 5 * length l.c.now.numbers.now + 1

abbrev pub decreases-read_one : goal.decreases-read_one
decreases-read_one l = 5 * length l.c.now.numbers.now + 2

abbrev pub decreases-read_more_parts : goal.decreases-read_more_parts
decreases-read_more_parts l = 5 * length l.c.now.numbers.now

abbrev pub decreases-read_parts : goal.decreases-read_parts
decreases-read_parts l = 5 * length l.c.now.numbers.now + 3

abbrev pub decreases-read_element : goal.decreases-read_element
decreases-read_element l = 5 * length l.c.now.numbers.now + 4

abbrev pub decreases-read_cast : goal.decreases-read_cast
decreases-read_cast l = 5 * length l.c.now.numbers.now + 4

abbrev pub invariant-read_more_parts-loop-parts : goal.invariant-read_more_parts-loop-parts
invariant-read_more_parts-loop-parts l = record {
  same : SameText l.fn.c l.c;
  built : l.parts ++ parts_of (made (ahead_of l.c)).more_consts ≡ l.fn.parts ++ parts_of (made (ahead_of l.fn.c)).more_consts;
  behind : behind (ahead_of l.c) ≡ behind (ahead_of l.fn.c);
  shorter : length l.c.numbers.now ≤ length l.fn.c.numbers.now;
}

abbrev pub decreases-read_more_parts-loop-parts : goal.decreases-read_more_parts-loop-parts
decreases-read_more_parts-loop-parts l = length l.c.numbers.now
