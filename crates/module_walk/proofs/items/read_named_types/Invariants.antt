use Rattle.std.proofs.Common.{◌≡◌, ◌≤◌, [], length}
use Rattle.derivation_cursor.specs.At.{SameText, ahead_of}
use Rattle.module_derivations.specs.FlatMarks.Flat.{behind}
use Rattle.module_derivations.specs.Empty.{made}
use Rattle.module_walk.proofs.Whole.{types_onto}
use Rattle.module_walk.proofs.items.read_named_types.Given as goal

abbrev pub invariant-loop-c : goal.invariant-loop-c
invariant-loop-c l = record {
  same : SameText l.fn.c l.c;
  types : types_onto l.types (made (ahead_of l.c)).whole.items ≡ types_onto [] (made (ahead_of l.fn.c)).whole.items;
  behind : behind (ahead_of l.c) ≡ behind (ahead_of l.fn.c);
  shorter : length l.c.numbers.now ≤ length l.fn.c.numbers.now;
}

abbrev pub decreases-loop-c : goal.decreases-loop-c
decreases-loop-c l = length l.c.numbers.now
