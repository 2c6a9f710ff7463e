use Rattle.std.proofs.Common.{◌≡◌, ◌≤◌, [], length}
use Rattle.derivation_cursor.specs.At.{SameText, ahead_of}
use Rattle.module_derivations.specs.FlatMarks.Flat.{behind}
use Rattle.module_derivations.specs.Empty.{made}
use Rattle.module_walk.specs.Counted.{capped, registers_of}
use Rattle.module_walk.proofs.Onto.{counted_from, phis_onto}
use Rattle.module_walk.proofs.functions.read_body.Given as goal

abbrev pub invariant-loop-alloc : goal.invariant-loop-alloc
invariant-loop-alloc l = record {
  same : SameText l.fn.c l.c;
  phis : phis_onto l.phis l.behind (made (ahead_of l.c)).body.phis ≡ phis_onto [] l.fn.due (made (ahead_of l.fn.c)).body.phis;
  due : counted_from l.behind (registers_of (made (ahead_of l.c)).body.phis) ≡ counted_from l.fn.due (registers_of (made (ahead_of l.fn.c)).body.phis);
  small : l.behind ≡ capped l.behind;
  lines : (made (ahead_of l.c)).body.lines ≡ (made (ahead_of l.fn.c)).body.lines;
  behind : behind (ahead_of l.c) ≡ behind (ahead_of l.fn.c);
  shorter : length l.c.numbers.now ≤ length l.fn.c.numbers.now;
}

abbrev pub decreases-loop-alloc : goal.decreases-loop-alloc
decreases-loop-alloc l = length l.c.numbers.now
