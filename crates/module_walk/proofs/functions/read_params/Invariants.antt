use Rattle.std.proofs.Common.{◌≡◌, ◌≤◌, [], length}
use Rattle.derivation_cursor.specs.At.{SameText, ahead_of}
use Rattle.module_derivations.specs.FlatMarks.Flat.{behind}
use Rattle.module_derivations.specs.Empty.{made}
use Rattle.module_walk.specs.Counted.{capped, names_of_params}
use Rattle.module_walk.proofs.Onto.{counted_from, params_onto}
use Rattle.module_walk.proofs.functions.read_params.Given as goal

abbrev pub invariant-loop-c : goal.invariant-loop-c
invariant-loop-c l = record {
  same : SameText l.fn.c l.c;
  params : params_onto l.params l.due (made (ahead_of l.c)).more_params ≡ params_onto [] 0 (made (ahead_of l.fn.c)).params;
  due : counted_from l.due (names_of_params (made (ahead_of l.c)).more_params) ≡ counted_from 0 (names_of_params (made (ahead_of l.fn.c)).params);
  small : l.due ≡ capped l.due;
  behind : behind (ahead_of l.c) ≡ behind (ahead_of l.fn.c);
  shorter : length l.c.numbers.now ≤ length l.fn.c.numbers.now;
}

abbrev pub decreases-loop-c : goal.decreases-loop-c
decreases-loop-c l = length l.c.numbers.now
