use Rattle.std.proofs.Common.{◌≡◌, ◌≤◌, ◌++◌, length, map}
use Rattle.derivation_cursor.specs.At.{SameText, ahead_of}
use Rattle.module_derivations.specs.FlatMarks.Flat.{behind}
use Rattle.module_derivations.specs.Empty.{made}
use Rattle.module_walk.specs.Lines.{argument_by}
use Rattle.module_walk.proofs.lines.read_more_arguments.Given as goal

abbrev pub invariant-loop-arguments : goal.invariant-loop-arguments
invariant-loop-arguments l = record {
  same : SameText l.fn.c l.c;
  arguments :
      l.arguments ++ map argument_by (made (ahead_of l.c)).more_arguments
      ≡ l.fn.arguments ++ map argument_by (made (ahead_of l.fn.c)).more_arguments;
  behind : behind (ahead_of l.c) ≡ behind (ahead_of l.fn.c);
  shorter : length l.c.numbers.now ≤ length l.fn.c.numbers.now;
}

abbrev pub decreases-loop-arguments : goal.decreases-loop-arguments
decreases-loop-arguments l = length l.c.numbers.now
