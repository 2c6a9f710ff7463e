use Rattle.std.proofs.Common.{◌≡◌, ◌≤◌, ◌++◌, length, map}
use Rattle.derivation_cursor.specs.At.{SameText, ahead_of}
use Rattle.module_derivations.specs.FlatMarks.Flat.{behind}
use Rattle.module_derivations.specs.Empty.{made}
use Rattle.module_walk.specs.Values.{names, operand_by}
use Rattle.module_walk.proofs.lines.read_indices_behind.Given as goal

abbrev pub invariant-loop-c : goal.invariant-loop-c
invariant-loop-c l = record {
  same : SameText l.fn.c l.c;
  indices :
      l.indices ++ map (operand_by names) (made (ahead_of l.c)).indices_behind.indices
      ≡ map (operand_by names) (made (ahead_of l.fn.c)).indices_behind.indices;
  behind : behind (ahead_of l.c) ≡ behind (ahead_of l.fn.c);
  shorter : length l.c.numbers.now ≤ length l.fn.c.numbers.now;
}

abbrev pub decreases-loop-c : goal.decreases-loop-c
decreases-loop-c l = length l.c.numbers.now
