use Rattle.std.proofs.Common.{◌≡◌, ◌≤◌, ◌++◌, length, map}
use Rattle.derivation_cursor.specs.At.{SameText, ahead_of}
use Rattle.module_derivations.specs.FlatMarks.Flat.{behind}
use Rattle.module_derivations.specs.Empty.{made}
use Rattle.module_walk.specs.Values.{operand_by, registers}
use Rattle.module_walk.proofs.operations.read_indices.Given as goal

abbrev pub invariant-loop-indices : goal.invariant-loop-indices
invariant-loop-indices l = record {
  same : SameText l.fn.c l.c;
  indices : l.indices ++ map (operand_by registers) (made (ahead_of l.c)).indices ≡ map (operand_by registers) (made (ahead_of l.fn.c)).indices;
  behind : behind (ahead_of l.c) ≡ behind (ahead_of l.fn.c);
  shorter : length l.c.numbers.now ≤ length l.fn.c.numbers.now;
}

abbrev pub decreases-loop-indices : goal.decreases-loop-indices
decreases-loop-indices l = length l.c.numbers.now
