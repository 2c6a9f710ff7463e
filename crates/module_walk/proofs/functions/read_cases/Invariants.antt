use Rattle.std.proofs.Common.{◌≡◌, ◌≤◌, [], length}
use Rattle.derivation_cursor.specs.At.{SameText, ahead_of}
use Rattle.module_derivations.specs.FlatMarks.Flat.{behind}
use Rattle.module_derivations.specs.Empty.{made}
use Rattle.module_walk.proofs.Onto.{mapped_onto}
use Rattle.named_modules.specs.Built.{case_of}
use Rattle.module_walk.proofs.functions.read_cases.Given as goal

abbrev pub invariant-loop-cases : goal.invariant-loop-cases
invariant-loop-cases l = record {
  same : SameText l.fn.c l.c;
  cases : mapped_onto case_of l.cases (made (ahead_of l.c)).cases ≡ mapped_onto case_of [] (made (ahead_of l.fn.c)).cases;
  behind : behind (ahead_of l.c) ≡ behind (ahead_of l.fn.c);
  shorter : length l.c.numbers.now ≤ length l.fn.c.numbers.now;
}

abbrev pub decreases-loop-cases : goal.decreases-loop-cases
decreases-loop-cases l = length l.c.numbers.now
