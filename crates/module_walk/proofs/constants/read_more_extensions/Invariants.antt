use Rattle.std.proofs.Common.{◌≡◌, ◌≤◌, length}
use Rattle.derivation_cursor.specs.At.{SameText, ahead_of}
use Rattle.module_derivations.specs.FlatMarks.Flat.{behind}
use Rattle.module_derivations.specs.Empty.{made}
use Rattle.module_walk.specs.Attributes.{extensions_from}
use Rattle.module_walk.proofs.constants.read_more_extensions.Given as goal

abbrev pub invariant-loop-c : goal.invariant-loop-c
invariant-loop-c l = record {
  same : SameText l.fn.c l.c;
  found : extensions_from l.found (made (ahead_of l.c)).param_attributes ≡ extensions_from l.fn.found (made (ahead_of l.fn.c)).param_attributes;
  behind : behind (ahead_of l.c) ≡ behind (ahead_of l.fn.c);
  shorter : length l.c.numbers.now ≤ length l.fn.c.numbers.now;
}

abbrev pub decreases-loop-c : goal.decreases-loop-c
decreases-loop-c l = length l.c.numbers.now
