use Rattle.std.proofs.Common.{◌≡◌, ◌≤◌, [], length}
use Rattle.derivation_cursor.specs.At.{SameText, ahead_of}
use Rattle.module_derivations.specs.FlatMarks.Flat.{behind}
use Rattle.module_derivations.specs.Empty.{made}
use Rattle.module_walk.proofs.Whole.{with_items}
use Rattle.module_walk.proofs.items.read_module_of.Given as goal

abbrev pub invariant-loop-c : goal.invariant-loop-c
invariant-loop-c g l = record {
  same : SameText l.fn.c l.c;
  whole : with_items (g.S.Gaps.declared l.around) l.whole (made (ahead_of l.c)).whole.items ≡ with_items (g.S.Gaps.declared l.around) (record { types = l.fn.types; globals = []; functions = []; declarations = [] }) (made (ahead_of l.fn.c)).whole.items;
  behind : behind (ahead_of l.c) ≡ behind (ahead_of l.fn.c);
  shorter : length l.c.numbers.now ≤ length l.fn.c.numbers.now;
}

abbrev pub decreases-loop-c : goal.decreases-loop-c
decreases-loop-c g l = length l.c.numbers.now
