use Rattle.std.proofs.Common.{◌≡◌, ◌≤◌, [], ◌∷◌, length}
use Rattle.derivation_cursor.specs.At.{SameText, ahead_of}
use Rattle.module_derivations.specs.FlatMarks.Flat.{behind}
use Rattle.module_derivations.specs.Empty.{made}
use Rattle.module_walk.proofs.Onto.{mapped_onto}
use Rattle.named_modules.specs.Built.{entry_of}
use Rattle.module_walk.proofs.functions.read_entries.Given as goal

abbrev pub invariant-loop-c : goal.invariant-loop-c
invariant-loop-c l = record {
  same : SameText l.fn.c l.c;
  entries : mapped_onto (entry_of l.ty) l.entries (made (ahead_of l.c)).entries_behind.entries ≡ mapped_onto (entry_of l.fn.ty) (l.fn.first ∷ []) (made (ahead_of l.fn.c)).entries_behind.entries;
  behind : behind (ahead_of l.c) ≡ behind (ahead_of l.fn.c);
  shorter : length l.c.numbers.now ≤ length l.fn.c.numbers.now;
}

abbrev pub decreases-loop-c : goal.decreases-loop-c
decreases-loop-c l = length l.c.numbers.now
