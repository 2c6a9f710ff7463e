use Rattle.std.proofs.Common.{◌≡◌, ◌≤◌, [], ◌∷◌, length}
use Rattle.derivation_cursor.specs.At.{SameText, ahead_of}
use Rattle.module_derivations.specs.FlatMarks.Flat.{behind, skip}
use Rattle.module_derivations.specs.Empty.{made}
use Rattle.module_derivations.specs.Blocks.{block}
use Rattle.module_walk.proofs.Onto.{blocks_onto}
use Rattle.module_walk.proofs.functions.read_blocks.Given as goal

abbrev pub invariant-loop-c : goal.invariant-loop-c
invariant-loop-c l = record {
  same : SameText l.fn.c l.c;
  blocks : blocks_onto l.types l.blocks l.behind (made (ahead_of l.c)).blocks ≡ blocks_onto l.fn.types [] l.fn.due (block (ahead_of l.fn.c) ∷ (made (skip 4 (ahead_of l.fn.c))).blocks);
  behind : behind (ahead_of l.c) ≡ skip 5 (ahead_of l.fn.c);
  shorter : length l.c.numbers.now ≤ length l.fn.c.numbers.now;
}

abbrev pub decreases-loop-c : goal.decreases-loop-c
decreases-loop-c l = length l.c.numbers.now
