use Rattle.std.proofs.Common.{◌≡◌, ◌∷◌, ◌≤◌, length}
use Rattle.derivation_cursor.specs.At.{SameText, ahead_of}
use Rattle.fault_walk.specs.Told.{told_more}
use Rattle.module_derivations.specs.FlatMarks.Flat.{behind, skip}
use Rattle.module_derivations.specs.Blocks.{block}
use Rattle.module_derivations.specs.Empty.{made}
use Rattle.module_spelling.specs.Blocks.{wanted_by_block}
use Rattle.named_modules.specs.Faults.{block_faults}
use Rattle.std.specs.List.{flat_map}
use Rattle.fault_walk.proofs.blocks.note_blocks.Given as goal

abbrev pub invariant-loop-c : goal.invariant-loop-c
invariant-loop-c g l = record {
  same : SameText l.fn.c l.c;
  told : told_more l.within.heads (flat_map (block_faults l.within.heads (g.S.Gaps.called l.around) l.within.things) (made (ahead_of l.c)).blocks) (flat_map (wanted_by_block l.within.heads) (made (ahead_of l.c)).blocks) l.told
      ≡ told_more l.within.heads (flat_map (block_faults l.within.heads (g.S.Gaps.called l.around) l.within.things) (block (ahead_of l.fn.c) ∷ (made (skip 4 (ahead_of l.fn.c))).blocks)) (flat_map (wanted_by_block l.within.heads) (block (ahead_of l.fn.c) ∷ (made (skip 4 (ahead_of l.fn.c))).blocks)) l.fn.told;
  behind : behind (ahead_of l.c) ≡ skip 5 (ahead_of l.fn.c);
  shorter : length l.c.numbers.now ≤ length l.fn.c.numbers.now;
}

abbrev pub decreases-loop-c : goal.decreases-loop-c
decreases-loop-c g l = length l.c.numbers.now
