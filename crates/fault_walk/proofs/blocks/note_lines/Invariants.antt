use Rattle.std.proofs.Common.{◌≡◌, ◌≤◌, length}
use Rattle.derivation_cursor.specs.At.{SameText, ahead_of}
use Rattle.fault_walk.specs.Told.{told_more}
use Rattle.module_derivations.specs.FlatMarks.Flat.{behind}
use Rattle.module_derivations.specs.Empty.{made}
use Rattle.module_spelling.specs.Blocks.{wanted_by_line}
use Rattle.named_modules.specs.Faults.{line_faults}
use Rattle.std.specs.List.{flat_map}
use Rattle.fault_walk.proofs.blocks.note_lines.Given as goal

abbrev pub invariant-loop-c : goal.invariant-loop-c
invariant-loop-c g l = record {
  same : SameText l.fn.c l.c;
  told : told_more l.within.heads (flat_map (line_faults l.within.heads (g.S.Gaps.called l.around) l.within.things) (made (ahead_of l.c)).lines) (flat_map (wanted_by_line l.within.heads) (made (ahead_of l.c)).lines) l.told
      ≡ told_more l.within.heads (flat_map (line_faults l.within.heads (g.S.Gaps.called l.around) l.within.things) (made (ahead_of l.fn.c)).lines) (flat_map (wanted_by_line l.within.heads) (made (ahead_of l.fn.c)).lines) l.fn.told;
  behind : behind (ahead_of l.c) ≡ behind (ahead_of l.fn.c);
  shorter : length l.c.numbers.now ≤ length l.fn.c.numbers.now;
}

abbrev pub decreases-loop-c : goal.decreases-loop-c
decreases-loop-c g l = length l.c.numbers.now
