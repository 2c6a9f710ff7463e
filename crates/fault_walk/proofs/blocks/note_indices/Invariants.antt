use Rattle.std.proofs.Common.{◌≡◌, ◌≤◌, map, length}
use Rattle.derivation_cursor.specs.At.{SameText, ahead_of}
use Rattle.fault_walk.proofs.Behind.{IsLed}
use Rattle.fault_walk.specs.Lines.{built_index}
use Rattle.fault_walk.specs.Told.{told_more}
use Rattle.module_derivations.specs.FlatMarks.Flat.{behind}
use Rattle.module_derivations.specs.Empty.{made}
use Rattle.module_spelling.specs.Blocks.{wanted_by_operand}
use Rattle.named_modules.specs.Faults.{operand_faults}
use Rattle.std.specs.List.{flat_map}
use Rattle.fault_walk.proofs.blocks.note_indices.Given as goal

abbrev pub invariant-loop-c : goal.invariant-loop-c
invariant-loop-c l = record {
  same : SameText l.fn.c l.c;
  path : IsLed l.within.heads.types l.of.ty l.path (map built_index (made (ahead_of l.c)).indices_behind.indices) (map built_index (made (ahead_of l.fn.c)).indices_behind.indices);
  told : told_more l.within.heads (flat_map (operand_faults l.within.heads l.within.things) (made (ahead_of l.c)).indices_behind.indices) (flat_map (wanted_by_operand l.within.heads) (made (ahead_of l.c)).indices_behind.indices) l.told
      ≡ told_more l.within.heads (flat_map (operand_faults l.within.heads l.within.things) (made (ahead_of l.fn.c)).indices_behind.indices) (flat_map (wanted_by_operand l.within.heads) (made (ahead_of l.fn.c)).indices_behind.indices) l.fn.told;
  behind : behind (ahead_of l.c) ≡ behind (ahead_of l.fn.c);
  shorter : length l.c.numbers.now ≤ length l.fn.c.numbers.now;
}

abbrev pub decreases-loop-c : goal.decreases-loop-c
decreases-loop-c l = length l.c.numbers.now
