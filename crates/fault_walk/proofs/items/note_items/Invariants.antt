use Rattle.std.proofs.Common.{◌≡◌, length}
use Rattle.std.specs.List.{flat_map}
use Rattle.derivation_cursor.specs.At.{ahead_of}
use Rattle.module_derivations.specs.Empty.{made}
use Rattle.module_spelling.specs.Blocks.{wanted_by_item}
use Rattle.named_modules.specs.Faults.{item_faults}
use Rattle.fault_walk.specs.Items.{functions_in}
use Rattle.fault_walk.specs.Told.{told_more}
use Rattle.fault_walk.proofs.items.note_items.Given as goal

-- what is told so far, and of the items that are left, of which these functions are built
abbrev pub invariant-loop-c : goal.invariant-loop-c
invariant-loop-c g l =
    let faults = item_faults l.sight (g.S.Gaps.called l.around) (g.S.Gaps.declared l.around) in
    record {
      left : l.left ≡ functions_in l.sight.types (made (ahead_of l.c)).whole.items;
      told : told_more l.sight (flat_map faults (made (ahead_of l.c)).whole.items) (flat_map (wanted_by_item l.sight) (made (ahead_of l.c)).whole.items) l.told
          ≡ told_more l.sight (flat_map faults (made (ahead_of l.fn.c)).whole.items) (flat_map (wanted_by_item l.sight) (made (ahead_of l.fn.c)).whole.items) l.fn.told;
    }

abbrev pub decreases-loop-c : goal.decreases-loop-c
decreases-loop-c g l = length l.c.numbers.now
