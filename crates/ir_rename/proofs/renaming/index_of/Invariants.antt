use Rattle.std.proofs.Common.{◌≡◌, ◌≤◌, length}
use Rattle.ir_types.specs.declared.names.Name.{Name}
use Rattle.ir_core.specs.NameIndexes.Places.{place_in}
use Rattle.ir_core.proofs.NameIndexes.FirstPlaces.{place_behind}
use Rattle.ir_rename.specs.Lent.{lent}
use Rattle.ir_rename.proofs.renaming.index_of.Given as goal

-- the names from that place on are put
abbrev pub invariant-loop-at : goal.invariant-loop-at
invariant-loop-at l = (l.at ≤ length l.names) × ((name : Name) → place_in l.index name ≡ place_behind name l.at (lent l.names))

abbrev pub decreases-loop-at : goal.decreases-loop-at
decreases-loop-at l = l.at
