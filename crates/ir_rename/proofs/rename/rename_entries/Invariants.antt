use Rattle.std.proofs.Common.{◌≡◌, ◌++◌, drop, map}
use Rattle.ir_rename.specs.Lent.{renamed}
use Rattle.ir_rename.specs.Renamed.{rename_entry}
use Rattle.ir_rename.proofs.rename.rename_entries.Given as goal

abbrev pub invariant-loop-entry : goal.invariant-loop-entry
invariant-loop-entry l = l.renamed.items ++ map (rename_entry (renamed l.names)) (drop l.entry-index l.entries) ≡ map (rename_entry (renamed l.names)) l.entries
