use Rattle.std.proofs.Common.{◌≡◌, map, drop}
use Rattle.crell_io.specs.MemShelf.{entry_pair, held}
use Rattle.crell_io.proofs.mem_shelf.find.Given as goal

-- the entries that are left answer as all do
abbrev pub invariant-loop-entry : goal.invariant-loop-entry
invariant-loop-entry l = held (map entry_pair (drop l.entry-index l.entries)) l.name ≡ held (map entry_pair l.entries) l.name
