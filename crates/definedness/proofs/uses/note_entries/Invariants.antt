use Rattle.std.proofs.Common.{◌≡◌, ◌++◌, drop, map}
use Rattle.definedness.specs.Along.{left_by_entries, use_of}
use Rattle.definedness.proofs.uses.note_entries.Given as goal

abbrev pub invariant-loop-entry : goal.invariant-loop-entry
invariant-loop-entry l =
    map use_of l.uses.items ++ left_by_entries l.known.params l.block l.line (drop l.entry-index l.entries)
    ≡ map use_of l.initial.uses.items ++ left_by_entries l.known.params l.block l.line l.entries
