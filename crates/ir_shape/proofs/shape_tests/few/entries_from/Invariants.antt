use Rattle.std.proofs.Common.{◌≡◌, ◌+◌, ◌≤◌, drop}
use Rattle.ir_shape.specs.ShapeTests.Kinds.{count_of, froms_of}
use Rattle.ir_shape.proofs.shape_tests.few.entries_from.Given as goal

abbrev pub invariant-loop-entry : goal.invariant-loop-entry
invariant-loop-entry l = (l.count + count_of l.name (froms_of (drop l.entry-index l.entries)) ≡ count_of l.name (froms_of l.entries)) × (l.count ≤ l.entry-index)
