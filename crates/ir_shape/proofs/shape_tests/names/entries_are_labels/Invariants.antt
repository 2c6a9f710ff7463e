use Rattle.std.proofs.Common.{◌≡◌, drop}
use Rattle.ir_shape.specs.ShapeTests.Kinds.{are_labels, froms_of}
use Rattle.ir_shape.proofs.shape_tests.names.entries_are_labels.Given as goal

abbrev pub invariant-loop-entry : goal.invariant-loop-entry
invariant-loop-entry l = are_labels l.labels (froms_of (drop l.entry-index l.entries)) ≡ are_labels l.labels (froms_of l.entries)
