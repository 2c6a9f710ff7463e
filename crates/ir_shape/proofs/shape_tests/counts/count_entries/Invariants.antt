use Rattle.std.proofs.Common.{◌≡◌, drop}
use Rattle.ir_shape.specs.ShapeTests.Counted.{count_in, counts_of, with_counts}
use Rattle.ir_shape.specs.ShapeTests.Kinds.{froms_of}
use Rattle.ir_shape.proofs.shape_tests.counts.count_entries.Given as goal

abbrev pub invariant-loop-entry : goal.invariant-loop-entry
invariant-loop-entry l = with_counts (count_in l.counts) (froms_of (drop l.entry-index l.entries)) ≡ counts_of (froms_of l.entries)
