use Rattle.std.proofs.Common.{◌≡◌, drop}
use Rattle.ir_shape.specs.ShapeTests.Counted.{count_in, counts_of, with_counts}
use Rattle.ir_shape.specs.ShapeTests.Edges.{named}
use Rattle.ir_shape.proofs.shape_tests.counts.count_edges.Given as goal

abbrev pub invariant-loop-edge : goal.invariant-loop-edge
invariant-loop-edge l = with_counts (count_in l.counts) (named (drop l.edge-index l.edges)) ≡ counts_of (named l.edges)
