use Rattle.std.proofs.Common.{◌≡◌, ◌+◌, ◌≤◌, drop}
use Rattle.ir_shape.specs.ShapeTests.Edges.{named}
use Rattle.ir_shape.specs.ShapeTests.Kinds.{count_of}
use Rattle.ir_shape.proofs.shape_tests.few.edges_from.Given as goal

abbrev pub invariant-loop-edge : goal.invariant-loop-edge
invariant-loop-edge l = (l.count + count_of l.name (named (drop l.edge-index l.edges)) ≡ count_of l.name (named l.edges)) × (l.count ≤ l.edge-index)
