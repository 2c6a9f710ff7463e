use Rattle.std.proofs.Common.{◌≡◌, ◌++◌, drop}
use Rattle.ir_shape.specs.ShapeTests.Edges.{no_rows, rows_of}
use Rattle.ir_shape.proofs.shape_tests.incoming.no_edges.Given as goal

abbrev pub invariant-loop-block : goal.invariant-loop-block
invariant-loop-block l = rows_of l.into.items ++ no_rows (drop l._block-index l.blocks) ≡ no_rows l.blocks
