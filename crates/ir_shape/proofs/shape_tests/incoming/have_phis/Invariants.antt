use Rattle.std.proofs.Common.{◌≡◌, drop}
use Rattle.std.specs.List.{list_any}
use Rattle.ir_shape.specs.ShapeTests.Edges.{has_phis}
use Rattle.ir_shape.proofs.shape_tests.incoming.have_phis.Given as goal

abbrev pub invariant-loop-block : goal.invariant-loop-block
invariant-loop-block l = list_any has_phis (drop l.block-index l.blocks) ≡ list_any has_phis l.blocks
