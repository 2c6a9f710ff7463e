use Rattle.std.proofs.Common.{◌≡◌, drop}
use Rattle.std.specs.List.{list_all}
use Rattle.ir_shape.specs.ShapeTests.Counted.{agree_at, count_in}
use Rattle.ir_shape.specs.ShapeTests.Edges.{named}
use Rattle.ir_shape.proofs.shape_tests.phis.edges_agree.Given as goal

abbrev pub invariant-loop-edge : goal.invariant-loop-edge
invariant-loop-edge l =
    list_all (agree_at (count_in l.counts) (count_in l.others)) (named (drop l.edge-index l.edges)) ≡ list_all (agree_at (count_in l.counts) (count_in l.others)) (named l.edges)
