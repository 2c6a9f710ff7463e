use Rattle.std.proofs.Common.{◌≡◌, drop}
use Rattle.std.specs.List.{list_all}
use Rattle.ir_shape.specs.ShapeTests.Edges.{agrees, named}
use Rattle.ir_shape.specs.ShapeTests.Kinds.{froms_of}
use Rattle.ir_shape.proofs.shape_tests.few.edges_agree.Given as goal

abbrev pub invariant-loop-edge : goal.invariant-loop-edge
invariant-loop-edge l =
    list_all (agrees (named l.edges) (froms_of l.entries)) (named (drop l.edge-index l.edges)) ≡ list_all (agrees (named l.edges) (froms_of l.entries)) (named l.edges)
