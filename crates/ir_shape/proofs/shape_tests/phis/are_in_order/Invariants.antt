use Rattle.std.proofs.Common.{◌≡◌, drop}
use Rattle.ir_shape.specs.ShapeTests.Edges.{named}
use Rattle.ir_shape.specs.ShapeTests.Kinds.{froms_of}
use Rattle.ir_shape.proofs.shape_tests.phis.are_in_order.Given as goal

-- the others decide
abbrev pub invariant-loop-at : goal.invariant-loop-at
invariant-loop-at l = froms_of (drop l.at l.entries) ≡ named (drop l.at l.edges) → froms_of l.entries ≡ named l.edges
