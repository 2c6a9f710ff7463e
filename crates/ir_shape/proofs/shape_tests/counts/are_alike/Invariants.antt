use Rattle.std.proofs.Common.{◌≡◌, drop}
use Rattle.ir_shape.specs.ShapeTests.Counted.{alike_along, first_in, none_first}
use Rattle.ir_shape.proofs.shape_tests.counts.are_alike.Given as goal

abbrev pub invariant-loop-entry : goal.invariant-loop-entry
invariant-loop-entry l = alike_along (first_in l.firsts) (drop l.entry-index l.entries) ≡ alike_along none_first l.entries
