use Rattle.std.proofs.Common.{◌≡◌, drop}
use Rattle.std.specs.List.{list_all}
use Rattle.ir_shape.specs.ShapeTests.Edges.{alike_with}
use Rattle.ir_shape.proofs.shape_tests.few.is_alike.Given as goal

abbrev pub invariant-loop-entry : goal.invariant-loop-entry
invariant-loop-entry l = list_all (alike_with l.one) (drop l.entry-index l.entries) ≡ list_all (alike_with l.one) l.entries
