use Rattle.std.proofs.Common.{◌≡◌, [], drop}
use Rattle.ir_shape.specs.ShapeTests.Kinds.{are_apart, numbers_of}
use Rattle.ir_shape.proofs.shape_tests.ends.are_apart.Given as goal

abbrev pub invariant-loop-case : goal.invariant-loop-case
invariant-loop-case l = are_apart l.seen.keys (numbers_of l.value (drop l.case-index l.cases)) ≡ are_apart [] (numbers_of l.value l.cases)
