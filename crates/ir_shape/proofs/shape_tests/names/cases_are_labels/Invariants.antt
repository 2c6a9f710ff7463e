use Rattle.std.proofs.Common.{◌≡◌, drop, map}
use Rattle.ir_core.specs.declared.functions.Case.{Case}
use Rattle.ir_shape.specs.ShapeTests.Kinds.{are_labels}
use Rattle.ir_shape.proofs.shape_tests.names.cases_are_labels.Given as goal

abbrev pub invariant-loop-case : goal.invariant-loop-case
invariant-loop-case l =
    are_labels l.labels (map (λ (c : Case). c.label) (drop l.case-index l.cases)) ≡ are_labels l.labels (map (λ (c : Case). c.label) l.cases)
