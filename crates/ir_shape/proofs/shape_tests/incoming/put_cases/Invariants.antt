use Rattle.std.proofs.Common.{◌≡◌, drop, map}
use Rattle.ir_core.specs.declared.functions.Case.{Case}
use Rattle.ir_shape.specs.ShapeTests.Edges.{rows_of, with_edges}
use Rattle.ir_shape.proofs.shape_tests.incoming.put_cases.Given as goal

abbrev pub invariant-loop-case : goal.invariant-loop-case
invariant-loop-case l =
    with_edges l.labels l.from (rows_of l.into.items) (map (λ (c : Case). c.label) (drop l.case-index l.cases))
    ≡ with_edges l.labels l.from (rows_of l.initial.into.items) (map (λ (c : Case). c.label) l.cases)
