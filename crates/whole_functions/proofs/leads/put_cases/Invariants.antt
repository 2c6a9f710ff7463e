use Rattle.std.proofs.Common.{◌≡◌, ◌++◌, drop, map}
use Rattle.ir_core.specs.declared.functions.Case.{Case}
use Rattle.definedness.specs.Graph.{labels_in, places_in}
use Rattle.ir_shape.specs.ShapeTests.Edges.{rows_of, with_edges}
use Rattle.whole_shapes.specs.Whole.{AreLabels}
use Rattle.whole_functions.proofs.leads.put_cases.Given as goal

-- the cases that are left decide
abbrev pub invariant-loop-case : goal.invariant-loop-case
invariant-loop-case l =
    (AreLabels l.blocks (map (λ (c : Case). c.label) (drop l.case-index l.cases)) → AreLabels l.blocks (map (λ (c : Case). c.label) l.cases))
    × (with_edges (labels_in l.blocks) l.from (rows_of l.rows.items) (map (λ (c : Case). c.label) (drop l.case-index l.cases))
    ≡ with_edges (labels_in l.blocks) l.from (rows_of l.initial.rows.items) (map (λ (c : Case). c.label) l.cases))
    × (l.places ++ places_in (labels_in l.blocks) (map (λ (c : Case). c.label) (drop l.case-index l.cases))
    ≡ l.initial.places ++ places_in (labels_in l.blocks) (map (λ (c : Case). c.label) l.cases))
