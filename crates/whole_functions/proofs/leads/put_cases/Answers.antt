use Rattle.std.proofs.Common.{◌≡◌, ◌∙◌, ◌+◌, ◌<◌, true, length, drop, map, List, ap, rules}
use Rattle.ir_core.specs.declared.functions.Case.{Case}
use Rattle.ir_types.specs.declared.names.Name.{Name}
use Rattle.definedness.specs.Graph.{labels_in}
use Rattle.ir_shape.specs.ShapeTests.Edges.{rows_of, with_edges}
use Rattle.whole_shapes.specs.Whole.{AreLabels}
use Rattle.whole_functions.proofs.Edged.{places_more}
use Rattle.whole_functions.proofs.Finely.{back, next}
use Rattle.whole_functions.proofs.leads.put_cases.Goals as goal

pub loop-case-preserved : goal.loop-case-preserved
loop-case-preserved c =
    let labels = labels_in c.args.blocks.now in
    let cases = c.args.cases.now in
    let k = c.loop-case.case-index in
    let item = c.case-item.result in
    let yes : c.in_ok-put_edge.field-0 ≡ true = search rules in
    let within : k < length cases = search rules in (
      λ more.
          c.loop-case.invariant.0
          (back (λ (cs : List Case). AreLabels c.args.blocks.now (map (λ (d : Case). d.label) cs)) cases k item within c.case-item.is (c.in_ok-put_edge.ensures.known yes, more)),
      ap (λ (rows : List (List Name)). with_edges labels c.args.from.now rows (map (λ (d : Case). d.label) (drop (k + 1) cases))) (c.in_ok-put_edge.ensures.rows yes)
          ∙ ap (λ (cs : List Case). with_edges labels c.args.from.now (rows_of c.loop-case.rows.items) (map (λ (d : Case). d.label) cs)) (next cases k item within c.case-item.is)
          ∙ c.loop-case.invariant.1,
      places_more labels cases k item c.loop-case.places _ within c.case-item.is (c.in_ok-put_edge.ensures.places yes) ∙ c.loop-case.invariant.2,
    )
