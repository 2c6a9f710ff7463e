use Rattle.std.proofs.Common.{◌≡◌, ◌∙◌, ◌++◌, true, List, map, ap, rules}
use Rattle.ir_core.specs.declared.functions.Case.{Case}
use Rattle.definedness.specs.Graph.{labels_in, places_in}
use Rattle.whole_functions.proofs.Edged.{places_joined}
use Rattle.whole_functions.proofs.leads.put_switch.Goals as goal

pub returns-clause-places : goal.returns-clause-places
returns-clause-places c known =
    let labels = labels_in c.args.blocks.now in
    let one : c.in_ok-put_edge.field-0 ≡ true = search rules in
    let all : c.in_ok-put_cases.field-0 ≡ true = search rules in
    places_joined labels c.args.switch.now.default (map (λ (d : Case). d.label) c.args.switch.now.cases) c.args.places.now c.put_edge.new.places _
    (c.in_ok-put_edge.ensures.places one)
    (c.in_ok-put_cases.ensures.places all ∙ ap (λ (cs : List Case). c.put_edge.new.places ++ places_in labels (map (λ (d : Case). d.label) cs)) c.as_slice.ensures)
