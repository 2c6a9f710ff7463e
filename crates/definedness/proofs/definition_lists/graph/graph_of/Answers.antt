use Rattle.std.proofs.Common.{◌∙◌, ap, subst, sym}
use Rattle.flow_solver.specs.Ways.{LeadsWithin}
use Rattle.ir_core.specs.NameIndexes.Places.{ArePlaces}
use Rattle.definedness.specs.Graph.{labels_in}
use Rattle.definedness.proofs.Graphs.{graph_within}
use Rattle.definedness.specs.DefinitionLists.Shown.{named}
use Rattle.definedness.proofs.DefinitionLists.Placing.{graph_is}
use Rattle.definedness.proofs.definition_lists.graph.graph_of.Goals as goal

pub new-requires : goal.new-requires
new-requires c =
    let bs = c.args.blocks.now in
    let are = subst (ArePlaces c.in_ok-labels.labels) (ap named c.as_slice.ensures.value ∙ c.in_ok-names.ensures) c.in_ok-labels.ensures in
    subst LeadsWithin (sym (c.in_ok-rows.ensures ∙ graph_is c.in_ok-labels.labels (labels_in bs) are bs)) (graph_within bs)

pub returns : goal.returns
returns c =
    let bs = c.args.blocks.now in
    let are = subst (ArePlaces c.in_ok-labels.labels) (ap named c.as_slice.ensures.value ∙ c.in_ok-names.ensures) c.in_ok-labels.ensures in
    c.new.ensures ∙ c.in_ok-rows.ensures ∙ graph_is c.in_ok-labels.labels (labels_in bs) are bs
