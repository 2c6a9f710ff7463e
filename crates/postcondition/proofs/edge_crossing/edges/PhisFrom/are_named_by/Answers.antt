use Rattle.std.proofs.Common.{◌∙◌, ap, List}
use Rattle.ir_types.specs.declared.names.Name.{Name}
use Rattle.ir_core.specs.declared.functions.Phi.{Phi}
use Rattle.erhl_assert.specs.Facts.{fact_has}
use Rattle.erhl_assert.specs.Edges.{is_of_phi}
use Rattle.postcondition.proofs.edge_crossing.edges.PhisFrom.are_named_by.Goals as goal

pub returns : goal.returns
returns c = c.fact_has.ensures ∙ ap (λ (seen : Name × List Phi). fact_has (is_of_phi seen.1) c.args.fact.now) c.self.view_is
