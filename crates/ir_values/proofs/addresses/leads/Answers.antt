use Rattle.std.proofs.Common.{◌∙◌, sym}
use Rattle.ir_values.proofs.LedSmall.{leads_by}
use Rattle.ir_values.proofs.addresses.leads.Goals as goal

pub returns-then-is_small : goal.returns-then-is_small
returns-then-is_small g c =
    c.leads_inside.ensures ∙ leads_by c.args.types.now c.args.of.now (g.I.Indices.listed c.args.indices.now) (sym c.is_small.ensures ∙ c.if-is_small.true)
