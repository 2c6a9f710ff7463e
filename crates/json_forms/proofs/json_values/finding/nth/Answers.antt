use Rattle.std.proofs.Common.{Some, ap, ◌∙◌, arith}
use Rattle.json_forms.specs.JsonValues.View.{view}
use Rattle.json_forms.proofs.JsonValues.Members.{get_item_within, get_item_past}
use Rattle.json_forms.proofs.json_values.finding.nth.Goals as goal

pub returns-then-index-items : goal.returns-then-index-items
returns-then-index-items c = ap (λ v. Some (view v)) c.index-items-index.is ∙ get_item_within c.args.items.now c.args.index c.index-items-index.result (omega arith)

pub returns-else-index-items : goal.returns-else-index-items
returns-else-index-items c = get_item_past c.args.items.now c.args.index (omega arith)
