use Rattle.std.proofs.Common.{◌∙◌, sym}
use Rattle.ir_machine.proofs.InKind.{selected_in_kind}
use Rattle.ir_machine.proofs.operands.select_outcome.Goals as goal

pub returns-then-selects-clause-in_kind : goal.returns-then-selects-clause-in_kind
returns-then-selects-clause-in_kind c =
    selected_in_kind c.args.select.now.condition.ty c.args.select.now.left.ty c.args.select.now.right.ty
    c.operand_value-condition.result c.operand_value-left.result c.operand_value-right.result c.eval_select.result
    (sym c.selects.ensures ∙ c.if-selects.true) c.eval_select.ensures c.operand_value-left.ensures.in_kind c.operand_value-right.ensures.in_kind
