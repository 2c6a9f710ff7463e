use Rattle.std.proofs.Common.{◌∙◌, ◌++◌, sym, ap, subst}
use Rattle.std.proofs.lemmas.Result.{IfOk-weaker}
use Rattle.std.specs.Str.{IsAscii}
use Rattle.ir_printer.specs.ExpressionPrinter.Printed.{printed_expr, printed_register}
use Rattle.ir_printer.proofs.ExpressionPrinter.AsciiTexts.{logic_is_ascii}
use Rattle.ir_printer.proofs.expression_printer.expressions.print_expr.Goals as goal

pub returns-clause-ascii : goal.returns-clause-ascii
returns-clause-ascii c =
    let e = c.args.expr.now in
    IfOk-weaker c.finish.result _ _
    (λ text told. subst (λ bytes. IsAscii bytes)
    (sym (told.1 ∙ (c.push_expr.ensures told.0).1 ∙ ap (λ t. t ++ printed_expr printed_register e) c.new-text.ensures)) (logic_is_ascii e))
    c.finish.ensures
