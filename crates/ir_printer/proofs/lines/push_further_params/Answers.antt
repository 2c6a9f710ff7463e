use Rattle.std.proofs.Common.{true}
use Rattle.ir_core.specs.declared.modules.DeclaredParam.{DeclaredParam}
use Rattle.ir_printer.specs.ExpressionPrinter.Printed.{printed_type}
use Rattle.ir_printer.proofs.Dots.{dots_behind}
use Rattle.ir_printer.proofs.Told.{told_as, told_then}
use Rattle.ir_printer.proofs.lines.push_further_params.Goals as goal

pub returns : goal.returns
returns c =
    told_as c.args.text.now c.push_dots.new.text _ _
    (dots_behind (λ (p : DeclaredParam). printed_type p.ty) c.args.params.now c.is_empty.result true c.is_empty.ensures)
    (told_then c.args.text.now c.push_listed.new.text c.push_dots.new.text _ _ c.push_listed.ensures c.push_dots.ensures)
