use Rattle.ir_printer.specs.Printed.{declared_param_text}
use Rattle.ir_printer.proofs.Dots.{dots_behind}
use Rattle.ir_printer.proofs.Told.{told_as, told_then}
use Rattle.ir_printer.proofs.modules.push_declared_params.Goals as goal

pub returns : goal.returns
returns c =
    told_as c.args.text.now c.push_dots.new.text _ _ (dots_behind declared_param_text c.args.params.now c.is_empty.result c.args.variadic c.is_empty.ensures)
    (told_then c.args.text.now c.push_listed.new.text c.push_dots.new.text _ _ c.push_listed.ensures c.push_dots.ensures)
