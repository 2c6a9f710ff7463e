-- The pieces stand one behind the other.
use Rattle.std.proofs.Common.{ap}
use Rattle.ir_printer.specs.ExpressionPrinter.Printed.{further_operands}
use Rattle.ir_printer.proofs.Told.{told_as, told_then}
use Rattle.ir_printer.proofs.expression_printer.expressions.push_element.Goals as goal

pub returns : goal.returns
returns g c =
    told_then c.args.text.now c.put.new.self c.push_each.new.text _ _ c.put.ensures
    (told_then c.put.new.self c.push_flag.new.text c.push_each.new.text _ _ c.push_flag.ensures
    (told_then c.push_flag.new.text c.push_type.new.text c.push_each.new.text _ _ c.push_type.ensures
    (told_then c.push_type.new.text c.push_next.new.text c.push_each.new.text _ _ c.push_next.ensures
    (told_as c.push_next.new.text c.push_each.new.text _ _ (ap (λ os. further_operands g.R.Register.printed os) c.as_slice.ensures) c.push_each.ensures))))
