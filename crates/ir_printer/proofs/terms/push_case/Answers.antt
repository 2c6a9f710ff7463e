-- The pieces stand one behind the other.
use Rattle.std.proofs.Common.{ap}
use Rattle.ir_printer.specs.ExpressionPrinter.Printed.{number_text}
use Rattle.ir_printer.proofs.Told.{told_as, told_then}
use Rattle.ir_printer.proofs.terms.push_case.Goals as goal

pub returns : goal.returns
returns c =
    told_then c.args.text.now c.put.new.self c.put_byte-2.new.self _ _ c.put.ensures
    (told_then c.put.new.self c.push_type.new.text c.put_byte-2.new.self _ _ c.push_type.ensures
    (told_then c.push_type.new.text c.put_byte.new.self c.put_byte-2.new.self _ _ c.put_byte.ensures
    (told_then c.put_byte.new.self c.push_number.new.text c.put_byte-2.new.self _ _ (told_as c.put_byte.new.self c.push_number.new.text _ _ (ap (λ number. number_text c.args.case.now.ty number) c.get.ensures) c.push_number.ensures)
    (told_then c.push_number.new.text c.put-2.new.self c.put_byte-2.new.self _ _ c.put-2.ensures
    (told_then c.put-2.new.self c.push_label.new.text c.put_byte-2.new.self _ _ c.push_label.ensures c.put_byte-2.ensures)))))
