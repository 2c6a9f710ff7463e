-- The pieces stand one behind the other.
use Rattle.std.proofs.Common.{ap}
use Rattle.std.specs.List.{flat_map}
use Rattle.ir_printer.specs.Printed.{case_text}
use Rattle.ir_printer.proofs.Told.{told_as, told_then}
use Rattle.ir_printer.proofs.terms.push_switch.Goals as goal

pub returns : goal.returns
returns c =
    told_then c.args.text.now c.put.new.self c.put-4.new.self _ _ c.put.ensures
    (told_then c.put.new.self c.push_typed_value.new.text c.put-4.new.self _ _ c.push_typed_value.ensures
    (told_then c.push_typed_value.new.text c.put-2.new.self c.put-4.new.self _ _ c.put-2.ensures
    (told_then c.put-2.new.self c.push_label.new.text c.put-4.new.self _ _ c.push_label.ensures
    (told_then c.push_label.new.text c.put-3.new.self c.put-4.new.self _ _ c.put-3.ensures
    (told_then c.put-3.new.self c.push_each.new.text c.put-4.new.self _ _ (told_as c.put-3.new.self c.push_each.new.text _ _ (ap (λ cases. flat_map case_text cases) c.as_slice.ensures) c.push_each.ensures) c.put-4.ensures)))))
