-- The pieces stand one behind the other.
use Rattle.ir_printer.proofs.Told.{told_then}
use Rattle.ir_printer.proofs.lines.push_call.Goals as goal

pub returns : goal.returns
returns c =
    told_then c.args.text.now c.push_may_set.new.text c.push_callee.new.text _ _ c.push_may_set.ensures
    (told_then c.push_may_set.new.text c.put.new.self c.push_callee.new.text _ _ c.put.ensures
    (told_then c.put.new.self c.push_extensions.new.text c.push_callee.new.text _ _ c.push_extensions.ensures
    (told_then c.push_extensions.new.text c.push_type.new.text c.push_callee.new.text _ _ c.push_type.ensures
    (told_then c.push_type.new.text c.put_byte.new.self c.push_callee.new.text _ _ c.put_byte.ensures
    (told_then c.put_byte.new.self c.push_called.new.text c.push_callee.new.text _ _ c.push_called.ensures c.push_callee.ensures)))))
