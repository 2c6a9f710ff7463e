-- The pieces stand one behind the other.
use Rattle.ir_printer.proofs.Told.{told_then}
use Rattle.ir_printer.proofs.terms.push_cond_br.Goals as goal

pub returns : goal.returns
returns c =
    told_then c.args.text.now c.put.new.self c.push_label-2.new.text _ _ c.put.ensures
    (told_then c.put.new.self c.push_typed_value.new.text c.push_label-2.new.text _ _ c.push_typed_value.ensures
    (told_then c.push_typed_value.new.text c.put-2.new.self c.push_label-2.new.text _ _ c.put-2.ensures
    (told_then c.put-2.new.self c.push_label.new.text c.push_label-2.new.text _ _ c.push_label.ensures
    (told_then c.push_label.new.text c.put-3.new.self c.push_label-2.new.text _ _ c.put-3.ensures c.push_label-2.ensures))))
