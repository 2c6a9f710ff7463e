-- The pieces stand one behind the other.
use Rattle.ir_printer.proofs.Told.{told_as, told_then}
use Rattle.ir_printer.proofs.modules.push_head.Goals as goal

pub returns : goal.returns
returns c =
    told_then c.args.text.now c.put.new.self c.push_signature.new.text _ _ c.put.ensures
    (told_then c.put.new.self c.put-2.new.self c.push_signature.new.text _ _ (told_as c.put.new.self c.put-2.new.self _ _ c.linkage_text.ensures c.put-2.ensures)
    (told_then c.put-2.new.self c.push_extensions.new.text c.push_signature.new.text _ _ c.push_extensions.ensures
    (told_then c.push_extensions.new.text c.push_type.new.text c.push_signature.new.text _ _ c.push_type.ensures
    (told_then c.push_type.new.text c.put_byte.new.self c.push_signature.new.text _ _ c.put_byte.ensures c.push_signature.ensures))))
