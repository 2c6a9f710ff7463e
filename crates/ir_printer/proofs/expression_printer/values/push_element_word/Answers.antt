-- The second word stands behind the first.
use Rattle.ir_printer.proofs.Told.{told_then}
use Rattle.ir_printer.proofs.expression_printer.values.push_element_word.Goals as goal

pub returns : goal.returns
returns c = told_then c.args.text.now c.put.new.self c.push_flag.new.text _ _ c.put.ensures c.push_flag.ensures
