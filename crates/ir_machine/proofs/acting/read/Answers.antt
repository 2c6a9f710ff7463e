use Rattle.std.proofs.Common.{◌∙◌, ap, sym, Err}
use Rattle.std.proofs.Common.{w64}
use Rattle.std.proofs.lemmas.Int.{to_z-of_z}
use Rattle.ir_machine.specs.Machine.{byte_reached}
use Rattle.ir_machine.specs.Places.{world_in}
use Rattle.ir_machine.proofs.Acts.{read_refused}
use Rattle.ir_machine.proofs.acting.read.Goals as goal

pub returns-in-Err-Memory-clause-answers : goal.returns-in-Err-Memory-clause-answers
returns-in-Err-Memory-clause-answers g c = λ p ps.
    read_refused (world_in c.args.world.now) (world_in c.show_byte.new.world) c.args.name c.args.offset c.in-Some.byte c.show_byte.result
    (g.C.Chooser.script c.args.chooser.now) (g.C.Chooser.script c.show_byte.new.chooser) (ap (byte_reached (world_in c.args.world.now) c.args.name) (sym (to_z-of_z w64 c.args.offset c.ranges.offset)) ∙ sym c.byte_reached.ensures ∙ c.in-Some.is)
    (c.in-Err-Memory.is ∙ ap Err c.in-Err-Memory.field-0-is) c.show_byte.ensures.answers p ps
