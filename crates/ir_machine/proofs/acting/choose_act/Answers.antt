use Rattle.std.proofs.Common.{◌≡◌, rules, w64, to_z, of_z, subst, ℤ}
use Rattle.std.proofs.lemmas.Int.{to_z-of_z}
use Rattle.ir_machine.specs.Acting.{Answered, answer_to}
use Rattle.block_memory.specs.declared.items.Choice.TheVariants as choice
use Rattle.ir_machine.specs.Places.{world_in}
use Rattle.ir_machine.proofs.Acts.{act_told}
use Rattle.ir_machine.proofs.acting.choose_act.Goals as goal

pub returns-in-Some-Read-clause-answers : goal.returns-in-Some-Read-clause-answers
returns-in-Some-Read-clause-answers g c = λ p ps same.
    act_told p ps (world_in c.args.world.now) c.read.result c.take.result (g.C.Chooser.script c.args.chooser.now) (g.C.Chooser.script c.take.new.self)
    (g.C.Chooser.script c.read.new.chooser) c.in-Some-Read.field-0 (choice.Read c.in-Some-Read.name c.in-Some-Read.offset) (world_in c.read.new.world)
    c.take.ensures c.in-Some-Read.is c.in-Some-Read.field-0-is (let same : to_z w64 (of_z w64 c.in-Some-Read.offset) ≡ c.in-Some-Read.offset = to_z-of_z w64 c.in-Some-Read.offset (search rules) in
    subst (λ (z : ℤ). Answered c.read.result (answer_to (choice.Read c.in-Some-Read.name z) p ps (world_in c.args.world.now) (g.C.Chooser.script c.take.new.self)) p ps
    (world_in c.read.new.world) (g.C.Chooser.script c.read.new.chooser)) same (c.read.ensures.answers p ps))

pub returns-in-Some-Write-clause-answers : goal.returns-in-Some-Write-clause-answers
returns-in-Some-Write-clause-answers g c = λ p ps same.
    act_told p ps (world_in c.args.world.now) c.write.result c.take.result (g.C.Chooser.script c.args.chooser.now) (g.C.Chooser.script c.take.new.self)
    (g.C.Chooser.script c.take.new.self) c.in-Some-Write.field-0 (choice.Write c.in-Some-Write.name c.in-Some-Write.offset c.in-Some-Write.byte) (world_in c.write.new.world)
    c.take.ensures c.in-Some-Write.is c.in-Some-Write.field-0-is (let same : to_z w64 (of_z w64 c.in-Some-Write.offset) ≡ c.in-Some-Write.offset = to_z-of_z w64 c.in-Some-Write.offset (search rules) in
    subst (λ (z : ℤ). Answered c.write.result (answer_to (choice.Write c.in-Some-Write.name z c.in-Some-Write.byte) p ps (world_in c.args.world.now) (g.C.Chooser.script c.take.new.self)) p ps
    (world_in c.write.new.world) (g.C.Chooser.script c.take.new.self)) same (c.write.ensures.answers p ps (g.C.Chooser.script c.take.new.self)))

pub returns-in-Some-New-clause-answers : goal.returns-in-Some-New-clause-answers
returns-in-Some-New-clause-answers g c = λ p ps same.
    act_told p ps (world_in c.args.world.now) c.make_block.result c.take.result (g.C.Chooser.script c.args.chooser.now) (g.C.Chooser.script c.take.new.self)
    (g.C.Chooser.script c.take.new.self) c.in-Some-New.field-0 (choice.New c.in-Some-New.align c.in-Some-New.bytes) (world_in c.make_block.new.world)
    c.take.ensures c.in-Some-New.is c.in-Some-New.field-0-is (c.make_block.ensures.answers p ps (g.C.Chooser.script c.take.new.self))
