use Rattle.std.proofs.Common.{◌≡◌, ◌∙◌, ap, sym, length, [], ◌∷◌, ◌++◌, Option, ℕ, None, Some}
use Rattle.block_memory.specs.declared.items.ShownByte.TheVariants.{Frag}
use Rattle.block_memory.specs.Names.{name_of}
use Rattle.ir_machine.specs.Choices.{answer}
use Rattle.ir_machine.specs.Machine.{show_part}
use Rattle.ir_machine.specs.Places.{world_in}
use Rattle.ir_machine.proofs.acting.show_part.Goals as goal

pub returns-in-Err-clause-answers : goal.returns-in-Err-clause-answers
returns-in-Err-clause-answers g c = λ next.
    let none : name_of c.args.world.now.names c.args.block ≡ None = sym c.name_of.ensures ∙ c.in-None.is in (
      Frag (length c.args.world.now.names) c.args.offset c.args.place,
      record (world_in c.args.world.now) { names = c.args.world.now.names ++ Some c.args.block ∷ [] },
      ap (λ (o : Option ℕ). answer (show_part o c.args.block c.args.offset c.args.place (world_in c.args.world.now) next) (g.C.Chooser.script c.args.chooser.now)) none,
    )
