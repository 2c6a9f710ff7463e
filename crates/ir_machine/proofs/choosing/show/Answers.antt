use Rattle.std.specs.Prelude.{None}
use Rattle.ir_core.specs.declared.values.Kind.TheVariants.{Ptr}
use Rattle.ir_machine.specs.Places.{world_in}
use Rattle.ir_machine.proofs.Showings.{value_leads}
use Rattle.ir_machine.proofs.Telling.{value_shown}
use Rattle.ir_machine.proofs.choosing.show.Goals as goal

pub returns-in_default-clause-answers : goal.returns-in_default-clause-answers
returns-in_default-clause-answers g c = λ poison next.
    value_shown c.args.kind Ptr (world_in c.args.world.now) c.show.new.self (g.C.Chooser.script c.args.chooser.now) poison next
    c.args.value None c.show.result c.in_default.not-Undef c.show.ensures.ok c.show.ensures.wrong c.show.ensures.no_choice

pub returns-in_default-clause-leads : goal.returns-in_default-clause-leads
returns-in_default-clause-leads g c = λ poison next.
    value_leads c.args.kind Ptr (world_in c.args.world.now) c.show.new.self (g.C.Chooser.script c.args.chooser.now) poison next
    c.args.value None c.show.result c.in_default.not-Undef c.show.ensures.ok c.show.ensures.wrong c.show.ensures.no_choice
