use Rattle.std.proofs.Common.{◌≡◌, refl, subst, Option}
use Rattle.std.specs.Option.{option_copied}
use Rattle.block_memory.specs.declared.items.Choice.{Choice}
use Rattle.block_memory.specs.Names.{Chooses, chosen_maybe}
use Rattle.ir_machine.specs.Places.{world_in}
use Rattle.ir_machine.proofs.Showings.{undef_leads}
use Rattle.ir_machine.proofs.Telling.{undef_shown}
use Rattle.ir_machine.proofs.choosing.show_undef.Goals as goal

pub returns-clause-answers : goal.returns-clause-answers
returns-clause-answers g c = λ poison next.
    let same : option_copied c.as_ref.result ≡ c.take-choice.result = c.as_ref.ensures.value in
    undef_shown c.in-Some.own (world_in c.args.world.now) c.show.new.self (g.C.Chooser.script c.args.chooser.now) (g.C.Chooser.script c.take-choice.new.self) poison next
    c.args.kind c.take-choice.result c.show.result c.in-Some.is c.take-choice.ensures
    (subst (λ (o : Option Choice). Chooses c.args.world.now.names (chosen_maybe c.in-Some.own c.args.world.now.blocks c.args.world.now.names o) c.show.result c.show.new.self) same (c.show.ensures.chosen refl))

pub returns-clause-leads : goal.returns-clause-leads
returns-clause-leads g c = λ poison next.
    let same : option_copied c.as_ref.result ≡ c.take-choice.result = c.as_ref.ensures.value in
    undef_leads c.in-Some.own (world_in c.args.world.now) c.show.new.self (g.C.Chooser.script c.args.chooser.now) (g.C.Chooser.script c.take-choice.new.self) poison next
    c.args.kind c.in-Some.is c.take-choice.result c.show.result c.take-choice.ensures
    (subst (λ (o : Option Choice). Chooses c.args.world.now.names (chosen_maybe c.in-Some.own c.args.world.now.blocks c.args.world.now.names o) c.show.result c.show.new.self) same (c.show.ensures.chosen refl))
