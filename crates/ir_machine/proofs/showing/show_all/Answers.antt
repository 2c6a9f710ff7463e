use Rattle.std.proofs.Common.{◌≡◌, ◌∙◌, ◌++◌, [], ◌∷◌, ◌+◌, List, drop, sym, subst, refl}
use Rattle.std.proofs.lemmas.List.{append-nil}
use Rattle.block_memory.specs.declared.items.Shown.{Shown}
use Rattle.block_memory.specs.Memory.{Memory}
use Rattle.block_memory.specs.Names.{Names}
use Rattle.ir_machine.specs.declared.machine.KeptWorld.{KeptWorld}
use Rattle.ir_machine.specs.Machine.{arguments_of, show_all}
use Rattle.ir_machine.specs.Places.{registers_in, world_in}
use Rattle.ir_machine.specs.State.{scope_of}
use Rattle.ir_machine.proofs.Showings.{AllLead, all_shown, all_take, first_argument, leads_nowhere, more_shown, names_back, names_more, no_argument, one_fails, one_takes}
use Rattle.ir_machine.proofs.showing.show_all.Goals as goal

pub loop-argument-init : goal.loop-argument-init
loop-argument-init g c = record {
  shown = subst (λ (done : List Shown). AllLead (arguments_of (scope_of c.args.module.now) (registers_in c.args.registers.now) c.args.arguments.now) (world_in c.args.world.now) (g.C.Chooser.script c.args.chooser.now) (arguments_of (scope_of c.args.module.now) (registers_in c.args.registers.now) c.args.arguments.now) done (world_in c.args.world.now) (g.C.Chooser.script c.args.chooser.now)) (sym c.new-shown.ensures)
      (λ next. leads_nowhere (show_all (arguments_of (scope_of c.args.module.now) (registers_in c.args.registers.now) c.args.arguments.now) (world_in c.args.world.now) next) (g.C.Chooser.script c.args.chooser.now));
  blocks = refl;
  names = ([], sym (append-nil c.args.world.now.names));
}

pub loop-argument-preserved : goal.loop-argument-preserved
loop-argument-preserved g c = record {
  shown = subst (λ (done : List Shown). AllLead (arguments_of (scope_of c.args.module.now) (registers_in c.args.registers.now) c.args.arguments.now) (world_in c.args.world.now) (g.C.Chooser.script c.args.chooser.now) (arguments_of (scope_of c.args.module.now) (registers_in c.args.registers.now) (drop (c.loop-argument.argument-index + 1) c.args.arguments.now)) done (world_in c.show.new.world) (g.C.Chooser.script c.show.new.chooser)) (sym c.in-Ok-push.ensures.ok)
      (more_shown (arguments_of (scope_of c.args.module.now) (registers_in c.args.registers.now) c.args.arguments.now) (arguments_of (scope_of c.args.module.now) (registers_in c.args.registers.now) (drop c.loop-argument.argument-index c.args.arguments.now)) (world_in c.args.world.now) (world_in c.loop-argument.world) (g.C.Chooser.script c.args.chooser.now) (g.C.Chooser.script c.loop-argument.chooser) c.loop-argument.shown c.loop-argument.invariant.shown c.kind_of.result c.operand_value-value.result (arguments_of (scope_of c.args.module.now) (registers_in c.args.registers.now) (drop (c.loop-argument.argument-index + 1) c.args.arguments.now))
      (first_argument (scope_of c.args.module.now) (registers_in c.args.registers.now) c.args.arguments.now c.loop-argument.argument-index c.argument-item.result
      c.kind_of.result c.operand_value-value.result c.loop-argument-test.true c.argument-item.is c.kind_of.ensures c.operand_value-value.ensures.value)
      (world_in c.show.new.world) (g.C.Chooser.script c.show.new.chooser) c.in-Ok.next c.in-Ok.ensures.leads);
  blocks = c.show.ensures.memory ∙ c.loop-argument.invariant.blocks;
  names = names_more c.args.world.now.names c.loop-argument.world.names c.show.new.world.names c.loop-argument.invariant.names.0 c.loop-argument.invariant.names.1 c.show.ensures.kept;
}

pub returns-in_default-clause-told : goal.returns-in_default-clause-told
returns-in_default-clause-told g c = λ next h.
    all_take (arguments_of (scope_of c.args.module.now) (registers_in c.args.registers.now) c.args.arguments.now) (arguments_of (scope_of c.args.module.now) (registers_in c.args.registers.now) (drop (c.loop-argument.argument-index + 1) c.args.arguments.now)) (world_in c.args.world.now) (world_in c.show.new.world) (g.C.Chooser.script c.args.chooser.now) (g.C.Chooser.script c.show.new.chooser) (c.loop-argument.shown ++ c.in-Ok.next ∷ [])
    (more_shown (arguments_of (scope_of c.args.module.now) (registers_in c.args.registers.now) c.args.arguments.now) (arguments_of (scope_of c.args.module.now) (registers_in c.args.registers.now) (drop c.loop-argument.argument-index c.args.arguments.now)) (world_in c.args.world.now) (world_in c.loop-argument.world) (g.C.Chooser.script c.args.chooser.now) (g.C.Chooser.script c.loop-argument.chooser) c.loop-argument.shown c.loop-argument.invariant.shown c.kind_of.result c.operand_value-value.result (arguments_of (scope_of c.args.module.now) (registers_in c.args.registers.now) (drop (c.loop-argument.argument-index + 1) c.args.arguments.now))
    (first_argument (scope_of c.args.module.now) (registers_in c.args.registers.now) c.args.arguments.now c.loop-argument.argument-index c.argument-item.result
    c.kind_of.result c.operand_value-value.result c.loop-argument-test.true c.argument-item.is c.kind_of.ensures c.operand_value-value.ensures.value)
    (world_in c.show.new.world) (g.C.Chooser.script c.show.new.chooser) c.in-Ok.next c.in-Ok.ensures.leads) next h

pub returns-in_default-clause-same : goal.returns-in_default-clause-same
returns-in_default-clause-same g c =
    let more = names_more c.args.world.now.names c.loop-argument.world.names c.show.new.world.names c.loop-argument.invariant.names.0 c.loop-argument.invariant.names.1 c.show.ensures.kept in
    world_same (c.show.ensures.memory ∙ c.loop-argument.invariant.blocks)
    (c.cut_to.ensures ∙ names_back c.args.world.now.names more.0 c.show.new.world.names c.count-known.result c.count-known.ensures more.1)
  where
    world_same : {b d : Memory} {m n : Names} → b ≡ d → m ≡ n → ◌≡◌ {A = KeptWorld} (record { blocks = b; names = m }) (record { blocks = d; names = n })
    world_same e f = λ i. record { blocks = e i; names = f i }

pub returns-in-Err-clause-answers : goal.returns-in-Err-clause-answers
returns-in-Err-clause-answers g c = λ next.
    one_fails (arguments_of (scope_of c.args.module.now) (registers_in c.args.registers.now) c.args.arguments.now) (arguments_of (scope_of c.args.module.now) (registers_in c.args.registers.now) (drop c.loop-argument.argument-index c.args.arguments.now)) (world_in c.args.world.now) (world_in c.loop-argument.world) (g.C.Chooser.script c.args.chooser.now) (g.C.Chooser.script c.loop-argument.chooser) c.loop-argument.shown c.loop-argument.invariant.shown c.kind_of.result c.operand_value-value.result (arguments_of (scope_of c.args.module.now) (registers_in c.args.registers.now) (drop (c.loop-argument.argument-index + 1) c.args.arguments.now))
    (first_argument (scope_of c.args.module.now) (registers_in c.args.registers.now) c.args.arguments.now c.loop-argument.argument-index c.argument-item.result
    c.kind_of.result c.operand_value-value.result c.loop-argument-test.true c.argument-item.is c.kind_of.ensures c.operand_value-value.ensures.value)
    (world_in c.show.new.world) (g.C.Chooser.script c.show.new.chooser) c.in-Err.end c.in-Err.ensures.leads (world_in (record { blocks = c.show.new.world.blocks; names = c.cut_to-in-Err.new.self })) next

pub returns-in-Err-clause-told : goal.returns-in-Err-clause-told
returns-in-Err-clause-told g c = λ next h.
    one_takes (arguments_of (scope_of c.args.module.now) (registers_in c.args.registers.now) c.args.arguments.now) (arguments_of (scope_of c.args.module.now) (registers_in c.args.registers.now) (drop c.loop-argument.argument-index c.args.arguments.now)) (world_in c.args.world.now) (world_in c.loop-argument.world) (g.C.Chooser.script c.args.chooser.now) (g.C.Chooser.script c.loop-argument.chooser) c.loop-argument.shown c.loop-argument.invariant.shown c.kind_of.result c.operand_value-value.result (arguments_of (scope_of c.args.module.now) (registers_in c.args.registers.now) (drop (c.loop-argument.argument-index + 1) c.args.arguments.now))
    (first_argument (scope_of c.args.module.now) (registers_in c.args.registers.now) c.args.arguments.now c.loop-argument.argument-index c.argument-item.result
    c.kind_of.result c.operand_value-value.result c.loop-argument-test.true c.argument-item.is c.kind_of.ensures c.operand_value-value.ensures.value)
    (world_in c.show.new.world) (g.C.Chooser.script c.show.new.chooser) c.in-Err.end c.in-Err.ensures.leads next h

pub returns-clause-answers : goal.returns-clause-answers
returns-clause-answers g c = λ next.
    all_shown (arguments_of (scope_of c.args.module.now) (registers_in c.args.registers.now) c.args.arguments.now) (arguments_of (scope_of c.args.module.now) (registers_in c.args.registers.now) (drop c.loop-argument.argument-index c.args.arguments.now)) (world_in c.args.world.now) (world_in c.loop-argument.world) (g.C.Chooser.script c.args.chooser.now) (g.C.Chooser.script c.loop-argument.chooser) c.loop-argument.shown c.loop-argument.invariant.shown
    (no_argument (scope_of c.args.module.now) (registers_in c.args.registers.now) c.args.arguments.now c.loop-argument.argument-index c.loop-argument-test.false) next

pub returns-clause-told : goal.returns-clause-told
returns-clause-told g c = λ next h. all_take (arguments_of (scope_of c.args.module.now) (registers_in c.args.registers.now) c.args.arguments.now) (arguments_of (scope_of c.args.module.now) (registers_in c.args.registers.now) (drop c.loop-argument.argument-index c.args.arguments.now)) (world_in c.args.world.now) (world_in c.loop-argument.world) (g.C.Chooser.script c.args.chooser.now) (g.C.Chooser.script c.loop-argument.chooser) c.loop-argument.shown c.loop-argument.invariant.shown next h
