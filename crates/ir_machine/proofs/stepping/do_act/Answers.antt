use Rattle.std.proofs.Common.{false, [], ◌∷◌, ap, ◌∙◌, sym, refl}
use Rattle.ir_machine.specs.Choices.{Did}
use Rattle.ir_machine.specs.Machine.{resumed}
use Rattle.ir_machine.specs.Places.{world_in}
use Rattle.ir_machine.specs.State.{State}
use Rattle.ir_machine.proofs.Branching.{goes_answers, no_memory, refused_answers, wrongs_answers}
use Rattle.ir_machine.proofs.Resting.{acted_so, answers_act, err_answers, goes_on, stays_waiting, waits_there}
use Rattle.ir_machine.proofs.Steps.{gets_result, kind_waited}
use Rattle.ir_machine.proofs.stepping.do_act.Goals as goal

pub returns-in_err-give_result-in-Ok-Replied-clause-answers : goal.returns-in_err-give_result-in-Ok-Replied-clause-answers
returns-in_err-give_result-in-Ok-Replied-clause-answers g c =
    let there = waits_there c.args.«module».now c.args.frame.now c.args.state.now c.requires.running c.requires.waits in
    let kind = kind_waited c.args.«module».now c.in-Some.call.now c.args.frame.now there.0 c.in-Some.ensures.some there.2 ∙ sym c.kind_of.ensures in
    let then = record c.args.state.now { world = c.take_act.new.world } in
    answers_act c.args.«module».now c.args.frame.now c.args.state.now there.0 there.1 c.requires.waits there.2 there.3 _ _ _ _ (refused_answers _ _ _ _ _ (c.take_act.ensures.told there.0 there.1 kind) (no_memory _ c.from_residual-in_err-give_result-in-Ok-Replied.ensures.0 c.from_residual-in_err-give_result-in-Ok-Replied.ensures.1))

pub returns-in-Ok-Stays-clause-answers : goal.returns-in-Ok-Stays-clause-answers
returns-in-Ok-Stays-clause-answers g c =
    let there = waits_there c.args.«module».now c.args.frame.now c.args.state.now c.requires.running c.requires.waits in
    let kind = kind_waited c.args.«module».now c.in-Some.call.now c.args.frame.now there.0 c.in-Some.ensures.some there.2 ∙ sym c.kind_of.ensures in
    let then = record c.args.state.now { world = c.take_act.new.world } in
    let stands = stays_waiting c.args.«module».now c.args.frame.now c.args.state.now there.0 there.1 c.requires.waits there.2 there.3 then refl refl in
    answers_act c.args.«module».now c.args.frame.now c.args.state.now there.0 there.1 c.requires.waits there.2 there.3 _ _ _ _ (goes_answers _ _ _ _ (c.in-Ok-Stays.item ∷ []) _
    (acted_so c.in-Ok-Stays.field-0 _ there.0 there.1 (world_in c.take_act.new.world) _ (g.C.Chooser.script c.take_act.new.chooser) c.in-Ok-Stays.field-0-is (c.in-Ok-Stays.ensures.answers there.0 there.1 kind) ∙ ap (λ (s : State). Did (c.in-Ok-Stays.item ∷ []) s (g.C.Chooser.script c.take_act.new.chooser)) (sym stands))
    (c.from_vec.ensures ∙ rw (c.into_vec-items.ensures, c.in_ok-one_item.ensures) refl) refl (rw stands refl))

pub returns-in_ok-give_result-in-Ok-Replied-clause-answers : goal.returns-in_ok-give_result-in-Ok-Replied-clause-answers
returns-in_ok-give_result-in-Ok-Replied-clause-answers g c =
    let there = waits_there c.args.«module».now c.args.frame.now c.args.state.now c.requires.running c.requires.waits in
    let kind = kind_waited c.args.«module».now c.in-Some.call.now c.args.frame.now there.0 c.in-Some.ensures.some there.2 ∙ sym c.kind_of.ensures in
    let then = record c.args.state.now { world = c.take_act.new.world } in
    let stands = goes_on c.args.«module».now c.args.frame.now c.args.state.now there.0 there.1 c.requires.waits there.2 there.3 c.give_result.new.frame (record then { waits = false }) (resumed there.0 c.in-Ok-Replied.kind c.in-Ok-Replied.value) refl refl
    (gets_result c.args.«module».now c.in-Some.call.now c.args.frame.now c.give_result.new.frame c.in-Ok-Replied.kind c.in-Ok-Replied.value there.0 c.in-Some.ensures.some c.give_result.ensures.place c.in_ok-give_result-in-Ok-Replied.ensures.ok c.give_result.ensures.own there.2) in
    answers_act c.args.«module».now c.args.frame.now c.args.state.now there.0 there.1 c.requires.waits there.2 there.3 _ _ _ _ (goes_answers _ _ _ _ (c.in-Ok-Replied.item ∷ []) _
    (acted_so c.in-Ok-Replied.field-0 _ there.0 there.1 (world_in c.take_act.new.world) _ (g.C.Chooser.script c.take_act.new.chooser) c.in-Ok-Replied.field-0-is (c.in-Ok-Replied.ensures.answers there.0 there.1 kind) ∙ ap (λ (s : State). Did (c.in-Ok-Replied.item ∷ []) s (g.C.Chooser.script c.take_act.new.chooser)) (sym stands))
    (c.from_vec-in-Ok-Replied.ensures ∙ rw (c.into_vec-items.ensures, c.in_ok-one_item.ensures) refl) refl (rw stands refl))

pub returns-in-Ok-Wrong-clause-answers : goal.returns-in-Ok-Wrong-clause-answers
returns-in-Ok-Wrong-clause-answers g c =
    let there = waits_there c.args.«module».now c.args.frame.now c.args.state.now c.requires.running c.requires.waits in
    let kind = kind_waited c.args.«module».now c.in-Some.call.now c.args.frame.now there.0 c.in-Some.ensures.some there.2 ∙ sym c.kind_of.ensures in
    let then = record c.args.state.now { world = c.take_act.new.world } in
    answers_act c.args.«module».now c.args.frame.now c.args.state.now there.0 there.1 c.requires.waits there.2 there.3 _ _ _ _ (wrongs_answers _ _ _ _ _ (acted_so c.in-Ok-Wrong.field-0 _ there.0 there.1 (world_in c.take_act.new.world) _ (g.C.Chooser.script c.take_act.new.chooser) c.in-Ok-Wrong.field-0-is (c.in-Ok-Wrong.ensures.answers there.0 there.1 kind)) (c.from_vec-in-Ok-Wrong.ensures ∙ rw (c.into_vec-items.ensures, c.in_ok-one_item.ensures) refl) refl)

pub returns-in-Err-clause-answers : goal.returns-in-Err-clause-answers
returns-in-Err-clause-answers g c =
    let there = waits_there c.args.«module».now c.args.frame.now c.args.state.now c.requires.running c.requires.waits in
    let kind = kind_waited c.args.«module».now c.in-Some.call.now c.args.frame.now there.0 c.in-Some.ensures.some there.2 ∙ sym c.kind_of.ensures in
    let then = record c.args.state.now { world = c.take_act.new.world } in
    answers_act c.args.«module».now c.args.frame.now c.args.state.now there.0 there.1 c.requires.waits there.2 there.3 _ _ _ _ (err_answers _ there.0 there.1 _ _ _ _ c.in-Err.end (c.in-Err.ensures.answers there.0 there.1 kind) (c.take_act.ensures.told there.0 there.1 kind))
