use Rattle.std.proofs.Common.{true, List, ap, ◌∙◌, sym, refl, ◌∷◌, []}
use Rattle.block_memory.specs.declared.items.Shown.{Shown}
use Rattle.ir_machine.specs.declared.items.Item.TheVariants.{Called}
use Rattle.ir_machine.specs.Choices.{Did}
use Rattle.ir_machine.specs.Machine.{Asks, Does, arguments_of, called_outside, waiting_for}
use Rattle.ir_machine.specs.Places.{registers_in, world_in}
use Rattle.ir_machine.specs.State.{State, Waiting, World, scope_of}
use Rattle.ir_machine.specs.Stepping.{behind_line}
use Rattle.ir_machine.proofs.Branching.{goes_answers, lacks_answers, no_memory, refused_answers, wrongs_answers}
use Rattle.ir_machine.proofs.Entering.{outside_takes_none, shows_lacks, shows_wrong, stands_outside}
use Rattle.ir_machine.proofs.calling.call_outside.Goals as goal

pub returns-in_err-one_item-clause-answers : goal.returns-in_err-one_item-clause-answers
returns-in_err-one_item-clause-answers g c = λ rest at.
    let vs = arguments_of (scope_of c.args.here.now.whole.now) (registers_in c.args.frame.now.registers) c.args.call.now.arguments in
    let p = waiting_for c.args.call.now (behind_line c.args.here.now.function.now c.args.here.now.block.now c.args.frame.now) in
    let tree = called_outside c.args.call.now.callee vs p rest (world_in c.args.state.now.world) in
    refused_answers tree _ _ _ _ (outside_takes_none c.args.call.now.callee vs p rest (world_in c.args.state.now.world) _) (no_memory _ c.from_residual.ensures.0 c.from_residual.ensures.1)

pub returns-in_err-callee-clause-answers : goal.returns-in_err-callee-clause-answers
returns-in_err-callee-clause-answers g c = λ rest at.
    let vs = arguments_of (scope_of c.args.here.now.whole.now) (registers_in c.args.frame.now.registers) c.args.call.now.arguments in
    let p = waiting_for c.args.call.now (behind_line c.args.here.now.function.now c.args.here.now.block.now c.args.frame.now) in
    let tree = called_outside c.args.call.now.callee vs p rest (world_in c.args.state.now.world) in
    refused_answers tree _ _ _ _ (outside_takes_none c.args.call.now.callee vs p rest (world_in c.args.state.now.world) _) (no_memory _ c.from_residual-in_err-callee.ensures.0 c.from_residual-in_err-callee.ensures.1)

pub returns-in-Ok-clause-answers : goal.returns-in-Ok-clause-answers
returns-in-Ok-clause-answers g c = λ rest at.
    let vs = arguments_of (scope_of c.args.here.now.whole.now) (registers_in c.args.frame.now.registers) c.args.call.now.arguments in
    let p = waiting_for c.args.call.now (behind_line c.args.here.now.function.now c.args.here.now.block.now c.args.frame.now) in
    let tree = called_outside c.args.call.now.callee vs p rest (world_in c.args.state.now.world) in
    let next : List Shown → World → Asks = λ ss after. Does (Called c.args.call.now.callee ss ∷ []) (Waiting p rest after) in
    let after = record c.args.frame.now { place = c.next_line-frame.result } in
    let then = record c.args.state.now { waits = true; world = c.show_all.new.world } in
    let stands = stands_outside c.args.here.now.whole.now c.args.here.now.function.now c.args.here.now.block.now c.args.call.now c.args.frame.now c.args.state.now rest at after then
    c.next_line-frame.ensures refl refl refl refl in
    goes_answers tree _ _ _ (Called c.args.call.now.callee c.in-Ok.shown ∷ []) _
    ((rw c.as_slice.ensures at c.in-Ok.ensures.answers next) ∙ ap (λ (s : State). Did (Called c.args.call.now.callee c.in-Ok.shown ∷ []) s (g.C.Chooser.script c.show_all.new.chooser)) (sym stands))
    (c.from_vec.ensures ∙ rw (c.into_vec-items.ensures, c.in_ok-one_item.ensures, c.in_ok-callee.ensures) refl) refl (rw stands refl)

pub returns-in-Err-Wrong-clause-answers : goal.returns-in-Err-Wrong-clause-answers
returns-in-Err-Wrong-clause-answers g c = λ rest at.
    let vs = arguments_of (scope_of c.args.here.now.whole.now) (registers_in c.args.frame.now.registers) c.args.call.now.arguments in
    let p = waiting_for c.args.call.now (behind_line c.args.here.now.function.now c.args.here.now.block.now c.args.frame.now) in
    let tree = called_outside c.args.call.now.callee vs p rest (world_in c.args.state.now.world) in
    let next : List Shown → World → Asks = λ ss after. Does (Called c.args.call.now.callee ss ∷ []) (Waiting p rest after) in
    wrongs_answers tree _ _ _ _ (shows_wrong _ c.in-Err-Wrong.field-0-is tree _ next _ _ (rw c.as_slice.ensures at c.in-Err-Wrong.ensures.answers next))
    (c.from_vec-in-Err-Wrong.ensures ∙ rw (c.into_vec-items.ensures, c.in_ok-one_item.ensures) refl) refl

pub returns-in-Err-NoChoice-clause-answers : goal.returns-in-Err-NoChoice-clause-answers
returns-in-Err-NoChoice-clause-answers g c = λ rest at.
    let vs = arguments_of (scope_of c.args.here.now.whole.now) (registers_in c.args.frame.now.registers) c.args.call.now.arguments in
    let p = waiting_for c.args.call.now (behind_line c.args.here.now.function.now c.args.here.now.block.now c.args.frame.now) in
    let tree = called_outside c.args.call.now.callee vs p rest (world_in c.args.state.now.world) in
    let next : List Shown → World → Asks = λ ss after. Does (Called c.args.call.now.callee ss ∷ []) (Waiting p rest after) in
    lacks_answers tree _ _ _ (shows_lacks _ c.in-Err-NoChoice.field-0-is tree _ next _ _ (rw c.as_slice.ensures at c.in-Err-NoChoice.ensures.answers next))

pub returns-in-Err-Memory-clause-answers : goal.returns-in-Err-Memory-clause-answers
returns-in-Err-Memory-clause-answers g c = λ rest at.
    let vs = arguments_of (scope_of c.args.here.now.whole.now) (registers_in c.args.frame.now.registers) c.args.call.now.arguments in
    let p = waiting_for c.args.call.now (behind_line c.args.here.now.function.now c.args.here.now.block.now c.args.frame.now) in
    let tree = called_outside c.args.call.now.callee vs p rest (world_in c.args.state.now.world) in
    let next : List Shown → World → Asks = λ ss after. Does (Called c.args.call.now.callee ss ∷ []) (Waiting p rest after) in
    refused_answers tree _ _ _ _ (rw c.as_slice.ensures at c.in-Err-Memory.ensures.told next (λ ss w. refl)) refl
