use Rattle.std.proofs.Common.{ap, ◌∙◌, refl, length}
use Rattle.ir_core.specs.declared.functions.Function.{Function}
use Rattle.ir_machine.specs.Machine.{arguments_of, passed}
use Rattle.ir_machine.specs.Places.{registers_in, world_in}
use Rattle.ir_machine.specs.Registers.{no_registers}
use Rattle.ir_machine.specs.State.{scope_of}
use Rattle.ir_machine.proofs.Entering.{enters, same_at}
use Rattle.ir_machine.proofs.calling.enter.Goals as goal

pub returns-clause-does : goal.returns-clause-does
returns-clause-does c = λ g rest named at.
    let same = same_at c.args.here.now.whole.now.functions c.args.at c.index-as_slice-at.result g c.requires.at (rw c.as_slice.ensures at c.index-as_slice-at.is) named in
    let given = arguments_of (scope_of c.args.here.now.whole.now) (registers_in c.args.frame.now.registers) in
    enters c.args.here.now.whole.now c.args.here.now.function.now c.args.here.now.block.now c.args.call.now c.args.frame.now c.args.state.now rest at
    c.args.at g c.begin.new.frame _ c.begin.new.state _ named (λ none. c.if-len-eq0.false (c.len.ensures ∙ ap length (ap (λ (f : Function). f.blocks) same ∙ none))) c.in_ok-items.ensures.place
    (ap registers_in c.in_ok-items.ensures.registers ∙ (rw (c.as_slice-2.ensures, c.as_slice-3.ensures) at c.in_ok-registers.ensures)
    ∙ ap (λ (f : Function). passed f.params (given c.args.call.now.arguments) no_registers) same)
    c.in_ok-items.ensures.own refl c.in_ok-items.ensures.below
    c.begin.ensures.waits (ap world_in c.begin.ensures.world) c.in_ok-items.ensures.items refl
