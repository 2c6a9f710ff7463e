use Rattle.std.proofs.Common.{Some, ap, ◌∙◌, sym, refl}
use Rattle.ir_machine.specs.Machine.{without_own}
use Rattle.ir_machine.specs.Places.{world_in}
use Rattle.ir_machine.proofs.Resting.{last_void, none_below, some_below, void_back}
use Rattle.ir_machine.proofs.stepping.do_void_return.Goals as goal

pub returns-then-len-eq0-clause-does : goal.returns-then-len-eq0-clause-does
returns-then-len-eq0-clause-does c = λ rest runs below. last_void rest (without_own c.args.frame.now.own.items (world_in c.args.state.now.world)) _ _ (none_below c.args.here.now.whole.now c.args.state.now.below.items rest (sym c.args.state.now.below.ok.0 ∙ sym c.len.ensures ∙ c.if-len-eq0.true) below) c.in_ok-items.ensures refl

pub returns-clause-does : goal.returns-clause-does
returns-clause-does c = λ rest runs below.
    let some = some_below c.args.here.now.whole.now c.args.state.now.below.items rest (λ none. c.if-len-eq0.false (c.len.ensures ∙ c.args.state.now.below.ok.0 ∙ none)) below in
    void_back (without_own c.args.frame.now.own.items (world_in c.args.state.now.world)) some.0 rest some.1 _ _ some.2 (c.go_back.ensures.does some.0 some.1 runs (below ∙ ap Some some.2))
