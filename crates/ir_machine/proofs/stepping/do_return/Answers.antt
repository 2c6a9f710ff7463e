use Rattle.std.proofs.Common.{Some, ap, ◌∙◌, sym}
use Rattle.ir_machine.specs.Machine.{without_own}
use Rattle.ir_machine.specs.Places.{world_in}
use Rattle.ir_machine.proofs.Branching.{no_memory}
use Rattle.ir_machine.proofs.Resting.{back_fails, back_made, last_answers, none_below, of_value, some_below}
use Rattle.ir_machine.proofs.stepping.do_return.Goals as goal

pub returns-then-len-eq0-clause-answers : goal.returns-then-len-eq0-clause-answers
returns-then-len-eq0-clause-answers g c = λ rest runs below.
    of_value _ c.operand_value-value.result _ c.kind_of-kind.result rest _ _ _ _ _ c.kind_of-kind.ensures c.operand_value-value.ensures.value
    (last_answers c.kind_of-kind.result c.operand_value-value.result c.args.frame.now.own.items (world_in c.args.state.now.world) rest _ _ _ _ (none_below c.args.here.now.whole.now c.args.state.now.below.items rest (sym c.args.state.now.below.ok.0 ∙ sym c.len.ensures ∙ c.if-len-eq0.true) below)
    c.last_return.ensures.made c.last_return.ensures.progress c.last_return.ensures.no_choice c.last_return.ensures.told)

pub returns-in_err-go_back-clause-answers : goal.returns-in_err-go_back-clause-answers
returns-in_err-go_back-clause-answers g c = λ rest runs below.
    let some = some_below c.args.here.now.whole.now c.args.state.now.below.items rest (λ none. c.if-len-eq0.false (c.len.ensures ∙ c.args.state.now.below.ok.0 ∙ none)) below in
    of_value _ c.operand_value-value.result _ c.kind_of-kind.result rest _ _ _ _ _ c.kind_of-kind.ensures c.operand_value-value.ensures.value
    (back_fails c.kind_of-kind.result c.operand_value-value.result (without_own c.args.frame.now.own.items (world_in c.args.state.now.world)) some.0 rest some.1 _ _ _ some.2 (no_memory _ c.from_residual.ensures.0 c.from_residual.ensures.1))

pub returns-clause-answers : goal.returns-clause-answers
returns-clause-answers g c = λ rest runs below.
    let some = some_below c.args.here.now.whole.now c.args.state.now.below.items rest (λ none. c.if-len-eq0.false (c.len.ensures ∙ c.args.state.now.below.ok.0 ∙ none)) below in
    of_value _ c.operand_value-value.result _ c.kind_of-kind.result rest _ _ _ _ _ c.kind_of-kind.ensures c.operand_value-value.ensures.value
    (back_made c.kind_of-kind.result c.operand_value-value.result (without_own c.args.frame.now.own.items (world_in c.args.state.now.world)) some.0 rest some.1 _ _ c.in_ok-go_back.field-0 some.2
    (c.in_ok-go_back.ensures.does some.0 some.1 runs (below ∙ ap Some some.2)))
