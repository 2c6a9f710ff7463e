use Rattle.std.proofs.Common.{sym}
use Rattle.ir_machine.proofs.Resting.{asked_answers, end_asked, line_asked, line_there, same_place}
use Rattle.ir_machine.proofs.stepping.do_next.Goals as goal

pub returns-then-frame-lines-clause-answers : goal.returns-then-frame-lines-clause-answers
returns-then-frame-lines-clause-answers g c =
    let there = same_place c.args.«module».now c.args.frame.now c.args.state.now c.requires.running c.requires.runs c.in-Some.function.now c.in-Some-get.block.now (sym c.in-Some.ensures) (sym c.in-Some-get.ensures) in
    asked_answers c.args.«module».now c.args.frame.now c.args.state.now _ _ _ _ _ (line_asked c.args.«module».now c.in-Some.function.now c.in-Some-get.block.now c.args.frame.now c.args.state.now there.0 there.1 c.index-lines-frame.result
    (rw c.as_slice-lines.ensures at c.if-frame-lines.true) (rw c.as_slice-lines.ensures at c.index-lines-frame.is))
    (c.do_line.ensures.answers there.0 there.1 (line_there c.args.«module».now c.in-Some.function.now c.in-Some-get.block.now c.args.frame.now c.args.state.now there.0 there.1 c.index-lines-frame.result
    (rw c.as_slice-lines.ensures at c.if-frame-lines.true) (rw c.as_slice-lines.ensures at c.index-lines-frame.is)))

pub returns-clause-answers : goal.returns-clause-answers
returns-clause-answers g c =
    let there = same_place c.args.«module».now c.args.frame.now c.args.state.now c.requires.running c.requires.runs c.in-Some.function.now c.in-Some-get.block.now (sym c.in-Some.ensures) (sym c.in-Some-get.ensures) in
    asked_answers c.args.«module».now c.args.frame.now c.args.state.now _ _ _ _ _ (end_asked c.args.«module».now c.in-Some.function.now c.in-Some-get.block.now c.args.frame.now c.args.state.now there.0 there.1 (rw c.as_slice-lines.ensures at c.if-frame-lines.false))
    (c.do_terminator.ensures.answers there.0 there.1)
