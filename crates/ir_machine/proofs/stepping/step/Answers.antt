use Rattle.std.proofs.Common.{sym, subst}
use Rattle.ir_machine.specs.Machine.{asks}
use Rattle.ir_machine.specs.Places.{state_of}
use Rattle.ir_machine.specs.State.{State}
use Rattle.ir_machine.specs.Stepping.{Answers, state_under}
use Rattle.ir_machine.proofs.Resting.{begins, fails_after, stands_after, step_as_before, step_goes_on, step_lacks, step_made, step_progress}
use Rattle.ir_machine.proofs.stepping.step.Goals as goal

pub returns-clause-made : goal.returns-clause-made
returns-clause-made g c =
    let first = begins c.args.«module».now c.in-Some.frame c.args.state.now (sym c.in-Some.ensures.value) in
    let h = subst (λ (s : State). Answers (asks c.args.«module».now s) (g.C.Chooser.script c.args.chooser.now) (g.C.Chooser.script c.do_step-result.new.chooser) (state_under c.args.«module».now c.do_step-result.new.frame c.do_step-result.new.state) c.do_step-result.result) (sym first) c.do_step-result.ensures.answers in
    let last = record c.do_step-result.new.state { top = c.kept_after.result } in
    step_made (asks c.args.«module».now (state_of c.args.«module».now c.args.state.now)) (g.C.Chooser.script c.args.chooser.now) (g.C.Chooser.script c.do_step-result.new.chooser) (state_under c.args.«module».now c.do_step-result.new.frame c.do_step-result.new.state) (state_of c.args.«module».now last) c.do_step-result.result h (stands_after c.args.«module».now c.do_step-result.result c.do_step-result.new.frame last c.kept_after.ensures)

pub returns-clause-progress : goal.returns-clause-progress
returns-clause-progress g c =
    let first = begins c.args.«module».now c.in-Some.frame c.args.state.now (sym c.in-Some.ensures.value) in
    let h = subst (λ (s : State). Answers (asks c.args.«module».now s) (g.C.Chooser.script c.args.chooser.now) (g.C.Chooser.script c.do_step-result.new.chooser) (state_under c.args.«module».now c.do_step-result.new.frame c.do_step-result.new.state) c.do_step-result.result) (sym first) c.do_step-result.ensures.answers in
    let last = record c.do_step-result.new.state { top = c.kept_after.result } in
    step_progress (asks c.args.«module».now (state_of c.args.«module».now c.args.state.now)) (g.C.Chooser.script c.args.chooser.now) (g.C.Chooser.script c.do_step-result.new.chooser) (state_under c.args.«module».now c.do_step-result.new.frame c.do_step-result.new.state) (state_of c.args.«module».now last) c.do_step-result.result h (stands_after c.args.«module».now c.do_step-result.result c.do_step-result.new.frame last c.kept_after.ensures)

pub returns-clause-goes_on : goal.returns-clause-goes_on
returns-clause-goes_on g c =
    let last = record c.do_step-result.new.state { top = c.kept_after.result } in
    step_goes_on (state_of c.args.«module».now last) c.do_step-result.result (returns-clause-progress g c)

pub returns-clause-no_choice : goal.returns-clause-no_choice
returns-clause-no_choice g c =
    let first = begins c.args.«module».now c.in-Some.frame c.args.state.now (sym c.in-Some.ensures.value) in
    let h = subst (λ (s : State). Answers (asks c.args.«module».now s) (g.C.Chooser.script c.args.chooser.now) (g.C.Chooser.script c.do_step-result.new.chooser) (state_under c.args.«module».now c.do_step-result.new.frame c.do_step-result.new.state) c.do_step-result.result) (sym first) c.do_step-result.ensures.answers in
    let last = record c.do_step-result.new.state { top = c.kept_after.result } in
    h.no_choice

pub returns-clause-lacking : goal.returns-clause-lacking
returns-clause-lacking g c =
    let first = begins c.args.«module».now c.in-Some.frame c.args.state.now (sym c.in-Some.ensures.value) in
    let h = subst (λ (s : State). Answers (asks c.args.«module».now s) (g.C.Chooser.script c.args.chooser.now) (g.C.Chooser.script c.do_step-result.new.chooser) (state_under c.args.«module».now c.do_step-result.new.frame c.do_step-result.new.state) c.do_step-result.result) (sym first) c.do_step-result.ensures.answers in
    let last = record c.do_step-result.new.state { top = c.kept_after.result } in
    step_lacks (asks c.args.«module».now (state_of c.args.«module».now c.args.state.now)) (g.C.Chooser.script c.args.chooser.now) (g.C.Chooser.script c.do_step-result.new.chooser) (state_under c.args.«module».now c.do_step-result.new.frame c.do_step-result.new.state) (state_of c.args.«module».now last) c.do_step-result.result (returns-clause-made g c)

pub returns-clause-told : goal.returns-clause-told
returns-clause-told g c =
    let first = begins c.args.«module».now c.in-Some.frame c.args.state.now (sym c.in-Some.ensures.value) in
    let h = subst (λ (s : State). Answers (asks c.args.«module».now s) (g.C.Chooser.script c.args.chooser.now) (g.C.Chooser.script c.do_step-result.new.chooser) (state_under c.args.«module».now c.do_step-result.new.frame c.do_step-result.new.state) c.do_step-result.result) (sym first) c.do_step-result.ensures.answers in
    let last = record c.do_step-result.new.state { top = c.kept_after.result } in
    h.told

pub returns-clause-as_before : goal.returns-clause-as_before
returns-clause-as_before g c =
    let first = begins c.args.«module».now c.in-Some.frame c.args.state.now (sym c.in-Some.ensures.value) in
    let h = subst (λ (s : State). Answers (asks c.args.«module».now s) (g.C.Chooser.script c.args.chooser.now) (g.C.Chooser.script c.do_step-result.new.chooser) (state_under c.args.«module».now c.do_step-result.new.frame c.do_step-result.new.state) c.do_step-result.result) (sym first) c.do_step-result.ensures.answers in
    let last = record c.do_step-result.new.state { top = c.kept_after.result } in
    step_as_before c.do_step-result.result _ _ _ _ (fails_after c.args.«module».now c.do_step-result.result c.do_step-result.new.frame last c.kept_after.ensures) c.do_step-result.ensures.same first
