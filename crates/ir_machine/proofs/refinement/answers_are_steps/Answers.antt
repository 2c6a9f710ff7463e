use Rattle.ir_machine.proofs.Telling.{answers_are_steps, answers_take_asked}
use Rattle.ir_machine.proofs.NeverStuck.{runs_answer}
use Rattle.ir_machine.proofs.refinement.answers_are_steps.Goals as goal

pub returns-clause-steps : goal.returns-clause-steps
returns-clause-steps c = answers_are_steps

pub returns-clause-taken : goal.returns-clause-taken
returns-clause-taken c = answers_take_asked

pub returns-clause-answered : goal.returns-clause-answered
returns-clause-answered c = runs_answer
