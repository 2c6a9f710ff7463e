use Rattle.ir_machine.proofs.Branching.{branch_asks}
use Rattle.ir_machine.proofs.stepping.do_branch.Goals as goal

pub returns-in-Undef-clause-answers : goal.returns-in-Undef-clause-answers
returns-in-Undef-clause-answers g c = λ label numbered rest world. branch_asks c.args.value label _ _ _ _ _ _ c.in-Undef.is (c.do_told.ensures.answers rest world)
