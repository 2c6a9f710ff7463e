use Rattle.ir_machine.proofs.Refining.{constants_refine, numbers_are_kept, numbers_stay_defined, undef_is_any_number}
use Rattle.ir_machine.proofs.laws.constants_refine_by_value.Goals as goal

pub returns-clause-all : goal.returns-clause-all
returns-clause-all c = constants_refine

pub returns-clause-other_number : goal.returns-clause-other_number
returns-clause-other_number c = numbers_are_kept

pub returns-clause-no_number : goal.returns-clause-no_number
returns-clause-no_number c = numbers_stay_defined

pub returns-clause-any_number : goal.returns-clause-any_number
returns-clause-any_number c = undef_is_any_number
