use Rattle.predictive.proofs.Faults.{none_in_text, one_fault}
use Rattle.predictive.proofs.laws.one_first_fault.Goals as goal

pub returns-clause-none : goal.returns-clause-none
returns-clause-none c = none_in_text

pub returns-clause-one : goal.returns-clause-one
returns-clause-one c = one_fault
