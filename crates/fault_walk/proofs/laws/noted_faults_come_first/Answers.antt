use Rattle.fault_walk.proofs.First.{first_noted, none_noted}
use Rattle.fault_walk.proofs.laws.noted_faults_come_first.Goals as goal

pub returns-clause-none : goal.returns-clause-none
returns-clause-none c = none_noted

pub returns-clause-first : goal.returns-clause-first
returns-clause-first c = first_noted
