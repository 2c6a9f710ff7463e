use Rattle.flow_solver.proofs.Near.{marked, tested}
use Rattle.flow_solver.proofs.laws.reached_nodes_are_reached.Goals as goal

pub returns-clause-tested : goal.returns-clause-tested
returns-clause-tested c = tested

pub returns-clause-marked : goal.returns-clause-marked
returns-clause-marked c = marked
