use Rattle.flow_solver.proofs.Examples.{nodes_near, nodes_of_loops, nodes_passed, ways_part}
use Rattle.flow_solver.proofs.laws.examples_of_ways.Goals as goal

pub returns-clause-reached : goal.returns-clause-reached
returns-clause-reached c = nodes_of_loops

pub returns-clause-near : goal.returns-clause-near
returns-clause-near c = nodes_near

pub returns-clause-first : goal.returns-clause-first
returns-clause-first c = ways_part

pub returns-clause-passed : goal.returns-clause-passed
returns-clause-passed c = nodes_passed
