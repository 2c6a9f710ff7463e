use Rattle.crell_tests.specs.FlowTests.Graphs.{AreBelow}
use Rattle.crell_tests.proofs.flow_tests.graphs.add_edges.Given as goal

abbrev pub invariant-loop-from : goal.invariant-loop-from
invariant-loop-from l = AreBelow l.nodes l.row.items
