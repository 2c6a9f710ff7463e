use Rattle.crell_tests.specs.FlowTests.Graphs.{AreBelow}
use Rattle.crell_tests.proofs.flow_tests.graphs.add_all.Given as goal

abbrev pub invariant-loop-node : goal.invariant-loop-node
invariant-loop-node l = AreBelow l.nodes l.row.items
