use Rattle.std.proofs.Common.{◌≡◌, length, map}
use Rattle.std.specs.List.{AllByRecursion}
use Rattle.crell_tests.specs.FlowTests.Graphs.{AreBelow}
use Rattle.crell_tests.proofs.flow_tests.graphs.graph.Given as goal

abbrev pub invariant-loop-node : goal.invariant-loop-node
invariant-loop-node l = record {
  many : length l.successors.items ≡ l.node;
  below : AllByRecursion (AreBelow l.nodes) (map (λ row. row.items) l.successors.items);
}
