use Rattle.std.proofs.Common.{◌≡◌, ℕ, ◌<◌, length}
use Rattle.flow_solver.specs.Solving.{IsQueue, Waits}
use Rattle.flow_solver.proofs.queue.all_nodes.Given as goal

-- those so far wait
abbrev pub invariant-loop-node : goal.invariant-loop-node
invariant-loop-node l = record {
  many : length l.queue.waits.items ≡ length l.graph;
  queue : IsQueue l.queue;
  waits : (n : ℕ) → n < l.node → Waits l.queue n;
}
