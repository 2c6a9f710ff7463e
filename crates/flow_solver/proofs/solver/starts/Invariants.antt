use Rattle.std.proofs.Common.{◌≡◌, ℕ, ◌<◌, length}
use Rattle.flow_solver.specs.Frameworks.{value_at}
use Rattle.flow_solver.proofs.solver.starts.Given as goal

abbrev pub invariant-loop-node : goal.invariant-loop-node
invariant-loop-node g l =
    let f = g.F.Facts.framework l.facts in
    record {
      many : length l.sets.items ≡ l.node;
      starts : (n : ℕ) → n < l.node → value_at f l.sets.items n ≡ f.start n;
    }
