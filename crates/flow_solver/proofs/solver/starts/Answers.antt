use Rattle.std.proofs.Common.{rules}
use Rattle.flow_solver.proofs.solver.starts.Goals as goal

pub loop-node-preserved : goal.loop-node-preserved
loop-node-preserved g c = search rules
