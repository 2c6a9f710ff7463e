use Rattle.std.proofs.Common.{refl, rules}
use Rattle.flow_solver.proofs.Waiting.{queued}
use Rattle.flow_solver.proofs.queue.Queue.wait.Goals as goal

pub returns-in_ok-push-clause-queue : goal.returns-in_ok-push-clause-queue
returns-in_ok-push-clause-queue c = queued c.args.self.now _ c.rank_of.result c.args.node c.requires.node c.requires.queue refl (search rules)
