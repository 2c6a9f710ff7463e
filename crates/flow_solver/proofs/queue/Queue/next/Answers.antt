use Rattle.std.proofs.Common.{◌<◌, refl, sym, subst}
use Rattle.std.specs.BinaryHeap.{heap_items}
use Rattle.flow_solver.proofs.Waiting.{next_node, unqueued}
use Rattle.flow_solver.proofs.queue.Queue.next.Goals as goal

pub index_mut-requires : goal.index_mut-requires
index_mut-requires c =
    subst (λ k. c.in_ok-node.node < k) (sym c.args.self.now.waits.ok.0)
    (next_node c.args.self.now (heap_items c.pop.new.self) c.in_ok-node.field-0-0 c.in_ok-node.node c.requires.queue c.in_ok-node.ensures.permutation)

pub returns-clause-none : goal.returns-clause-none
returns-clause-none c = next_node c.args.self.now (heap_items c.pop.new.self) c.in_ok-node.field-0-0 c.in_ok-node.node c.requires.queue c.in_ok-node.ensures.permutation

pub returns-clause-queue : goal.returns-clause-queue
returns-clause-queue c = unqueued c.args.self.now _ c.in_ok-node.field-0-0 c.in_ok-node.node c.requires.queue refl c.in_ok-node.ensures.permutation
