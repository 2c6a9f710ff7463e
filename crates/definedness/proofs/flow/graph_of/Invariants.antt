use Rattle.std.proofs.Common.{◌≡◌, ◌++◌, drop}
use Rattle.definedness.specs.Flow.{graph_by}
use Rattle.definedness.proofs.flow.graph_of.Given as goal

abbrev pub invariant-loop-block : goal.invariant-loop-block
invariant-loop-block l =
    l.successors.items ++ graph_by l.labels (drop l.block-index l.blocks) ≡ graph_by l.labels l.blocks
