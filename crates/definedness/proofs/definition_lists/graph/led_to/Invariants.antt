use Rattle.std.proofs.Common.{◌≡◌, ◌++◌, drop, map}
use Rattle.definedness.specs.Flow.{graph_by}
use Rattle.definedness.proofs.definition_lists.graph.led_to.Given as goal

abbrev pub invariant-loop-block : goal.invariant-loop-block
invariant-loop-block l = map (λ row. row.items) l.rows.items ++ graph_by l.labels (drop l.block-index l.blocks) ≡ graph_by l.labels l.blocks
