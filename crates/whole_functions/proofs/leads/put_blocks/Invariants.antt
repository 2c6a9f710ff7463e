use Rattle.std.proofs.Common.{◌≡◌, ◌++◌, drop}
use Rattle.std.specs.List.{AllByRecursion}
use Rattle.definedness.specs.Graph.{graph_in, labels_in}
use Rattle.ir_shape.specs.ShapeTests.Edges.{rows_of, with_blocks}
use Rattle.whole_shapes.specs.Whole.{LeadsToLabels}
use Rattle.whole_functions.proofs.leads.put_blocks.Given as goal

-- the blocks that are left decide
abbrev pub invariant-loop-block : goal.invariant-loop-block
invariant-loop-block l =
    (AllByRecursion (LeadsToLabels l.blocks) (drop l.block-index l.blocks) → AllByRecursion (LeadsToLabels l.blocks) l.blocks)
    × (with_blocks (labels_in l.blocks) (rows_of l.rows.items) (drop l.block-index l.blocks)
    ≡ with_blocks (labels_in l.blocks) (rows_of l.initial.rows.items) l.blocks)
    × (l.successors.items ++ graph_in (labels_in l.blocks) (drop l.block-index l.blocks) ≡ graph_in (labels_in l.blocks) l.blocks)
