use Rattle.std.proofs.Common.{◌∙◌, rules}
use Rattle.definedness.proofs.Graphs.{whole_graph, whole_within}
use Rattle.definedness.proofs.flow.graph_of.Goals as goal

pub of_short-requires : goal.of_short-requires
of_short-requires c = whole_within _ c.args.labels.now c.args.blocks.now c.loop-block.block-index (search rules) c.loop-block.invariant c.requires

pub returns : goal.returns
returns c = c.of_short.ensures ∙ whole_graph _ c.args.labels.now c.args.blocks.now c.loop-block.block-index (search rules) c.loop-block.invariant c.requires
