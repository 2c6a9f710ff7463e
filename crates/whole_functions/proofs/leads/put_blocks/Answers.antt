use Rattle.std.proofs.Common.{rules}
use Rattle.whole_functions.proofs.Edged.{whole_within}
use Rattle.whole_functions.proofs.leads.put_blocks.Goals as goal

pub of_short-requires : goal.of_short-requires
of_short-requires c = whole_within _ c.args.blocks.now c.loop-block.block-index (search rules) c.loop-block.invariant.2
