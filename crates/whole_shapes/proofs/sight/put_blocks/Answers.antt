use Rattle.std.proofs.Common.{◌≡◌, ◌∙◌, true, false, sym, rules}
use Rattle.whole_shapes.proofs.Sighted.{block_new, block_old, block_put}
use Rattle.whole_shapes.proofs.sight.put_blocks.Goals as goal

pub returns-then-not-branch-clause-new : goal.returns-then-not-branch-clause-new
returns-then-not-branch-clause-new c =
    let no : c.in_ok-put_block.field-0 ≡ false = search rules in
    sym (block_old c.args.blocks.now c.loop-block.block-index c.block-item.result (search rules) c.block-item.is c.loop-block.sight.names (sym c.in_ok-put_block.ensures.new ∙ no))
    ∙ c.loop-block.invariant.0

pub loop-block-preserved : goal.loop-block-preserved
loop-block-preserved c =
    let yes : c.in_ok-put_block.field-0 ≡ true = search rules in (
      sym (block_new c.args.blocks.now c.loop-block.block-index c.block-item.result (search rules) c.block-item.is c.loop-block.sight.names _ (sym c.in_ok-put_block.ensures.new ∙ yes)
          (c.in_ok-put_block.ensures.names yes))
          ∙ c.loop-block.invariant.0,
      sym (block_put c.args.blocks.now c.loop-block.block-index c.block-item.result (search rules) c.block-item.is c.loop-block.sight.names _ (c.in_ok-put_block.ensures.names yes))
          ∙ c.loop-block.invariant.1,
    )
