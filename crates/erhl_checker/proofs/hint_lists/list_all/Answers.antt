use Rattle.std.proofs.Common.{◌∙◌, rules}
use Rattle.erhl_checker.proofs.Numbering.{not_ended, is_listed, are_listed, one_listed}
use Rattle.erhl_checker.proofs.hint_lists.list_all.Goals as goal

pub returns-in_default : goal.returns-in_default
returns-in_default c =
    absurd (not_ended c.args.lists.now c.loop-block.rest.now c.args.blocks.now c.loop-block.block-index c.block-item.result
    c.loop-block-test.true c.block-item.is c.loop-block.invariant.1 c.in_default.ensures.cases)

pub invariant_of-push : goal.invariant_of-push
invariant_of-push c =
    c.lent-list.ensures
    ∙ is_listed c.args.lists.now c.loop-block.rest.now c.args.blocks.now c.loop-block.block-index c.block-item.result
    c.loop-block-test.true c.block-item.is c.loop-block.invariant.1 c.in-Some.number.now c.in-Some.after.now (search rules)

pub loop-block-preserved : goal.loop-block-preserved
loop-block-preserved c = (
  one_listed c.args.blocks.now c.loop-block.listed.items c.push.new.self.items c.loop-block.block-index c.block-item.result c.loop-block-test.true c.block-item.is c.loop-block.invariant.0 c.in_ok-push.ensures.items,
  are_listed c.args.lists.now c.loop-block.rest.now c.args.blocks.now c.loop-block.block-index c.block-item.result
      c.loop-block-test.true c.block-item.is c.loop-block.invariant.1 c.in-Some.number.now c.in-Some.after.now (search rules),
)
