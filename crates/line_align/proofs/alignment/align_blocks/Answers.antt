use Rattle.std.proofs.Common.{rules}
use Rattle.line_align.proofs.Lending.{blocks_differ, blocks_more}
use Rattle.line_align.proofs.alignment.align_blocks.Goals as goal

pub returns-in-None : goal.returns-in-None
returns-in-None c =
    blocks_differ (record { blocks = c.args.hints.now }) c.loop-b.found c.loop-b.b-index c.args.source.now c.loop-b.rest.now _ c.loop-b.invariant c.b-item.result c.in-Some.c.now
    c.in-Some.after.now c.loop-b-test.true c.b-item.is (search rules) c.in_ok-copy-in-None.field-0 (search rules) (search rules)

pub loop-b-preserved : goal.loop-b-preserved
loop-b-preserved c =
    blocks_more (record { blocks = c.args.hints.now }) c.loop-b.found c.loop-b.b-index c.args.source.now c.loop-b.rest.now _ c.loop-b.invariant c.b-item.result c.in-Some.c.now
    c.in-Some.after.now c.loop-b-test.true c.b-item.is (search rules) c.in-Some-2.block c.push.new.self (search rules) (search rules)
