use Rattle.erhl_checker.specs.CheckedPair.Asked.{asked}
use Rattle.erhl_checker.proofs.CheckedPair.Progressing.{edge_stops, edge_refuses, edge_passes}
use Rattle.erhl_checker.proofs.block_checker.edges.edges_answer.Goals as goal

pub returns-in-Err : goal.returns-in-Err
returns-in-Err g c = λ l limit.
    let more = c.in-Err.ensures.answer l limit in
    (more.0, edge_stops (asked _ _ c.args.pair.now) c.args.from.now c.args.known.now c.args.labels.now c.loop-to.to-index _ c.loop-to.invariant.0 c.to-item.result c.loop-to-test.true c.to-item.is more.1)

pub returns-in-Refused : goal.returns-in-Refused
returns-in-Refused g c =
    edge_refuses (asked _ _ c.args.pair.now) c.args.from.now c.args.known.now c.args.labels.now c.loop-to.to-index _ c.loop-to.invariant.0 c.to-item.result c.loop-to-test.true c.to-item.is
    c.in-Ok.verdict c.in-Refused.block c.in-Refused.spot c.in-Refused.reason c.in-Ok.ensures.answer c.in-Refused.is

pub loop-to-preserved : goal.loop-to-preserved
loop-to-preserved g c = (
  edge_passes (asked _ _ c.args.pair.now) c.args.from.now c.args.known.now c.args.labels.now c.loop-to.to-index _ c.loop-to.invariant.0 c.to-item.result c.loop-to-test.true c.to-item.is
      c.in-Ok.verdict c.in-Ok.ensures.answer c.in-Valid.is,
  c.in-Ok.ensures.found,
)
