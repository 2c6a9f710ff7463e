use Rattle.fault_walk.specs.Names.{line_things, thing_by}
use Rattle.fault_walk.proofs.Kept.{one_more}
use Rattle.fault_walk.proofs.names.Names.put_lines.Goals as goal

pub loop-line-preserved : goal.loop-line-preserved
loop-line-preserved c =
    one_more (line_things c.args.sight.now.types) (thing_by c.loop-line.self) (thing_by c.put_line.new.self) _ c.args.lines.now c.loop-line.line-index c.line-item.result c.loop-line-test.true c.line-item.is
    c.in_ok-put_line.ensures c.loop-line.invariant
