use Rattle.std.proofs.Common.{arith}
use Rattle.ir_shape.specs.ShapeTests.Counted.{count_in}
use Rattle.ir_shape.specs.ShapeTests.Edges.{named}
use Rattle.ir_shape.specs.ShapeTests.Kinds.{froms_of}
use Rattle.ir_shape.proofs.ShapeTests.Counted.{both_counts}
use Rattle.ir_shape.proofs.shape_tests.phis.counts_agree.Goals as goal

pub returns : goal.returns
returns c =
    let whole = both_counts (count_in c.args.counts.now) (count_in c.in_ok-others.others) (named c.args.edges.now) (froms_of c.args.entries.now) c.requires c.in_ok-others.ensures in
    grind (arith, whole)
