use Rattle.std.proofs.Common.{rules}
use Rattle.ir_shape.proofs.ShapeTests.Two.{two_fit}
use Rattle.ir_shape.proofs.shape_tests.few.two_fit.Goals as goal

pub returns-else-not-same_name-2 : goal.returns-else-not-same_name-2
returns-else-not-same_name-2 c said =
    two_fit c.args.edges.now c.args.entries.now c.one-item.result c.two-item.result c.first-item.result c.second-item.result (search rules) (search rules) c.one-item.is c.two-item.is
    c.first-item.is c.second-item.is (search rules) (search rules) (search rules)
