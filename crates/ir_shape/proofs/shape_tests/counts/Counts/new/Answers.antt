use Rattle.ir_shape.proofs.ShapeTests.Counted.{none_count}
use Rattle.ir_shape.proofs.shape_tests.counts.Counts.new.Goals as goal

pub returns : goal.returns
returns c = none_count (record { of = c.new.result }) c.new.ensures.empty
