use Rattle.ir_shape.proofs.ShapeTests.Counted.{none_count}
use Rattle.ir_shape.proofs.shape_tests.counts.Counts.with_room.Goals as goal

pub returns : goal.returns
returns c = none_count (record { of = c.in_ok-with_capacity.field-0 }) c.in_ok-with_capacity.ensures.empty
