use Rattle.ir_shape.proofs.ShapeTests.Counted.{none_put}
use Rattle.ir_shape.proofs.shape_tests.counts.Firsts.with_room.Goals as goal

pub returns : goal.returns
returns c = none_put (record { of = c.in_ok-with_capacity.field-0 }) c.in_ok-with_capacity.ensures.empty
