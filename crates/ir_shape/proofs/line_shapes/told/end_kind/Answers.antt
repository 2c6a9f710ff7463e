use Rattle.std.proofs.Common.{rules}
use Rattle.ir_shape.proofs.line_shapes.told.end_kind.Goals as goal

pub returns : goal.returns
returns c = search rules
