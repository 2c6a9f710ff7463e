use Rattle.std.proofs.Common.{rules}
use Rattle.ir_shape.proofs.line_shapes.told.alloca_kind.Goals as goal

pub returns : goal.returns
returns c = search rules
