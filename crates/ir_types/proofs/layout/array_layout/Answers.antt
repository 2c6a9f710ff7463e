use Rattle.std.proofs.Common.{rules}
use Rattle.ir_types.proofs.layout.array_layout.Goals as goal

pub returns : goal.returns
returns c = search rules
