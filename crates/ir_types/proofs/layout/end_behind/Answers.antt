use Rattle.std.proofs.Common.{rules}
use Rattle.ir_types.proofs.layout.end_behind.Goals as goal

pub returns : goal.returns
returns c = search rules
