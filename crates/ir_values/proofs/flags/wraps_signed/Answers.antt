use Rattle.std.proofs.Common.{rules}
use Rattle.ir_values.proofs.flags.wraps_signed.Goals as goal

pub returns-in-Shl : goal.returns-in-Shl
returns-in-Shl c = search rules
