use Rattle.std.proofs.Common.{rules}
use Rattle.ir_core.proofs.expressions.RegExact.copy.Goals as goal

pub returns-in_ok-copy-in-Old : goal.returns-in_ok-copy-in-Old
returns-in_ok-copy-in-Old c = search rules
