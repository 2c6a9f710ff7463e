use Rattle.std.proofs.Common.{rules}
use Rattle.derivation_writer.proofs.token_limits.watch.mark_at.Goals as goal

pub returns-else-from-number-2 : goal.returns-else-from-number-2
returns-else-from-number-2 c = search rules
