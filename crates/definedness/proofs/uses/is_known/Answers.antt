use Rattle.std.proofs.Common.{rules}
use Rattle.definedness.proofs.uses.is_known.Goals as goal

pub returns-else-has : goal.returns-else-has
returns-else-has c = search rules
