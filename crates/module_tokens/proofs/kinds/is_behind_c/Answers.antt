use Rattle.std.proofs.Common.{rules}
use Rattle.module_tokens.proofs.kinds.is_behind_c.Goals as goal

pub returns-in-Some : goal.returns-in-Some
returns-in-Some c = search rules
