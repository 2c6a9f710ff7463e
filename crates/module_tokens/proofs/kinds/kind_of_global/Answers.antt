use Rattle.std.proofs.Common.{rules}
use Rattle.module_tokens.proofs.kinds.kind_of_global.Goals as goal

pub returns-then-debug : goal.returns-then-debug
returns-then-debug c = search rules
