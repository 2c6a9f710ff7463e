use Rattle.std.proofs.Common.{rules}
use Rattle.ir_typing.proofs.module_limits.lines.lines_behind.Goals as goal

pub returns-else-more-gt-LINES-clause-some : goal.returns-else-more-gt-LINES-clause-some
returns-else-more-gt-LINES-clause-some c = search rules
