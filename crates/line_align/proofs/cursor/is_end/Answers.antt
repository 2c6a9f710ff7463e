use Rattle.std.proofs.Common.{rules}
use Rattle.line_align.proofs.cursor.is_end.Goals as goal

pub returns-then-is_none : goal.returns-then-is_none
returns-then-is_none c = search rules
