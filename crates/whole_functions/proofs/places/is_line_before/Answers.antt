use Rattle.std.proofs.Common.{rules}
use Rattle.whole_functions.proofs.places.is_line_before.Goals as goal

pub returns-then-many-body : goal.returns-then-many-body
returns-then-many-body c = search rules
