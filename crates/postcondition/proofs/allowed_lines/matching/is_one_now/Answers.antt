use Rattle.std.proofs.Common.{rules}
use Rattle.postcondition.proofs.allowed_lines.matching.is_one_now.Goals as goal

pub returns-then-is_now : goal.returns-then-is_now
returns-then-is_now g c = search rules
