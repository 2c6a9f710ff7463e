use Rattle.std.proofs.Common.{rules}
use Rattle.postcondition.proofs.allowed_lines.agreement.lines_agree.Goals as goal

pub returns-then-same_name : goal.returns-then-same_name
returns-then-same_name g c = search rules
