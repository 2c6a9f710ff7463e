use Rattle.std.proofs.Common.{rules}
use Rattle.postcondition.proofs.LineFacts.{line_not_added}
use Rattle.postcondition.proofs.lines.add_calm.Goals as goal

pub returns-then-names : goal.returns-then-names
returns-then-names g c = search (rules, line_not_added)
