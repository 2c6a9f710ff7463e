use Rattle.std.proofs.Common.{rules}
use Rattle.erhl_checker.proofs.checked_pair.terms.jump_fault.Goals as goal

pub returns-then-same_name : goal.returns-then-same_name
returns-then-same_name c = search rules
