use Rattle.std.proofs.Common.{rules}
use Rattle.erhl_checker.proofs.hint_steps.steps.ghost_fault.Goals as goal

pub returns : goal.returns
returns c = search rules
