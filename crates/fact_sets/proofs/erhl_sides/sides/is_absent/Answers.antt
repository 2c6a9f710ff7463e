use Rattle.std.proofs.Common.{rules}
use Rattle.fact_sets.proofs.erhl_sides.sides.is_absent.Goals as goal

pub returns-then-is_passed : goal.returns-then-is_passed
returns-then-is_passed c = search rules

pub returns-else-is_passed : goal.returns-else-is_passed
returns-else-is_passed c = search rules
