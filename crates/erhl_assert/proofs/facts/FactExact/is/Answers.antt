use Rattle.std.proofs.Common.{rules}
use Rattle.erhl_assert.proofs.facts.FactExact.is.Goals as goal

pub returns-then-is : goal.returns-then-is
returns-then-is c = search rules
