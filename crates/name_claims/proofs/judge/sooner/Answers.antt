-- The second is the first one where it comes before.
use Rattle.std.proofs.Common.{rules}
use Rattle.name_claims.proofs.judge.sooner.Goals as goal

pub returns-then-before : goal.returns-then-before
returns-then-before c = search rules
