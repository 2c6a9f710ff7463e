-- A name that is defined twice comes first.
use Rattle.std.proofs.Common.{rules}
use Rattle.name_claims.proofs.judge.rank.Goals as goal

pub returns-in-Twice : goal.returns-in-Twice
returns-in-Twice c = search rules
