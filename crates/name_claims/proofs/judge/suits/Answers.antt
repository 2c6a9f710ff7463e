-- A block is no register of any type.
use Rattle.std.proofs.Common.{rules}
use Rattle.name_claims.proofs.judge.suits.Goals as goal

pub returns-in-Block : goal.returns-in-Block
returns-in-Block c = search rules
