-- the name is defined nowhere so far
use Rattle.std.proofs.Common.{◌≡◌}
use Rattle.name_claims.specs.Indexes.{first_at}
use Rattle.name_claims.proofs.Found.{first_behind}
use Rattle.name_claims.proofs.places.first_at.Given as goal

abbrev pub invariant-loop-at : goal.invariant-loop-at
invariant-loop-at l = first_behind l.name l.at l.definitions ≡ first_at l.name l.definitions
