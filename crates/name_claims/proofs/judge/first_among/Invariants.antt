use Rattle.std.proofs.Common.{◌≡◌, drop}
use Rattle.name_claims.specs.Indexes.{first_in}
use Rattle.name_claims.proofs.judge.first_among.Given as goal

abbrev pub invariant-loop-claim : goal.invariant-loop-claim
invariant-loop-claim l = first_in l.definitions l.best (drop l.claim-index l.claims) ≡ first_in l.definitions l.initial.best l.claims
