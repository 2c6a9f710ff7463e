use Rattle.std.proofs.Common.{◌≡◌, drop}
use Rattle.std.specs.Prelude.{None}
use Rattle.name_claims.specs.Indexes.{first_of}
use Rattle.name_claims.proofs.judge.first_from_left.Given as goal

abbrev pub invariant-loop-item : goal.invariant-loop-item
invariant-loop-item l = first_of l.best (drop l.item-index l.items) ≡ first_of None l.items
