use Rattle.std.proofs.Common.{◌≡◌, ◌≤◌, true, drop, length}
use Rattle.ir_types.specs.declared.names.Name.{Name}
use Rattle.name_claims.specs.Indexes.{AreAllNew, position}
use Rattle.name_claims.proofs.Found.{first_behind}
use Rattle.name_claims.proofs.index.index_of.Given as goal

-- what stands from the index on is put
abbrev pub invariant-loop-at : goal.invariant-loop-at
invariant-loop-at l = record {
  within : l.at ≤ length l.definitions;
  put : (name : Name) → position l.index name ≡ first_behind name l.at l.definitions;
  new : l.index.all_new ≡ true → AreAllNew (drop l.at l.definitions);
}

abbrev pub decreases-loop-at : goal.decreases-loop-at
decreases-loop-at l = l.at
