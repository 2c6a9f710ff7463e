use Rattle.std.proofs.Common.{Result, Ok, Err, ◌≡◌, IfOk, IfNone, IfSome, Option, None, List}
use Rattle.name_claims.specs.declared.claims.Fault.{Fault}
use Rattle.name_claims.specs.declared.claims.Item.{Item}
use Rattle.name_claims.specs.Faults.{HasFault, IsFirst}
use Rattle.name_claims.specs.Indexes.{first_of}
use Rattle.name_claims.proofs.First.{none_if, some_if}
use Rattle.name_claims.proofs.judge.first_fault.Goals as goal

none_in : {E : Type 0} (items : List Item) (r : Result (Option Fault) E) → IfOk r (λ found. found ≡ first_of None items) → IfOk r (λ found. IfNone found ((f : Fault) → HasFault items f → ⊥))
none_in items (Ok found) is = none_if items found is
none_in items (Err e) is = is

some_in : {E : Type 0} (items : List Item) (r : Result (Option Fault) E) → IfOk r (λ found. found ≡ first_of None items) → IfOk r (λ found. IfSome found (λ f. IsFirst items f))
some_in items (Ok found) is = some_if items found is
some_in items (Err e) is = is

pub returns-clause-none : goal.returns-clause-none
returns-clause-none c = none_in c.args.items.now c.first_from_left.result c.first_from_left.ensures

pub returns-clause-first : goal.returns-clause-first
returns-clause-first c = some_in c.args.items.now c.first_from_left.result c.first_from_left.ensures
