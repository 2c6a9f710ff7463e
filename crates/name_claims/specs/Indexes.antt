-- Words of private functions: an index of the first definition of each name, and the first fault as it is found from the left.
use Rattle.std.specs.Prelude.{◌≡◌, ℕ, suc, Bool, true, false, List, [], ◌∷◌, Option, Some, None, if◌then◌else◌, option_map, nat_lt}
use Rattle.indexmap.specs.IndexMap.{get_by}
use Rattle.ir_types.specs.declared.names.Name.{Name}
use Rattle.ir_types.specs.Same.{same_name}
use Rattle.name_claims.specs.declared.claims.Claim.{Claim}
use Rattle.name_claims.specs.declared.claims.Definition.{Definition}
use Rattle.name_claims.specs.declared.claims.Fault.{Fault}
use Rattle.name_claims.specs.declared.claims.Item.{Item}
use Rattle.name_claims.specs.declared.claims.Reason.{Reason}
use Rattle.name_claims.specs.declared.index.Index.{Index}
use Rattle.name_claims.specs.Faults.{before, says_wrong}

-- ---- the index

abbrev pub position : Index → Name → Option ℕ
position index name = get_by (λ key. same_name name key.now) index.first

abbrev pub or_else : Option ℕ → Option ℕ → Option ℕ
or_else None other = other
or_else (Some k) other = Some k

abbrev pub at_name : Name → ℕ → Name → Option ℕ
at_name name at other = if same_name other name then Some at else None

-- the index of the name's first definition
abbrev pub first_at : Name → List Definition → Option ℕ
first_at name [] = None
first_at name (d ∷ ds) = if same_name name d.name then Some 0 else option_map (λ k. suc k) (first_at name ds)

-- no name is defined again
abbrev pub AreAllNew : List Definition → Type 0
AreAllNew [] = Unit {0}
AreAllNew (d ∷ ds) = (first_at d.name ds ≡ None) × AreAllNew ds

pub record Indexes (index : Index) (ds : List Definition) : Type 0 where
  pub first : (name : Name) → position index name ≡ first_at name ds
  pub new : index.all_new ≡ true → AreAllNew ds

abbrev pub is_below : Option ℕ → ℕ → Bool
is_below None k = false
is_below (Some j) k = nat_lt j k

-- ---- from the left

abbrev pub fault_of : Claim → Option Reason → Option Fault
fault_of claim None = None
fault_of claim (Some reason) = Some (record { start = claim.start; end = claim.end; reason = reason })

abbrev pub sooner : Option Fault → Option Fault → Option Fault
sooner None g = g
sooner (Some f) None = Some f
sooner (Some f) (Some g) = Some (if before g f then g else f)

abbrev pub from_left : {T : Type 0} → (Option Fault → T → Option Fault) → Option Fault → List T → Option Fault
from_left step best [] = best
from_left step best (x ∷ xs) = from_left step (step best x) xs

abbrev pub first_in : List Definition → Option Fault → List Claim → Option Fault
first_in ds = from_left (λ best claim. sooner best (fault_of claim (says_wrong ds claim.says)))

abbrev pub first_of : Option Fault → List Item → Option Fault
first_of = from_left (λ best item. first_in item.definitions best item.claims)
