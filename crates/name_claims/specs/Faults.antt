-- Which claim of a text is at fault, and which fault is the first one.
use Rattle.std.specs.Prelude.{◌≡◌, ℕ, ◌==◌, Bool, false, ◌&&◌, ◌||◌, List, [], ◌∷◌, Option, Some, None, if◌then◌else◌, nat_lt, slice_get, take}
use Rattle.std.specs.List.{Contains, list_any}
use Rattle.ir_types.specs.declared.names.Name.{Name}
use Rattle.ir_types.specs.declared.ty.Ty.{Ty}
use Rattle.ir_types.specs.Same.{same_name, same_ty}
use Rattle.name_claims.specs.declared.claims.Claim.{Claim}
use Rattle.name_claims.specs.declared.claims.Count.{Count}
use Rattle.name_claims.specs.declared.claims.Definition.{Definition}
use Rattle.name_claims.specs.declared.claims.Fault.{Fault}
use Rattle.name_claims.specs.declared.claims.Item.{Item}
use Rattle.name_claims.specs.declared.claims.Meaning.{Meaning}
use Rattle.name_claims.specs.declared.claims.Meaning.TheVariants as meaning
use Rattle.name_claims.specs.declared.claims.Reason.{Reason}
use Rattle.name_claims.specs.declared.claims.Reason.TheVariants.{Twice, WrongNumber, Unknown, LeftOut, WrongType}
use Rattle.name_claims.specs.declared.claims.Says.{Says}
use Rattle.name_claims.specs.declared.claims.Says.TheVariants as says

-- ---- what is at fault

-- the first definition of the name
abbrev pub find : Name → List Definition → Option Definition
find name [] = None
find name (d ∷ ds) = if same_name name d.name then Some d else find name ds

-- one of the definitions has the name
abbrev pub is_defined : Name → List Definition → Bool
is_defined name = list_any (λ (d : Definition). same_name name d.name)

-- the definition has the name of one of those
abbrev pub repeats : Option Definition → List Definition → Bool
repeats None ds = false
repeats (Some d) ds = is_defined d.name ds

abbrev pub at_fault : Bool → Reason → Option Reason
at_fault wrong reason = if wrong then Some reason else None

-- The definition of this index is none before it. Of the definitions 0, `x`, 0 the last is defined twice.
abbrev pub twice : List Definition → ℕ → Option Reason
twice ds k = at_fault (repeats (slice_get ds k) (take k ds)) Twice

abbrev pub counted : Count → Option Reason
counted c = if c.written == c.due then None else Some (WrongNumber c.due)

abbrev pub typed : Bool → Option Reason
typed same = if same then None else Some WrongType

-- A register has the type that is stated for it. In `a: ret i32 %a` the name stands for a block, which is of no type.
abbrev pub suits : Ty → Meaning → Option Reason
suits ty (meaning.Register known) = typed (same_ty known ty)
suits ty meaning.Block = Some WrongType
suits ty meaning.Function = Some WrongType

-- a name that is used is defined, before or behind, as a register of the type
abbrev pub register : Ty → Option Definition → Option Reason
register ty None = Some Unknown
register ty (Some d) = suits ty d.meaning

-- A label leads to a block. In `br label %x` behind `%x = add i32 1, 2` the name stands for a register.
abbrev pub leads : Meaning → Option Reason
leads (meaning.Register ty) = Some WrongType
leads meaning.Block = None
leads meaning.Function = Some WrongType

-- a name that is used as a label is defined, before or behind, as a block
abbrev pub label : Option Definition → Option Reason
label None = Some Unknown
label (Some d) = leads d.meaning

-- why what is said is at fault, if it is
abbrev pub says_wrong : List Definition → Says → Option Reason
says_wrong ds (says.New k) = twice ds k
says_wrong ds (says.Counted count) = counted count
says_wrong ds (says.Register used) = register used.ty (find used.name ds)
says_wrong ds (says.Label name) = label (find name ds)
says_wrong ds says.Wrong = Some WrongType

-- why the claim is at fault, if it is
abbrev pub fault_at : Item → Claim → Option Reason
fault_at item claim = says_wrong item.definitions claim.says

-- ---- the first fault

-- the order of the faults at one place
abbrev pub rank : Reason → ℕ
rank Twice = 0
rank (WrongNumber due) = 1
rank Unknown = 2
rank LeftOut = 3
rank WrongType = 4

-- by place, and at one place by rank
abbrev pub before : Fault → Fault → Bool
before a b = nat_lt a.start b.start || ((a.start == b.start) && nat_lt (rank a.reason) (rank b.reason))

abbrev pub SomeHas : {T : Type 0} → (T → Fault → Type 0) → List T → Fault → Type 0
SomeHas {T} has xs f = (x : T) × Contains xs x × has x f

-- the claim is at fault so, where it stands
abbrev pub ClaimHasFault : Item → Claim → Fault → Type 0
ClaimHasFault item claim f = (f.start ≡ claim.start) × (f.end ≡ claim.end) × (fault_at item claim ≡ Some f.reason)

-- a claim of one of the items is at fault so
abbrev pub HasFault : List Item → Fault → Type 0
HasFault items f = SomeHas (λ item. SomeHas (ClaimHasFault item) item.claims) items f

-- It is one of the faults, and none comes before it.
--
-- In `define i32 @f(i32) { 0: ret i32 %z }` the parameter is 0 and the block is 0 again, where 1 is due: of the places 21 to 22 and
-- 32 to 34 the first has two faults, and the first one is that 0 is defined twice.
abbrev pub IsFirst : List Item → Fault → Type 0
IsFirst items f = HasFault items f × ((g : Fault) → HasFault items g → before g f ≡ false)
