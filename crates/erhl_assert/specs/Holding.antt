-- What facts of memory say of one side.
use Rattle.std.specs.Prelude.{◌≡◌, ◌≢◌, ℕ, true, false, List, Option, None, Some, MatchOption}
use Rattle.std.specs.List.{AllByRecursion, Contains}
use Rattle.ir_types.specs.declared.names.Name.{Name}
use Rattle.ir_types.specs.Same.{same_name}
use Rattle.ir_core.specs.declared.values.Kind.{Kind}
use Rattle.ir_core.specs.declared.values.Value.{Value}
use Rattle.ir_core.specs.declared.values.Value.TheVariants as value
use Rattle.ir_core.specs.declared.expressions.Reg.{Reg}
use Rattle.ir_core.specs.declared.expressions.Reg.TheVariants.{Now, Old, Ghost}
use Rattle.ir_values.specs.declared.operations.Outcome.{Outcome}
use Rattle.ir_values.specs.declared.operations.Outcome.TheVariants.{Gives, Trap}
use Rattle.block_memory.specs.Memory.{Cell, can_access}
use Rattle.ir_machine.specs.Registers.{Held, Registers}
use Rattle.ir_machine.specs.Keeps.{AreRegistersAmong, IsByteAmong, IsHeldAmong, IsNameAmong}
use Rattle.erhl_assert.specs.Sides.{SideState}

-- the block that a value points into
abbrev pub block_of : Value → Option ℕ
block_of (value.Ptr block offset) = Some block
block_of (value.Num n) = None
block_of (value.Bare address) = None
block_of value.Undef = None
block_of value.Poison = None

abbrev pub block_given : Outcome → Option ℕ
block_given (Gives v) = block_of v
block_given Trap = None

abbrev pub block_held : Option Held → Option ℕ
block_held None = None
block_held (Some held) = block_of held.value

-- what is said of the block, if there is one
abbrev pub IfBlock : Option ℕ → (ℕ → Type 0) → Type 0
IfBlock o P = MatchOption o (Unit {0}) P

-- a block other than that one
abbrev pub IsNot : ℕ → ℕ → Type 0
IsNot b c = c ≡ b → ⊥

-- No other register of now, no register of another frame, no byte and no name holds the block. Old and ghost registers may.
pub record HoldsAlone (side : SideState) (p : Name) (b : ℕ) : Type 0 where
  pub now : (x : Name) → same_name x p ≡ false → IsHeldAmong (IsNot b) (side.files.now x)
  pub others : AllByRecursion (AreRegistersAmong (IsNot b)) side.others
  pub bytes : AllByRecursion (λ (c : Cell). AllByRecursion (IsByteAmong (IsNot b)) c.bytes) side.world.memory
  pub names : AllByRecursion (IsNameAmong (IsNot b)) side.world.names

-- the block is in no pair, and the frame made it
pub record IsPrivate (side : SideState) (b : ℕ) : Type 0 where
  pub unpaired : side.paired b ≡ false
  pub own : Contains side.own b

-- Of an old or a ghost register neither is true in any state.
abbrev pub HoldsUnique : SideState → Reg → Type 0
HoldsUnique side (Now p) = IfBlock (block_held (side.files.now p)) (HoldsAlone side p)
HoldsUnique side (Old p) = ⊥
HoldsUnique side (Ghost p) = ⊥

abbrev pub HoldsPrivate : SideState → Reg → Type 0
HoldsPrivate side (Now p) = IfBlock (block_held (side.files.now p)) (IsPrivate side)
HoldsPrivate side (Old p) = ⊥
HoldsPrivate side (Ghost p) = ⊥

-- not both are pointers into one block
abbrev pub AreNoAliases : Outcome → Outcome → Type 0
AreNoAliases a b = IfBlock (block_given a) (λ c. block_given b ≢ Some c)

-- an access of that kind through it doesn't trap; at a type without values, and through what traps, each does
abbrev pub CanAccess : SideState → Option Kind → Outcome → ℕ → Type 0
CanAccess side None o align = ⊥
CanAccess side (Some k) Trap align = ⊥
CanAccess side (Some k) (Gives v) align = can_access side.world.memory k v align ≡ true
