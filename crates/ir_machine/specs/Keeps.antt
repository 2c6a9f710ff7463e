-- What every step of a run keeps, of one state alone: what registers, bytes and names hold; which blocks frames own; which blocks stay.
use Rattle.std.specs.Prelude.{◌≡◌, ◌<◌, ◌≤◌, ◌+◌, ℕ, true, List, [], ◌∷◌, length, map, slice_get, Option, None, Some}
use Rattle.std.specs.List.{AllByRecursion, Contains}
use Rattle.ir_types.specs.declared.names.Name.{Name}
use Rattle.ir_types.specs.Named.{size_of}
use Rattle.ir_core.specs.declared.modules.GlobalVar.{GlobalVar}
use Rattle.ir_core.specs.declared.values.Byte.{Byte}
use Rattle.ir_core.specs.declared.values.Byte.TheVariants as byte
use Rattle.ir_core.specs.declared.values.Value.{Value}
use Rattle.ir_core.specs.declared.values.Value.TheVariants as value
use Rattle.ir_values.specs.Constants.{Scope}
use Rattle.block_memory.specs.Laws.{IsOfBytes}
use Rattle.block_memory.specs.Memory.{Cell, Memory, cell_at}
use Rattle.block_memory.specs.NameLaws.{AreApart}
use Rattle.ir_machine.specs.declared.inputs.Input.{Input}
use Rattle.ir_machine.specs.declared.inputs.InputBlock.{InputBlock}
use Rattle.ir_machine.specs.Registers.{AreInKind, Held, Registers, align_or}
use Rattle.ir_machine.specs.State.{Frame, Pending, World, State, Running, Waiting, Over}

-- ---- what is held

-- a pointer is to a block among those
abbrev pub IsAmong : (ℕ → Type 0) → Value → Type 0
IsAmong among (value.Ptr b offset) = among b
IsAmong among (value.Num n) = Unit {0}
IsAmong among (value.Bare address) = Unit {0}
IsAmong among value.Undef = Unit {0}
IsAmong among value.Poison = Unit {0}

-- a part of a pointer is of one to a block among those
abbrev pub IsByteAmong : (ℕ → Type 0) → Byte → Type 0
IsByteAmong among (byte.Frag b offset place) = among b
IsByteAmong among (byte.Num n) = Unit {0}
IsByteAmong among byte.Undef = Unit {0}
IsByteAmong among byte.Poison = Unit {0}

abbrev pub IsNameAmong : (ℕ → Type 0) → Option ℕ → Type 0
IsNameAmong among None = Unit {0}
IsNameAmong among (Some b) = among b

abbrev pub IsHeldAmong : (ℕ → Type 0) → Option Held → Type 0
IsHeldAmong among None = Unit {0}
IsHeldAmong among (Some held) = IsAmong among held.value

abbrev pub AreRegistersAmong : (ℕ → Type 0) → Registers → Type 0
AreRegistersAmong among registers = (x : Name) → IsHeldAmong among (registers x)

-- the registers of these frames, the bytes and the names hold blocks among those alone
pub record HoldOnly (among : ℕ → Type 0) (frames : List Frame) (world : World) : Type 0 where
  pub registers : AllByRecursion (λ (f : Frame). AreRegistersAmong among f.registers) frames
  pub bytes : AllByRecursion (λ (c : Cell). AllByRecursion (IsByteAmong among) c.bytes) world.memory
  pub names : AllByRecursion (IsNameAmong among) world.names

-- there is such a block
abbrev pub IsMade : Memory → ℕ → Type 0
IsMade memory b = b < length memory

-- no register of these frames, no byte and no name holds the block
abbrev pub IsUnheld : List Frame → World → ℕ → Type 0
IsUnheld frames world b = HoldOnly (λ c. c ≡ b → ⊥) frames world

-- ---- blocks

-- how many there are at the start of a run: those of the globals, and then those of its input
abbrev pub count_at_start : Scope → Input → ℕ
count_at_start scope input = length scope.globals + length input.blocks

-- a live block of that alignment and size
pub record IsLive (memory : Memory) (b align size : ℕ) : Type 0 where
  pub cell : Cell
  pub there : cell_at memory b ≡ Some cell
  pub live : cell.live ≡ true
  pub align_is : cell.align ≡ align
  pub size_is : length cell.bytes ≡ size

-- a block that a frame may own: one that there is, and that wasn't there at the start
pub record MayOwn (count : ℕ) (memory : Memory) (b : ℕ) : Type 0 where
  pub new : count ≤ b
  pub made : IsMade memory b

-- what a frame owns no frame below it does
abbrev pub OwnApart : List Frame → Type 0
OwnApart [] = Unit {0}
OwnApart (f ∷ fs) = AllByRecursion (λ (g : Frame). (b : ℕ) → Contains f.own b → Contains g.own b → ⊥) fs × OwnApart fs

-- ---- all together

-- of frames, the one on top first, and their world
pub record AreKept (scope : Scope) (input : Input) (frames : List Frame) (world : World) : Type 0 where
  -- values lie in their kinds, and bytes in their range
  pub registers : AllByRecursion (λ (f : Frame). AreInKind f.registers) frames
  pub bytes : IsOfBytes world.memory
  -- what isn't made is held by nothing
  pub held : HoldOnly (IsMade world.memory) frames world
  -- own blocks are made, none is a global or a block of the input, and none is owned twice
  pub own : AllByRecursion (λ (f : Frame). AllByRecursion (MayOwn (count_at_start scope input) world.memory) f.own) frames
  pub apart : OwnApart frames
  -- the blocks of the start are live, of their sizes and alignments, each under the name of its number
  pub globals : (k : ℕ) (g : GlobalVar) → slice_get scope.globals k ≡ Some g
      → IsLive world.memory k (align_or scope.types g.ty g.align) (size_of scope.types g.ty)
  pub inputs : (k : ℕ) (b : InputBlock) → slice_get input.blocks k ≡ Some b → IsLive world.memory (length scope.globals + k) b.align (length b.bytes)
  pub named : (k : ℕ) → k < count_at_start scope input → slice_get world.names k ≡ Some (Some k)
  -- no block has two names
  pub once : AreApart world.names

abbrev pub waiting : List Pending → List Frame
waiting ps = map (λ (p : Pending). p.frame) ps

-- what every state has that a run on that input comes to
abbrev pub IsKept : Scope → Input → State → Type 0
IsKept scope input (Running frame rest world) = AreKept scope input (frame ∷ waiting rest) world
IsKept scope input (Waiting p rest world) = AreKept scope input (p.frame ∷ waiting rest) world
IsKept scope input Over = Unit {0}
