-- Two sides of a check, each with a memory of its own: by which pairs of blocks they belong together, and where a line leads them.
use Rattle.std.specs.Prelude.{◌≡◌, ◌⊎◌, ◌<◌, ◌≤◌, ℕ, true, List, [], ◌∷◌, length, slice_get, Option, None, Some}
use Rattle.std.specs.List.{AllByRecursion, AllZip}
use Rattle.ir_core.specs.declared.functions.Instr.{Instr}
use Rattle.ir_core.specs.declared.modules.Module.{Module}
use Rattle.ir_values.specs.Related.{ArePaired, Pairing}
use Rattle.block_memory.specs.Memory.{Cell, Memory}
use Rattle.block_memory.specs.Related.{AreMemoriesRelated}
use Rattle.ir_machine.specs.Keeps.{AreRegistersAmong, IsByteAmong, IsMade, IsNameAmong}
use Rattle.ir_machine.specs.Machine.{Does, line_step, wrong}
use Rattle.ir_machine.specs.State.{Frame, Pending, Running, scope_of}
use Rattle.erhl_assert.specs.declared.facts.Assertion.{Assertion}
use Rattle.erhl_assert.specs.Facts.{AssertionHolds}
use Rattle.erhl_assert.specs.Sides.{IsFine, SideState, no_ghost}

-- the block of each global has the global's number for a name, as from the start of every run
abbrev pub AreGlobalsNamed : SideState → Type 0
AreGlobalsNamed side = (k : ℕ) → k < length side.scope.globals → slice_get side.world.names k ≡ Some (Some k)

-- what isn't made nothing holds: no register of now, before the edge or of the proof alone, none of another frame, no byte and no name
pub record HoldsMade (side : SideState) : Type 0 where
  pub now : AreRegistersAmong (IsMade side.world.memory) side.files.now
  pub old : AreRegistersAmong (IsMade side.world.memory) side.files.old
  pub ghost : AreRegistersAmong (IsMade side.world.memory) side.files.ghost
  pub others : AllByRecursion (AreRegistersAmong (IsMade side.world.memory)) side.others
  pub bytes : AllByRecursion (λ (c : Cell). AllByRecursion (IsByteAmong (IsMade side.world.memory)) c.bytes) side.world.memory
  pub names : AllByRecursion (IsNameAmong (IsMade side.world.memory)) side.world.names

-- ---- pairs

-- a name of the source and the same of the target are bound to two blocks of a pair, or neither to any
abbrev pub AreNamesPaired : Pairing → Option ℕ → Option ℕ → Type 0
AreNamesPaired ps None None = Unit {0}
AreNamesPaired ps (Some b) (Some c) = ArePaired ps b c
AreNamesPaired ps (Some b) None = ⊥
AreNamesPaired ps None (Some c) = ⊥

-- Two sides of modules with the same types and globals, by pairs of their blocks. The blocks of a pair are alike, but that the target's bytes
-- refine the source's; each name leads to a pair; the block of a global is in one with itself; and of a block in a pair its side says so.
pub record AreCommon (ps : Pairing) (source target : SideState) : Type 0 where
  pub scope : source.scope ≡ target.scope
  pub memories : AreMemoriesRelated ps source.world.memory target.world.memory
  pub names : AllZip (AreNamesPaired ps) source.world.names target.world.names
  pub globals : (k : ℕ) → k < length source.scope.globals → ArePaired ps k k
  pub source_paired : (b c : ℕ) → ArePaired ps b c → source.paired b ≡ true
  pub target_paired : (b c : ℕ) → ArePaired ps b c → target.paired c ≡ true

-- and each is as it should be, and holds only what is made
pub record AreSides (ps : Pairing) (source target : SideState) : Type 0 where
  pub common : AreCommon ps source target
  pub source_fine : IsFine source
  pub target_fine : IsFine target
  pub source_made : HoldsMade source
  pub target_made : HoldsMade target

-- pairs that were stay, and a new one is of two new blocks
pub record ArePairsMore (ps qs : Pairing) (m n : Memory) : Type 0 where
  pub kept : (b c : ℕ) → ArePaired ps b c → ArePaired qs b c
  pub new : (b c : ℕ) → ArePaired qs b c → ArePaired ps b c ⊎ ((length m ≤ b) × (length n ≤ c))

-- ---- lines

-- the line leads every frame with the side's registers and own blocks from its world to those of the other side, in whichever module of its types
-- and globals
abbrev pub LeadsTo : SideState → Instr → SideState → Type 0
LeadsTo side i after = (m : Module) (frame : Frame) (rest : List Pending) → scope_of m ≡ side.scope
    → line_step m i (record frame { registers = side.files.now; own = side.own }) rest side.world
    ≡ Does [] (Running (record frame { registers = after.files.now; own = after.own }) rest after.world)

-- and there it is undefined behaviour
abbrev pub LeadsWrong : SideState → Instr → Type 0
LeadsWrong side i = (m : Module) (frame : Frame) (rest : List Pending) → scope_of m ≡ side.scope
    → line_step m i (record frame { registers = side.files.now; own = side.own }) rest side.world ≡ wrong

-- the line, or a no-op, leads there, or is undefined behaviour
abbrev pub LineLeads : SideState → Option Instr → Option SideState → Type 0
LineLeads side None after = after ≡ Some side
LineLeads side (Some i) (Some after) = LeadsTo side i after
LineLeads side (Some i) None = LeadsWrong side i

-- The source has undefined behaviour; or neither side has, and by those pairs and perhaps new ones the two are sides again, of which the assertion
-- holds.
abbrev pub Keeps : Pairing → Assertion → SideState → SideState → Option SideState → Option SideState → Type 0
Keeps ps known source target None after = Unit {0}
Keeps ps known source target (Some source_after) None = ⊥
Keeps ps known source target (Some source_after) (Some target_after) =
    (qs : Pairing) × ArePairsMore ps qs source.world.memory target.world.memory × AreSides qs source_after target_after
    × AssertionHolds qs no_ghost known source_after target_after
