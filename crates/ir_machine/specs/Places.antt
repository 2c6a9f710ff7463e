-- The state of a run, of which the code keeps the place in the module.
use Rattle.std.specs.Prelude.{◌+◌, ◌++◌, ℕ, zero, suc, Bool, true, false, List, [], ◌∷◌, Option, None, Some, slice_get, drop}
use Rattle.std.specs.Option.{option_and_then, option_map}
use Rattle.ir_core.specs.declared.functions.Block.{Block}
use Rattle.ir_core.specs.declared.functions.Call.{Call}
use Rattle.ir_core.specs.declared.functions.Function.{Function}
use Rattle.ir_core.specs.declared.functions.Instr.{Instr}
use Rattle.ir_core.specs.declared.functions.Instr.TheVariants as line
use Rattle.ir_core.specs.declared.modules.Module.{Module}
use Rattle.ir_machine.specs.declared.items.Item.{Item}
use Rattle.ir_machine.specs.declared.items.Item.TheVariants as item
use Rattle.ir_machine.specs.declared.machine.KeptFrame.{KeptFrame}
use Rattle.ir_machine.specs.declared.machine.Place.{Place}
use Rattle.ir_machine.specs.declared.machine.KeptWorld.{KeptWorld}
use Rattle.ir_machine.specs.declared.machine.RunState.{RunState}
use Rattle.ir_machine.specs.declared.machine.Progress.{Progress}
use Rattle.ir_machine.specs.declared.machine.Progress.TheVariants as progress
use Rattle.ir_machine.specs.declared.registers.RegisterFile.{RegisterFile}
use Rattle.ir_machine.specs.Registers.{Registers}
use Rattle.ir_machine.specs.Machine.{waiting_for}
use Rattle.ir_machine.specs.State.{Frame, Pending, World, State, Running, Waiting, Over}
use Rattle.ir_machine.specs.Kept.{kept_registers}

-- the frame at that line of the block
abbrev pub at_line : Function → Block → ℕ → Registers → List ℕ → Frame
at_line f b line registers own = record { function = f; block = b.name; lines = drop line b.body; term = b.term; registers = registers; own = own }

abbrev pub next_line : Place → Place
next_line p = record { function = p.function; block = p.block; line = p.line + 1 }

abbrev pub start_of : ℕ → Place
start_of function = record { function = function; block = 0; line = 0 }

abbrev pub registers_in : RegisterFile → Registers
registers_in file = kept_registers (file.few.items ++ file.held.entries)

abbrev pub world_in : KeptWorld → World
world_in kept = record { memory = kept.blocks; names = kept.names }

-- ---- frames

-- the block in which a place is
abbrev pub block_at : Module → Place → Option Block
block_at m p = option_and_then (λ (f : Function). slice_get f.blocks p.block) (slice_get m.functions p.function)

-- the frame that is kept at a place of that function
abbrev pub frame_in : Function → KeptFrame → Option Frame
frame_in f kept =
    option_map (λ b. at_line f b kept.place.line (registers_in kept.registers) kept.own.items) (slice_get f.blocks kept.place.block)

abbrev pub frame_of : Module → KeptFrame → Option Frame
frame_of m kept = option_and_then (λ f. frame_in f kept) (slice_get m.functions kept.place.function)

-- the line before that one
abbrev pub line_before : List Instr → ℕ → Option Instr
line_before lines zero = None
line_before lines (suc n) = slice_get lines n

abbrev pub call_of : Instr → Option Call
call_of (line.Call c) = Some c
call_of (line.Calm l) = None
call_of (line.Alloca a) = None
call_of (line.Store s) = None

-- a frame that waits stands behind its call
abbrev pub call_before : Module → Place → Option Call
call_before m p = option_and_then call_of (option_and_then (λ (b : Block). line_before b.body p.line) (block_at m p))

abbrev pub pending_of : Module → KeptFrame → Option Pending
pending_of m kept = option_and_then (λ c. option_map (waiting_for c) (frame_of m kept)) (call_before m kept.place)

-- frames that wait, above others: the last on top
abbrev pub waiting_on : Module → List KeptFrame → List Pending → Option (List Pending)
waiting_on m [] ps = Some ps
waiting_on m (kept ∷ more) ps = option_and_then (λ p. waiting_on m more (p ∷ ps)) (pending_of m kept)

-- ---- states

abbrev pub running_state : Option Frame → List Pending → World → State
running_state None rest world = Over
running_state (Some frame) rest world = Running frame rest world

abbrev pub waiting_state : Option Pending → List Pending → World → State
waiting_state None rest world = Over
waiting_state (Some p) rest world = Waiting p rest world

-- a run of which a frame stands nowhere in the module is over
abbrev pub state_on : Module → Option KeptFrame → Bool → World → Option (List Pending) → State
state_on m None waits world rest = Over
state_on m (Some top) waits world None = Over
state_on m (Some top) true world (Some rest) = waiting_state (pending_of m top) rest world
state_on m (Some top) false world (Some rest) = running_state (frame_of m top) rest world

-- THE state that the code keeps
abbrev pub state_of : Module → RunState → State
state_of m kept = state_on m kept.top kept.waits (world_in kept.world) (waiting_on m kept.below.items [])

-- the frame before the block's terminator
abbrev pub at_end : Function → Block → Registers → List ℕ → Frame
at_end f b registers own = record { function = f; block = b.name; lines = []; term = b.term; registers = registers; own = own }

-- how a run stands that showed these items last and is in this state
abbrev pub progress_of : List Item → State → Progress
progress_of items (Running frame rest world) = progress.Goes
progress_of items (Waiting p rest world) = progress.Goes
progress_of [] Over = progress.Ended
progress_of (item.Wrong ∷ items) Over = progress.IsWrong
progress_of (item.Turn ∷ items) Over = progress_of items Over
progress_of (item.Returned s ∷ items) Over = progress_of items Over
progress_of (item.Called x args ∷ items) Over = progress_of items Over
progress_of (item.EnvRead x offset s ∷ items) Over = progress_of items Over
progress_of (item.EnvWrite x offset s ∷ items) Over = progress_of items Over
progress_of (item.EnvNew align bytes ∷ items) Over = progress_of items Over
progress_of (item.Replied s ∷ items) Over = progress_of items Over
