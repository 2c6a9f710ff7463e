-- Words of private functions. What a step of the code is to the tree that it answers, and where a jump lands.
use Rattle.std.specs.Prelude.{◌≡◌, ◌+◌, ◌*◌, ℕ, pos, false, List, [], ◌∷◌, ◌++◌, length, Option, None, Some, Result, Ok, Err, IfOk, IsErrOf, slice_get}
use Rattle.std.specs.Option.{option_map}
use Rattle.ir_core.specs.declared.functions.Alloca.{Alloca}
use Rattle.ir_core.specs.declared.functions.Block.{Block}
use Rattle.ir_core.specs.declared.functions.Call.{Call}
use Rattle.ir_core.specs.declared.functions.Function.{Function}
use Rattle.ir_core.specs.declared.functions.Instr.TheVariants as line
use Rattle.ir_core.specs.declared.modules.Module.{Module}
use Rattle.ir_core.specs.declared.values.Kind.{Kind}
use Rattle.ir_core.specs.declared.values.Kind.TheVariants as kind
use Rattle.ir_core.specs.declared.values.Value.TheVariants.{Ptr}
use Rattle.ir_types.specs.declared.names.Name.{Name}
use Rattle.ir_types.specs.Named.{size_of}
use Rattle.ir_values.specs.declared.operations.Outcome.{Outcome}
use Rattle.ir_values.specs.declared.operations.Outcome.TheVariants.{Gives, Trap}
use Rattle.ir_values.specs.Constants.{Scope}
use Rattle.block_memory.specs.Memory.{Memory, new_cell}
use Rattle.block_memory.specs.declared.items.Choice.{Choice}
use Rattle.ir_machine.specs.declared.items.Item.TheVariants.{Turn, Wrong}
use Rattle.ir_machine.specs.declared.jumping.Landing.{Landing}
use Rattle.ir_machine.specs.declared.machine.KeptFrame.{KeptFrame}
use Rattle.ir_machine.specs.declared.machine.KeptWorld.{KeptWorld}
use Rattle.ir_machine.specs.declared.machine.Place.{Place}
use Rattle.ir_machine.specs.declared.machine.Progress.{Progress}
use Rattle.ir_machine.specs.declared.machine.Progress.TheVariants as progress
use Rattle.ir_machine.specs.declared.machine.RunState.{RunState}
use Rattle.ir_machine.specs.declared.machine.StepEnd.{StepEnd}
use Rattle.ir_machine.specs.declared.machine.StepEnd.TheVariants as end
use Rattle.ir_machine.specs.declared.machine.Stepped.{Stepped}
use Rattle.ir_machine.specs.Choices.{Did, Lacks, answer, TakesAsked}
use Rattle.ir_machine.specs.Machine.{Asks, Does, count_made, wrong}
use Rattle.ir_machine.specs.Places.{at_end, at_line, next_line, progress_of, registers_in, running_state, state_on, waiting_on, world_in}
use Rattle.ir_machine.specs.Registers.{Registers, align_or, set}
use Rattle.ir_machine.specs.State.{Frame, Pending, State, Over, World}

-- what a line leaves, and what it finds: registers, the blocks that the frame made, and the world
pub record Left : Type 0 where
  pub registers : Registers
  pub own : List ℕ
  pub world : World

abbrev pub left_by : Option Kind → Name → Outcome → Left → Option Left
left_by k x (Gives v) before = Some (record before { registers = set before.registers x k v })
left_by k x Trap before = None

abbrev pub left_with : Option Memory → Left → Option Left
left_with None before = None
left_with (Some memory) before = Some (record before { world = record before.world { memory = memory } })

-- an alloca's block, its address in the register
abbrev pub left_made : Scope → Alloca → Left → Left
left_made scope a before =
    let b = length before.world.memory in record {
      registers = set before.registers a.name (Some kind.Ptr) (Ptr b (pos 0));
      own = before.own ++ b ∷ [];
      world = record before.world {
        memory = before.world.memory ++ new_cell (size_of scope.types a.of * count_made a.count) (align_or scope.types a.of a.align) [] ∷ [];
      };
    }

-- ---- frames

abbrev pub left_in : KeptFrame → KeptWorld → Left
left_in frame world = record { registers = registers_in frame.registers; own = frame.own.items; world = world_in world }

-- the frame is at the same place, with the same registers and blocks
abbrev pub IsAsBefore : KeptFrame → KeptFrame → Type 0
IsAsBefore before after =
    (after.place ≡ before.place) × (registers_in after.registers ≡ registers_in before.registers) × (after.own.items ≡ before.own.items)

-- The code has done a line that leaves this: the frame stands after it, in that world, or the line is undefined behaviour.
abbrev pub DoesLine : {E : Type 0} → Place → Option Left → Result Stepped E → KeptFrame → KeptWorld → Type 0
DoesLine place None result frame world = IfOk result (λ stepped. (stepped.items ≡ Wrong ∷ []) × (stepped.progress ≡ progress.IsWrong))
DoesLine place (Some left) result frame world = IfOk result (λ stepped. (stepped.items ≡ []) × (stepped.progress ≡ progress.Goes)
    × (frame.place ≡ next_line place) × (registers_in frame.registers ≡ left.registers)
    × (frame.own.items ≡ left.own) × (world_in world ≡ left.world))

-- the frame before the terminator of the block
abbrev pub at_end_of : Function → Block → KeptFrame → Frame
at_end_of f b kept = at_end f b (registers_in kept.registers) kept.own.items

-- the frame after the line at which it is
abbrev pub behind_line : Function → Block → KeptFrame → Frame
behind_line f b kept = at_line f b (kept.place.line + 1) (registers_in kept.registers) kept.own.items

-- ---- runs

-- the state of a run with that frame on top
abbrev pub state_under : Module → KeptFrame → RunState → State
state_under m top kept = state_on m (Some top) kept.waits (world_in kept.world) (waiting_on m kept.below.items [])

-- a run that goes on is in that state
abbrev pub state_after : State → Progress → State
state_after state progress.Goes = state
state_after state progress.Ended = Over
state_after state progress.IsWrong = Over

-- the frame on top is in that block of that function, above these, and doesn't wait
pub record IsOnTop (m : Module) (f : Function) (b : Block) (top : KeptFrame) (kept : RunState) (rest : List Pending) : Type 0 where
  pub function : slice_get m.functions top.place.function ≡ Some f
  pub block : slice_get f.blocks top.place.block ≡ Some b
  pub runs : kept.waits ≡ false
  pub below : waiting_on m kept.below.items [] ≡ Some rest

-- it stands at a call
pub record IsAtCall (m : Module) (f : Function) (b : Block) (c : Call) (top : KeptFrame) (kept : RunState) (rest : List Pending) : Type 0 where
  pub on_top : IsOnTop m f b top kept rest
  pub call : slice_get b.body top.place.line ≡ Some (line.Call c)

-- The step does what the tree does, which asks for nothing; a run that goes on is in that state.
pub record JustDoes {E : Type 0} (tree : Asks) (state : State) (result : Result Stepped E) : Type 0 where
  pub made : IfOk result (λ stepped. tree ≡ Does stepped.items (state_after state stepped.progress))
  pub progress : IfOk result (λ stepped. stepped.progress ≡ progress_of stepped.items (state_after state stepped.progress))

-- What the step makes of the choices before and after it is what the tree answers; a run that goes on is in that state.
pub record Answers (tree : Asks) (before after : List Choice) (state : State) (result : Result Stepped StepEnd) : Type 0 where
  pub made : IfOk result (λ stepped. answer tree before ≡ Did stepped.items (state_after state stepped.progress) after)
  pub progress : IfOk result (λ stepped. stepped.progress ≡ progress_of stepped.items (state_after state stepped.progress))
  pub no_choice : IsErrOf result end.NoChoice → answer tree before ≡ Lacks after
  pub told : TakesAsked tree before after

-- the tree answers as what follows the label that is told, or it lacks a choice
abbrev pub TellsLabel : Option Name → Asks → List Choice → (Name → Asks) → List Choice → Type 0
TellsLabel (Some x) tree before next after = answer tree before ≡ answer (next x) after
TellsLabel None tree before next after = answer tree before ≡ Lacks after

-- what a jump does that lands so in the function
abbrev pub lands : Function → List ℕ → List Pending → World → Option Landing → Asks
lands f own rest world (Some l) =
    Does (Turn ∷ []) (running_state (option_map (λ b. at_line f b 0 (registers_in l.registers) own) (slice_get f.blocks l.block)) rest world)
lands f own rest world None = wrong

abbrev pub kept_as : Progress → KeptFrame → Option KeptFrame
kept_as progress.Goes top = Some top
kept_as progress.Ended top = None
kept_as progress.IsWrong top = None

-- the frame on top after the step: none, once the run is over
abbrev pub kept_after : Result Stepped StepEnd → KeptFrame → Option KeptFrame
kept_after (Ok stepped) top = kept_as stepped.progress top
kept_after (Err e) top = Some top
