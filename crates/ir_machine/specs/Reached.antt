-- What shape is worth to the runs of a module: no jump is lost, and no call.
use Rattle.std.specs.Prelude.{◌≡◌, ℕ, Bool, true, List, ◌∷◌, Option, None, Some, IsSome}
use Rattle.std.specs.List.{AllByRecursion}
use Rattle.ir_core.specs.declared.functions.Block.{Block}
use Rattle.ir_core.specs.declared.functions.Function.{Function}
use Rattle.ir_core.specs.declared.functions.Instr.{Instr}
use Rattle.ir_core.specs.declared.functions.Instr.TheVariants as line
use Rattle.ir_core.specs.declared.modules.Module.{Module}
use Rattle.ir_core.specs.declared.functions.Phi.{Phi}
use Rattle.ir_types.specs.declared.names.Name.{Name}
use Rattle.ir_core.specs.Functions.{successors_of}
use Rattle.ir_core.specs.WellFormed.{HasShape}
use Rattle.ir_machine.specs.declared.inputs.Input.{Input}
use Rattle.ir_machine.specs.declared.items.Item.{Item}
use Rattle.ir_machine.specs.Laws.{Leads}
use Rattle.ir_machine.specs.Machine.{Follows, Made, asks, block_named, entry_from, function_named, is_declared}
use Rattle.ir_machine.specs.Starting.{start}
use Rattle.ir_machine.specs.State.{Frame, Pending, State, Running, Waiting, Over}

-- some run of the module comes to the state
pub record IsReached (m : Module) (s : State) : Type 0 where
  pub entry : Name
  pub input : Input
  pub first : State
  pub starts : start m entry input ≡ Some first
  pub steps : ℕ
  pub items : List Item
  pub leads : Leads m steps first items s

-- the start of a run is reached
abbrev pub StartsAreReached : Type 0
StartsAreReached = (m : Module) (f : Name) (input : Input) (s : State) → start m f input ≡ Some s → IsReached m s

-- and so is what a step of a reached state leads to
abbrev pub StepsAreReached : Type 0
StepsAreReached = (m : Module) (s : State) (made : Made) → IsReached m s → Follows (asks m s) made → IsReached m made.after

-- a jump to that label finds its block, and each phi of that block an entry for the one that is left
pub record IsFound (frame : Frame) (to : Name) : Type 0 where
  pub block : Block
  pub named : block_named to frame.function.blocks ≡ Some block
  pub entries : AllByRecursion (λ (p : Phi). IsSome (entry_from frame.block p.entries)) block.phis

-- a function that the module defines has a first block; another that is called is declared
abbrev pub CanBeCalled : Option Function → Bool → Type 0
CanBeCalled (Some f) declared = (first : Block) × (further : List Block) × (f.blocks ≡ first ∷ further)
CanBeCalled None declared = declared ≡ true

abbrev pub FindsCallee : Module → Instr → Type 0
FindsCallee m (line.Call c) = CanBeCalled (function_named c.callee m.functions) (is_declared c.callee m.declarations)
FindsCallee m l = Unit {0}

-- wherever a frame's terminator leads, and whatever the lines call that are left
pub record FindsNamed (m : Module) (frame : Frame) : Type 0 where
  pub labels : AllByRecursion (IsFound frame) (successors_of frame.term)
  pub callees : AllByRecursion (FindsCallee m) frame.lines

abbrev pub WaitingFindNamed : Module → List Pending → Type 0
WaitingFindNamed m = AllByRecursion (λ (p : Pending). FindsNamed m p.frame)

abbrev pub AllFindNamed : Module → State → Type 0
AllFindNamed m (Running frame rest world) = FindsNamed m frame × WaitingFindNamed m rest
AllFindNamed m (Waiting p rest world) = FindsNamed m p.frame × WaitingFindNamed m rest
AllFindNamed m Over = Unit {0}

-- In each state that a run of a module with shape comes to, all frames find labels, the entries of phis, and what they call.
abbrev pub NothingIsLost : Type 0
NothingIsLost = (m : Module) (s : State) → HasShape m → IsReached m s → AllFindNamed m s
