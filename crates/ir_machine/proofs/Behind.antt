-- What a frame does at a line is what the line's step is.
use Rattle.std.proofs.Common.{◌≡◌, List, [], ◌∷◌, Option, None, Some, Result, Ok, Err, refl, sym, ◌∙◌, subst}
use Rattle.ir_core.specs.declared.functions.Alloca.{Alloca}
use Rattle.ir_core.specs.declared.functions.Block.{Block}
use Rattle.ir_core.specs.declared.functions.Calm.{Calm}
use Rattle.ir_core.specs.declared.functions.Function.{Function}
use Rattle.ir_core.specs.declared.functions.Instr.{Instr}
use Rattle.ir_core.specs.declared.functions.Instr.TheVariants as line
use Rattle.ir_core.specs.declared.functions.Store.{Store}
use Rattle.ir_core.specs.declared.modules.Module.{Module}
use Rattle.ir_core.specs.declared.values.Kind.{Kind}
use Rattle.ir_core.specs.Expressions.{type_of}
use Rattle.ir_core.specs.Types.{kind_of}
use Rattle.ir_types.specs.declared.names.Name.{Name}
use Rattle.ir_values.specs.declared.operations.Outcome.{Outcome}
use Rattle.ir_values.specs.declared.operations.Outcome.TheVariants.{Gives, Trap}
use Rattle.block_memory.specs.Memory.{Memory}
use Rattle.ir_machine.specs.declared.items.Item.TheVariants.{Wrong}
use Rattle.ir_machine.specs.declared.machine.KeptFrame.{KeptFrame}
use Rattle.ir_machine.specs.declared.machine.RunState.{RunState}
use Rattle.ir_machine.specs.declared.machine.StepEnd.{StepEnd}
use Rattle.ir_machine.specs.declared.machine.StepEnd.TheVariants as end
use Rattle.ir_machine.specs.declared.machine.Stepped.{Stepped}
use Rattle.block_memory.specs.declared.items.Choice.{Choice}
use Rattle.ir_machine.specs.Machine.{Asks, Does, line_step, set_to, stored_by, with_memory, wrong}
use Rattle.ir_machine.specs.Places.{registers_in, world_in}
use Rattle.ir_machine.specs.Registers.{outcome, read}
use Rattle.ir_machine.specs.State.{Frame, Pending, State, World, Over, Running, scope_of}
use Rattle.ir_machine.specs.Stepping.{Answers, DoesLine, IsOnTop, JustDoes, Left, behind_line, left_by, left_in, left_made, left_with, state_under}
use Rattle.ir_machine.proofs.Branching.{IsDone, done_answers, fails_answers, wrong_does}
use Rattle.ir_machine.proofs.Steps.{stands_behind}

-- the frame goes on with what is left, or is wrong
abbrev goes_behind : Option Left → Frame → List Pending → Asks
goes_behind None frame rest = wrong
goes_behind (Some left) frame rest = Does [] (Running (record frame { registers = left.registers; own = left.own }) rest left.world)

behind_done : (o : Option Left) (frame : Frame) (rest : List Pending) → IsDone (goes_behind o frame rest)
behind_done None frame rest = (Wrong ∷ [], Over, refl)
behind_done (Some left) frame rest = ([], Running (record frame { registers = left.registers; own = left.own }) rest left.world, refl)

-- what a frame finds
abbrev found_in : Frame → World → Left
found_in frame world = record { registers = frame.registers; own = frame.own; world = world }

calm_leaves : (k : Option Kind) (x : Name) (o : Outcome) (frame : Frame) (rest : List Pending) (world : World)
    → set_to k x o frame rest world ≡ goes_behind (left_by k x o (found_in frame world)) frame rest
calm_leaves k x (Gives v) frame rest world = refl
calm_leaves k x Trap frame rest world = refl

store_leaves : (o : Option Memory) (frame : Frame) (rest : List Pending) (world : World)
    → with_memory o frame rest world ≡ goes_behind (left_with o (found_in frame world)) frame rest
store_leaves None frame rest world = refl
store_leaves (Some memory) frame rest world = refl

is_done : (tree : Asks) (o : Option Left) (frame : Frame) (rest : List Pending) → tree ≡ goes_behind o frame rest → IsDone tree
is_done tree o frame rest is = let done = behind_done o frame rest in (done.0, done.1, is ∙ done.2)

module _ (m : Module) (f : Function) (b : Block) (top : KeptFrame) (kept : RunState) (rest : List Pending) (on : IsOnTop m f b top kept rest) where
  module _ (after : KeptFrame) (then : RunState) (waits : then.waits ≡ kept.waits) (below : then.below.items ≡ kept.below.items) where
    left_does : {E : Type 0} (tree : Asks) (o : Option Left) (stepped : Stepped) → tree ≡ goes_behind o (behind_line f b top) rest
        → DoesLine {E = E} top.place o (Ok stepped) after then.world → JustDoes {E = E} tree (state_under m after then) (Ok stepped)
    left_does {E} tree None stepped is did = wrong_does {E = E} tree (state_under m after then) stepped is did.0 did.1
    left_does {E} tree (Some left) stepped is did =
        let stands = stands_behind m f b top kept rest on after then did.2 waits below in record {
          made = rw (is, did.0, did.1, stands, did.3, did.4, did.5) refl;
          progress = rw (did.0, did.1, stands) refl;
        }

    pub calm_does : {E : Type 0} (l : Calm) (stepped : Stepped)
        → DoesLine {E = E} top.place
        (left_by (kind_of (type_of l.right)) l.name (outcome (scope_of m) (read (registers_in top.registers)) kept.world.blocks l.right) (left_in top kept.world)) (Ok stepped) after then.world
        → JustDoes {E = E} (line_step m (line.Calm l) (behind_line f b top) rest (world_in kept.world)) (state_under m after then) (Ok stepped)
    calm_does {E} l stepped did = left_does {E = E} (line_step m (line.Calm l) (behind_line f b top) rest (world_in kept.world)) _ stepped
        (calm_leaves (kind_of (type_of l.right)) l.name (outcome (scope_of m) (read (registers_in top.registers)) kept.world.blocks l.right) (behind_line f b top) rest (world_in kept.world)) did

    pub alloca_does : {E : Type 0} (a : Alloca) (stepped : Stepped)
        → DoesLine {E = E} top.place (Some (left_made (scope_of m) a (left_in top kept.world))) (Ok stepped) after then.world
        → JustDoes {E = E} (line_step m (line.Alloca a) (behind_line f b top) rest (world_in kept.world)) (state_under m after then) (Ok stepped)
    alloca_does {E} a stepped did = left_does {E = E} (line_step m (line.Alloca a) (behind_line f b top) rest (world_in kept.world)) (Some (left_made (scope_of m) a (left_in top kept.world))) stepped refl did

    pub store_does : {E : Type 0} (s : Store) (stepped : Stepped)
        → DoesLine {E = E} top.place (left_with (stored_by (scope_of m) s (registers_in top.registers) kept.world.blocks) (left_in top kept.world)) (Ok stepped) after then.world
        → JustDoes {E = E} (line_step m (line.Store s) (behind_line f b top) rest (world_in kept.world)) (state_under m after then) (Ok stepped)
    store_does {E} s stepped did = left_does {E = E} (line_step m (line.Store s) (behind_line f b top) rest (world_in kept.world)) _ stepped
        (store_leaves (stored_by (scope_of m) s (registers_in top.registers) kept.world.blocks) (behind_line f b top) rest (world_in kept.world)) did

module _ (m : Module) (frame : Frame) (rest : List Pending) (world : World) where
  pub calm_done : (l : Calm) → IsDone (line_step m (line.Calm l) frame rest world)
  calm_done l = is_done (line_step m (line.Calm l) frame rest world) _ frame rest
      (calm_leaves (kind_of (type_of l.right)) l.name (outcome (scope_of m) (read frame.registers) world.memory l.right) frame rest world)

  pub alloca_done : (a : Alloca) → IsDone (line_step m (line.Alloca a) frame rest world)
  alloca_done a = is_done (line_step m (line.Alloca a) frame rest world) (Some (left_made (scope_of m) a (found_in frame world))) frame rest refl

  pub store_done : (s : Store) → IsDone (line_step m (line.Store s) frame rest world)
  store_done s = is_done (line_step m (line.Store s) frame rest world) _ frame rest (store_leaves (stored_by (scope_of m) s frame.registers world.memory) frame rest world)

-- ---- the line that it is

module _ (m : Module) (i j : Instr) (frame : Frame) (rest : List Pending) (world : World) (script : List Choice) (state : State) (is : i ≡ j) where
  pub line_made : {E : Type 0} (stepped : Stepped) → JustDoes {E = E} (line_step m j frame rest world) state (Ok stepped)
      → Answers (line_step m i frame rest world) script script state (Ok stepped)
  line_made {E} stepped h = subst (λ (i : Instr). Answers (line_step m i frame rest world) script script state (Ok stepped)) (sym is)
      (done_answers {E = E} (line_step m j frame rest world) script state stepped h)

  pub line_fails : (r : Result Stepped StepEnd) → IsDone (line_step m j frame rest world) → r ≡ Err end.Memory → Answers (line_step m i frame rest world) script script state r
  line_fails r done fails = subst (λ (i : Instr). Answers (line_step m i frame rest world) script script state r) (sym is)
      (fails_answers (line_step m j frame rest world) script state r done fails)
