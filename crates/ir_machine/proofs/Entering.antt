-- Frames that calls push, and those that they leave waiting.
use Rattle.std.proofs.Common.{◌≡◌, ℕ, ◌<◌, length, get_or, arith, Bool, true, false, List, [], ◌∷◌, ◌++◌, Option, None, Some, Ok, Err, refl, sym, ap, ◌∙◌, subst}
use Rattle.std.specs.Prelude.{slice_get}
use Rattle.ir_core.specs.declared.functions.Block.{Block}
use Rattle.ir_core.specs.declared.functions.Call.{Call}
use Rattle.ir_core.specs.declared.functions.Function.{Function}
use Rattle.ir_core.specs.declared.modules.Module.{Module}
use Rattle.ir_core.specs.declared.values.Kind.{Kind}
use Rattle.ir_core.specs.declared.values.Value.{Value}
use Rattle.ir_types.specs.declared.names.Name.{Name}
use Rattle.block_memory.specs.declared.items.Choice.{Choice}
use Rattle.block_memory.specs.declared.items.Shown.{Shown}
use Rattle.ir_machine.specs.declared.items.Item.TheVariants.{Called, Turn, Wrong}
use Rattle.ir_machine.specs.declared.machine.KeptFrame.{KeptFrame}
use Rattle.ir_machine.specs.declared.machine.Place.{Place}
use Rattle.ir_machine.specs.declared.machine.Progress.TheVariants as progress
use Rattle.ir_machine.specs.declared.machine.RunState.{RunState}
use Rattle.ir_machine.specs.declared.machine.Stepped.{Stepped}
use Rattle.ir_machine.specs.Machine.{Asks, Does, arguments_of, at_block, begun, call_step, called, called_outside, function_named, is_declared, passed, waiting_for, wrong}
use Rattle.ir_machine.specs.Choices.{Lacks, TakesAsked, answer}
use Rattle.ir_machine.specs.Showing.{ShowsAll}
use Rattle.block_memory.specs.declared.names.ShowEnd.{ShowEnd}
use Rattle.block_memory.specs.declared.names.ShowEnd.TheVariants as end
use Rattle.ir_machine.specs.Places.{frame_of, next_line, pending_of, registers_in, running_state, start_of, waiting_on, waiting_state, world_in}
use Rattle.ir_machine.specs.Registers.{Registers, no_registers}
use Rattle.ir_machine.specs.State.{Frame, Pending, World, State, Running, Waiting, Over, scope_of}
use Rattle.ir_machine.specs.Stepping.{Answers, IsAtCall, JustDoes, behind_line, state_under}
use Rattle.ir_machine.proofs.Branching.{IsDone, done_answers, wrong_does}
use Rattle.ir_machine.proofs.Showings.{all_leave}
use Rattle.ir_machine.proofs.Steps.{frame_there, framed, state_runs, state_waits, waiting_more, waits_behind}
use Rattle.std.proofs.lemmas.Option.{slice_get-get_or}

-- ---- a function of the module

pub begun_does : (g : Function) (bs : List Block) (vs : List (Option Kind × Value)) (waiting : List Pending) (world : World) → IsDone (begun g bs vs waiting world)
begun_does g [] vs waiting world = (Wrong ∷ [], Over, refl)
begun_does g (b ∷ bs) vs waiting world = (Turn ∷ [], Running (at_block g b (passed g.params vs no_registers) []) waiting world, refl)

pub none_begun : {E : Type 0} (g : Function) (vs : List (Option Kind × Value)) (waiting : List Pending) (world : World) (state : State) (stepped : Stepped)
    → g.blocks ≡ [] → stepped.items ≡ Wrong ∷ [] → stepped.progress ≡ progress.IsWrong → JustDoes {E = E} (begun g g.blocks vs waiting world) state (Ok stepped)
none_begun {E} g vs waiting world state stepped none items goes =
    wrong_does {E = E} (begun g g.blocks vs waiting world) state stepped (ap (λ (bs : List Block). begun g bs vs waiting world) none) items goes

module _ (m : Module) (f : Function) (b : Block) (c : Call) (top : KeptFrame) (kept : RunState) (rest : List Pending) (at : IsAtCall m f b c top kept rest) where
  -- the caller waits below, and the function stands at its start
  pub stands_begun : (place : ℕ) (g : Function) (d : Block) (ds : List Block) (after moved : KeptFrame) (then : RunState)
      → slice_get m.functions place ≡ Some g → g.blocks ≡ d ∷ ds
      → after.place ≡ start_of place → after.own.items ≡ [] → moved ≡ record top { place = next_line top.place }
      → then.below.items ≡ kept.below.items ++ moved ∷ [] → then.waits ≡ kept.waits
      → state_under m after then ≡ Running (at_block g d (registers_in after.registers) []) (waiting_for c (behind_line f b top) ∷ rest) (world_in then.world)
  stands_begun place g d ds after moved then named blocks start own is below waits =
      let waiting : pending_of m moved ≡ Some (waiting_for c (behind_line f b top)) =
      waits_behind m f b top kept rest at.on_top c at.call moved (ap (λ (k : KeptFrame). k.place) is) (ap (λ (k : KeptFrame). registers_in k.registers) is) (ap (λ (k : KeptFrame). k.own.items) is) in
      let under : waiting_on m then.below.items [] ≡ Some (waiting_for c (behind_line f b top) ∷ rest) =
      ap (λ (l : List KeptFrame). waiting_on m l []) below ∙ waiting_more m kept.below.items moved (waiting_for c (behind_line f b top)) rest at.on_top.below waiting in
      let first : slice_get g.blocks 0 ≡ Some d = ap (λ (l : List Block). slice_get l 0) blocks in
      let stands : frame_of m after ≡ Some (at_block g d (registers_in after.registers) []) =
      ap (λ (p : Place). framed m p (registers_in after.registers) after.own.items) start
      ∙ ap (λ (own : List ℕ). framed m (start_of place) (registers_in after.registers) own) own
      ∙ frame_there m (start_of place) (registers_in after.registers) [] g d named first in
      state_runs m after then (waiting_for c (behind_line f b top) ∷ rest) (waits ∙ at.on_top.runs) under
      ∙ ap (λ (o : Option Frame). running_state o (waiting_for c (behind_line f b top) ∷ rest) (world_in then.world)) stands

  -- the function that is called is entered
  pub enters : {E : Type 0} (place : ℕ) (g : Function) (after moved : KeptFrame) (then : RunState) (stepped : Stepped)
      → slice_get m.functions place ≡ Some g → (g.blocks ≡ [] → ⊥)
      → after.place ≡ start_of place → registers_in after.registers ≡ passed g.params (arguments_of (scope_of m) (registers_in top.registers) c.arguments) no_registers → after.own.items ≡ []
      → moved ≡ record top { place = next_line top.place }
      → then.below.items ≡ kept.below.items ++ moved ∷ [] → then.waits ≡ kept.waits → world_in then.world ≡ world_in kept.world
      → stepped.items ≡ Turn ∷ [] → stepped.progress ≡ progress.Goes
      → JustDoes {E = E} (begun g g.blocks (arguments_of (scope_of m) (registers_in top.registers) c.arguments) (waiting_for c (behind_line f b top) ∷ rest) (world_in kept.world))
      (state_under m after then) (Ok stepped)
  enters {E} place g after moved then stepped named some start registers own is below waits world items goes = by_blocks g.blocks refl
    where
      by_blocks : (bs : List Block) → g.blocks ≡ bs
          → JustDoes {E = E} (begun g g.blocks (arguments_of (scope_of m) (registers_in top.registers) c.arguments) (waiting_for c (behind_line f b top) ∷ rest) (world_in kept.world))
          (state_under m after then) (Ok stepped)
      by_blocks [] are = absurd (some are)
      by_blocks (d ∷ ds) are =
          let vs = arguments_of (scope_of m) (registers_in top.registers) c.arguments in
          let waiting = waiting_for c (behind_line f b top) ∷ rest in
          let begins : begun g g.blocks vs waiting (world_in kept.world) ≡ Does (Turn ∷ []) (Running (at_block g d (passed g.params vs no_registers) []) waiting (world_in kept.world)) =
          ap (λ (bs : List Block). begun g bs vs waiting (world_in kept.world)) are in
          let stands : state_under m after then ≡ Running (at_block g d (passed g.params vs no_registers) []) waiting (world_in kept.world) =
          stands_begun place g d ds after moved then named are start own is below waits
          ∙ ap (λ (r : Registers). Running (at_block g d r []) waiting (world_in then.world)) registers
          ∙ ap (λ (w : World). Running (at_block g d (passed g.params vs no_registers) []) waiting w) world in record {
            made = begins ∙ rw (items, goes, stands) refl;
            progress = rw (items, goes, stands) refl;
          }

  -- it waits for the outside
  pub stands_outside : (after : KeptFrame) (then : RunState) → after.place ≡ next_line top.place → registers_in after.registers ≡ registers_in top.registers
      → after.own.items ≡ top.own.items → then.below.items ≡ kept.below.items → then.waits ≡ true
      → state_under m after then ≡ Waiting (waiting_for c (behind_line f b top)) rest (world_in then.world)
  stands_outside after then place registers own below waits =
      state_waits m after then rest waits (ap (λ (l : List KeptFrame). waiting_on m l []) below ∙ at.on_top.below)
      ∙ ap (λ (o : Option Pending). waiting_state o rest (world_in then.world)) (waits_behind m f b top kept rest at.on_top c at.call after place registers own)

-- ---- which is called

module _ (m : Module) (c : Call) (frame : Frame) (rest : List Pending) (world : World) where
  abbrev vs : List (Option Kind × Value)
  vs = arguments_of (scope_of m) frame.registers c.arguments

  pub calls_own : (g : Function) → function_named c.callee m.functions ≡ Some g → call_step m c frame rest world ≡ begun g g.blocks vs (waiting_for c frame ∷ rest) world
  calls_own g named = ap (λ (o : Option Function). called o (is_declared c.callee m.declarations) c.callee vs (waiting_for c frame) rest world) named

  pub calls_outside : function_named c.callee m.functions ≡ None → is_declared c.callee m.declarations ≡ true
      → call_step m c frame rest world ≡ called_outside c.callee vs (waiting_for c frame) rest world
  calls_outside none known = ap (λ (o : Option Function). called o (is_declared c.callee m.declarations) c.callee vs (waiting_for c frame) rest world) none
      ∙ ap (λ (d : Bool). called None d c.callee vs (waiting_for c frame) rest world) known

  pub calls_none : function_named c.callee m.functions ≡ None → is_declared c.callee m.declarations ≡ false → call_step m c frame rest world ≡ wrong
  calls_none none unknown = ap (λ (o : Option Function). called o (is_declared c.callee m.declarations) c.callee vs (waiting_for c frame) rest world) none
      ∙ ap (λ (d : Bool). called None d c.callee vs (waiting_for c frame) rest world) unknown

pub same_at : {A : Type 0} (xs : List A) (i : ℕ) (x y : A) → i < length xs → x ≡ get_or xs i x → slice_get xs i ≡ Some y → x ≡ y
same_at xs i x y within is at =
    let same : Some x ≡ Some y = ap Some is ∙ sym (slice_get-get_or xs i x within) ∙ at in
    cc

-- ---- told nothing, arguments that are shown ask for nothing but what they lack

pub outside_takes_none : (x : Name) (vs : List (Option Kind × Value)) (p : Pending) (rest : List Pending) (world : World) (script : List Choice)
    → TakesAsked (called_outside x vs p rest world) script script
outside_takes_none x vs p rest world script = ([], refl, all_leave vs world (λ ss after. Does (Called x ss ∷ []) (Waiting p rest after)) (λ ss w. refl))

-- ---- the function that is called

pub function_at : (fs : List Function) (x : Name) (i : ℕ) → (i < length fs) × (function_named x fs ≡ slice_get fs i)
    → (g : Function) × (function_named x fs ≡ Some g) × (slice_get fs i ≡ Some g)
function_at fs x i at = by_function (slice_get fs i) refl
  where
    some_there : (gs : List Function) → i < length gs → slice_get gs i ≡ None → ⊥
    some_there [] within none = absurd (omega (arith, within))
    some_there (g ∷ gs) within none =
        let there : Some (get_or (g ∷ gs) i g) ≡ None = sym (slice_get-get_or (g ∷ gs) i g within) ∙ none in
        cc

    by_function : (o : Option Function) → slice_get fs i ≡ o → (g : Function) × (function_named x fs ≡ Some g) × (slice_get fs i ≡ Some g)
    by_function None none = absurd (some_there fs at.0 none)
    by_function (Some g) some = (g, at.1 ∙ some, some)

pub own_does : (m : Module) (c : Call) (frame : Frame) (rest : List Pending) (world : World) (g : Function) → function_named c.callee m.functions ≡ Some g
    → IsDone (call_step m c frame rest world)
own_does m c frame rest world g named =
    let done = begun_does g g.blocks (arguments_of (scope_of m) frame.registers c.arguments) (waiting_for c frame ∷ rest) world in
    (done.0, done.1, calls_own m c frame rest world g named ∙ done.2)

pub entered_answers : {E : Type 0} (m : Module) (c : Call) (frame : Frame) (rest : List Pending) (world : World) (g : Function) (script : List Choice) (state : State) (stepped : Stepped)
    → function_named c.callee m.functions ≡ Some g
    → JustDoes {E = E} (begun g g.blocks (arguments_of (scope_of m) frame.registers c.arguments) (waiting_for c frame ∷ rest) world) state (Ok stepped)
    → Answers (call_step m c frame rest world) script script state (Ok stepped)
entered_answers {E} m c frame rest world g script state stepped named h =
    subst (λ (tree : Asks). Answers tree script script state (Ok stepped)) (sym (calls_own m c frame rest world g named))
    (done_answers {E = E} (begun g g.blocks (arguments_of (scope_of m) frame.registers c.arguments) (waiting_for c frame ∷ rest) world) script state stepped h)

-- ---- where arguments aren't shown

pub shows_wrong : (e : ShowEnd) → e ≡ end.Wrong → (tree : Asks) (before : List Choice) (next : List Shown → World → Asks) (world : World) (after : List Choice)
    → ShowsAll (Err e) tree before next world after → answer tree before ≡ answer wrong after
shows_wrong e is tree before next world after h = subst (λ (e : ShowEnd). ShowsAll (Err e) tree before next world after) is h

pub shows_lacks : (e : ShowEnd) → e ≡ end.NoChoice → (tree : Asks) (before : List Choice) (next : List Shown → World → Asks) (world : World) (after : List Choice)
    → ShowsAll (Err e) tree before next world after → answer tree before ≡ Lacks after
shows_lacks e is tree before next world after h = subst (λ (e : ShowEnd). ShowsAll (Err e) tree before next world after) is h
