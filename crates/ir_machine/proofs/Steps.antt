-- Frames at their places, and the states of runs over them.
use Rattle.std.proofs.Common.{◌≡◌, ℕ, ◌+◌, Bool, true, false, List, [], ◌∷◌, ◌++◌, Option, None, Some, Ok, refl, sym, ap, ◌∙◌, add-one}
use Rattle.std.specs.Prelude.{slice_get}
use Rattle.std.specs.Option.{option_and_then, option_map}
use Rattle.ir_core.specs.declared.functions.Block.{Block}
use Rattle.ir_core.specs.declared.functions.Call.{Call}
use Rattle.ir_core.specs.declared.functions.Function.{Function}
use Rattle.ir_core.specs.declared.functions.Instr.TheVariants as line
use Rattle.ir_core.specs.declared.modules.Module.{Module}
use Rattle.ir_core.specs.declared.values.Kind.{Kind}
use Rattle.ir_core.specs.declared.values.Value.{Value}
use Rattle.ir_core.specs.Types.{kind_of}
use Rattle.ir_machine.specs.declared.machine.KeptFrame.{KeptFrame}
use Rattle.ir_machine.specs.declared.machine.Place.{Place}
use Rattle.ir_machine.specs.declared.machine.Progress.TheVariants as progress
use Rattle.ir_machine.specs.declared.machine.RunState.{RunState}
use Rattle.ir_machine.specs.declared.machine.Stepped.{Stepped}
use Rattle.ir_machine.specs.declared.items.Item.TheVariants.{Turn}
use Rattle.ir_machine.specs.Registers.{Registers}
use Rattle.ir_machine.specs.State.{Frame, Pending, World, Running}
use Rattle.ir_machine.specs.Machine.{resumed, return_step, set_into, waiting_for, without_own}
use Rattle.ir_machine.specs.Places.{at_line, block_at, call_before, call_of, frame_of, line_before, next_line, pending_of, registers_in, running_state, state_on, waiting_on, waiting_state, world_in}
use Rattle.ir_machine.specs.Stepping.{IsAsBefore, IsOnTop, JustDoes, behind_line, state_under}

-- ---- frames

-- the frame at a place, of these registers and blocks
abbrev pub framed : Module → Place → Registers → List ℕ → Option Frame
framed m p registers own =
    option_and_then (λ (f : Function). option_map (λ b. at_line f b p.line registers own) (slice_get f.blocks p.block)) (slice_get m.functions p.function)

pub frame_there : (m : Module) (p : Place) (registers : Registers) (own : List ℕ) (f : Function) (b : Block) → slice_get m.functions p.function ≡ Some f
    → slice_get f.blocks p.block ≡ Some b → framed m p registers own ≡ Some (at_line f b p.line registers own)
frame_there m p registers own f b some block =
    ap (option_and_then (λ (f : Function). option_map (λ b. at_line f b p.line registers own) (slice_get f.blocks p.block))) some
    ∙ ap (option_map (λ b. at_line f b p.line registers own)) block

-- with other registers it is the same but for them
pub frame_with : (m : Module) (p : Place) (registers : Registers) (own : List ℕ) (g : Registers → Registers) (frame : Frame) → framed m p registers own ≡ Some frame
    → framed m p (g registers) own ≡ Some (record frame { registers = g frame.registers })
frame_with m p registers own g frame is = by_function (slice_get m.functions p.function) is
  where
    in_block : (f : Function) (o : Option Block) → option_map (λ b. at_line f b p.line registers own) o ≡ Some frame
        → option_map (λ b. at_line f b p.line (g registers) own) o ≡ Some (record frame { registers = g frame.registers })
    in_block f None e = absurd (cc)
    in_block f (Some b) e =
        let same : at_line f b p.line registers own ≡ frame = cc in
        ap (λ (x : Frame). Some (record x { registers = g x.registers })) same

    by_function : (o : Option Function) → option_and_then (λ (f : Function). option_map (λ b. at_line f b p.line registers own) (slice_get f.blocks p.block)) o ≡ Some frame
        → option_and_then (λ (f : Function). option_map (λ b. at_line f b p.line (g registers) own) (slice_get f.blocks p.block)) o ≡ Some (record frame { registers = g frame.registers })
    by_function None e = absurd (cc)
    by_function (Some f) e = in_block f (slice_get f.blocks p.block) e

frame_same : (m : Module) (before after : KeptFrame) → IsAsBefore before after → frame_of m after ≡ frame_of m before
frame_same m before after same =
    ap (λ (p : Place). framed m p (registers_in after.registers) after.own.items) same.0
    ∙ ap (λ (registers : Registers). framed m before.place registers after.own.items) same.1
    ∙ ap (λ (own : List ℕ). framed m before.place (registers_in before.registers) own) same.2

-- what waits at a place behind a call
abbrev pub pended : Module → Place → Option Frame → Option Pending
pended m p frame = option_and_then (λ c. option_map (waiting_for c) frame) (call_before m p)

pub pending_same : (m : Module) (before after : KeptFrame) → IsAsBefore before after → pending_of m after ≡ pending_of m before
pending_same m before after same =
    ap (λ (p : Place). pended m p (frame_of m after)) same.0 ∙ ap (λ (o : Option Frame). pended m before.place o) (frame_same m before after same)

-- ---- frames that wait

-- what is above the others is told last
pub waiting_last : (m : Module) (xs : List KeptFrame) (k : KeptFrame) (ps : List Pending)
    → waiting_on m (xs ++ k ∷ []) ps ≡ option_and_then (λ below. option_map (λ p. p ∷ below) (pending_of m k)) (waiting_on m xs ps)
waiting_last m [] k ps = by_pending (pending_of m k)
  where
    by_pending : (o : Option Pending) → option_and_then (λ p. Some (p ∷ ps)) o ≡ option_map (λ p. p ∷ ps) o
    by_pending None = refl
    by_pending (Some p) = refl
waiting_last m (x ∷ xs) k ps = by_pending (λ p. waiting_last m xs k (p ∷ ps)) (pending_of m x)
  where
    by_pending : ((p : Pending) → waiting_on m (xs ++ k ∷ []) (p ∷ ps) ≡ option_and_then (λ below. option_map (λ p. p ∷ below) (pending_of m k)) (waiting_on m xs (p ∷ ps)))
        → (o : Option Pending) → option_and_then (λ p. waiting_on m (xs ++ k ∷ []) (p ∷ ps)) o
        ≡ option_and_then (λ below. option_map (λ p. p ∷ below) (pending_of m k)) (option_and_then (λ p. waiting_on m xs (p ∷ ps)) o)
    by_pending more None = refl
    by_pending more (Some p) = more p

pub waiting_more : (m : Module) (xs : List KeptFrame) (k : KeptFrame) (p : Pending) (rest : List Pending) → waiting_on m xs [] ≡ Some rest → pending_of m k ≡ Some p
    → waiting_on m (xs ++ k ∷ []) [] ≡ Some (p ∷ rest)
waiting_more m xs k p rest below top = waiting_last m xs k [] ∙ rw (below, top) refl

pub waiting_less : (m : Module) (xs : List KeptFrame) (k : KeptFrame) (p : Pending) (rest : List Pending) → waiting_on m (xs ++ k ∷ []) [] ≡ Some (p ∷ rest)
    → (waiting_on m xs [] ≡ Some rest) × (pending_of m k ≡ Some p)
waiting_less m xs k p rest is = by_below (waiting_on m xs []) (pending_of m k) refl refl (sym (waiting_last m xs k []) ∙ is)
  where
    by_below : (o : Option (List Pending)) (q : Option Pending) → waiting_on m xs [] ≡ o → pending_of m k ≡ q
        → option_and_then (λ below. option_map (λ p. p ∷ below) q) o ≡ Some (p ∷ rest) → (waiting_on m xs [] ≡ Some rest) × (pending_of m k ≡ Some p)
    by_below None q below top e = absurd (cc)
    by_below (Some ps) None below top e = absurd (cc)
    by_below (Some ps) (Some q) below top e =
        let same : q ∷ ps ≡ p ∷ rest = cc in
        let first : q ≡ p = cc in
        let more : ps ≡ rest = cc in
        (below ∙ ap Some more, top ∙ ap Some first)

pub waiting_same : (m : Module) (xs : List KeptFrame) (before after : KeptFrame) → IsAsBefore before after → waiting_on m (xs ++ after ∷ []) [] ≡ waiting_on m (xs ++ before ∷ []) []
waiting_same m xs before after same = waiting_last m xs after []
    ∙ ap (λ (o : Option Pending). option_and_then (λ below. option_map (λ p. p ∷ below) o) (waiting_on m xs [])) (pending_same m before after same)
    ∙ sym (waiting_last m xs before [])

-- ---- a call that waits gets its result

pub gets_result : (m : Module) (c : Call) (before after : KeptFrame) (k : Option Kind) (v : Value) (p : Pending) → call_before m before.place ≡ Some c
    → after.place ≡ before.place → registers_in after.registers ≡ set_into (registers_in before.registers) c.name (kind_of c.result) k v → after.own.items ≡ before.own.items
    → pending_of m before ≡ Some p → frame_of m after ≡ Some (resumed p k v)
gets_result m c before after k v p call place registers own waits = by_frame (frame_of m before) refl (ap (option_and_then (λ c. option_map (waiting_for c) (frame_of m before))) (sym call) ∙ waits)
  where
    given : Registers → Registers
    given old = set_into old c.name (kind_of c.result) k v

    moved : frame_of m after ≡ framed m before.place (given (registers_in before.registers)) before.own.items
    moved = ap (λ (p : Place). framed m p (registers_in after.registers) after.own.items) place
        ∙ ap (λ (registers : Registers). framed m before.place registers after.own.items) registers
        ∙ ap (λ (own : List ℕ). framed m before.place (given (registers_in before.registers)) own) own

    by_frame : (o : Option Frame) → frame_of m before ≡ o → option_map (waiting_for c) o ≡ Some p → frame_of m after ≡ Some (resumed p k v)
    by_frame None is e = absurd (cc)
    by_frame (Some frame) is e =
        let same : waiting_for c frame ≡ p = cc in
        moved ∙ frame_with m before.place (registers_in before.registers) before.own.items given frame is ∙ ap (λ (p : Pending). Some (resumed p k v)) same

-- where none waits for that result, all stays
pub kind_waited : (m : Module) (c : Call) (before : KeptFrame) (p : Pending) → call_before m before.place ≡ Some c → pending_of m before ≡ Some p → p.kind ≡ kind_of c.result
kind_waited m c before p call waits = by_frame (frame_of m before) (ap (option_and_then (λ c. option_map (waiting_for c) (frame_of m before))) (sym call) ∙ waits)
  where
    by_frame : (o : Option Frame) → option_map (waiting_for c) o ≡ Some p → p.kind ≡ kind_of c.result
    by_frame None e = absurd (cc)
    by_frame (Some frame) e =
        let same : waiting_for c frame ≡ p = cc in
        ap (λ (p : Pending). p.kind) (sym same)

pub none_waits : (m : Module) (before : KeptFrame) (p : Pending) → call_before m before.place ≡ None → pending_of m before ≡ Some p → ⊥
none_waits m before p call waits =
    let none : None ≡ Some p = ap (option_and_then (λ c. option_map (waiting_for c) (frame_of m before))) (sym call) ∙ waits in
    cc

-- ---- states

module _ (m : Module) (top : KeptFrame) (kept : RunState) where
  pub state_runs : (rest : List Pending) → kept.waits ≡ false → waiting_on m kept.below.items [] ≡ Some rest
      → state_under m top kept ≡ running_state (frame_of m top) rest (world_in kept.world)
  state_runs rest runs below = ap (λ (w : Bool). state_on m (Some top) w (world_in kept.world) (waiting_on m kept.below.items [])) runs
      ∙ ap (λ (o : Option (List Pending)). state_on m (Some top) false (world_in kept.world) o) below

  pub state_waits : (rest : List Pending) → kept.waits ≡ true → waiting_on m kept.below.items [] ≡ Some rest
      → state_under m top kept ≡ waiting_state (pending_of m top) rest (world_in kept.world)
  state_waits rest waits below = ap (λ (w : Bool). state_on m (Some top) w (world_in kept.world) (waiting_on m kept.below.items [])) waits
      ∙ ap (λ (o : Option (List Pending)). state_on m (Some top) true (world_in kept.world) o) below

-- the same frames and the same world are the same state
pub under_same : (m : Module) (top after : KeptFrame) (kept then : RunState) → IsAsBefore top after → then.waits ≡ kept.waits → world_in then.world ≡ world_in kept.world
    → waiting_on m then.below.items [] ≡ waiting_on m kept.below.items [] → state_under m after then ≡ state_under m top kept
under_same m top after kept then same waits world below = by_waits then.waits
    ∙ ap (λ (w : Bool). state_on m (Some top) w (world_in then.world) (waiting_on m then.below.items [])) waits
    ∙ ap (λ (w : World). state_on m (Some top) kept.waits w (waiting_on m then.below.items [])) world
    ∙ ap (λ (o : Option (List Pending)). state_on m (Some top) kept.waits (world_in kept.world) o) below
  where
    by_below : (w : Bool) (o : Option (List Pending)) → state_on m (Some after) w (world_in then.world) o ≡ state_on m (Some top) w (world_in then.world) o
    by_below true None = refl
    by_below false None = refl
    by_below true (Some rest) = ap (λ (o : Option Pending). waiting_state o rest (world_in then.world)) (pending_same m top after same)
    by_below false (Some rest) = ap (λ (o : Option Frame). running_state o rest (world_in then.world)) (frame_same m top after same)

    by_waits : (w : Bool) → state_on m (Some after) w (world_in then.world) (waiting_on m then.below.items []) ≡ state_on m (Some top) w (world_in then.world) (waiting_on m then.below.items [])
    by_waits w = by_below w (waiting_on m then.below.items [])

-- ---- a frame on top, and what follows its line

module _ (m : Module) (f : Function) (b : Block) (top : KeptFrame) (kept : RunState) (rest : List Pending) (on : IsOnTop m f b top kept rest) where
  -- behind its line
  pub stands_behind : (after : KeptFrame) (then : RunState) → after.place ≡ next_line top.place → then.waits ≡ kept.waits → then.below.items ≡ kept.below.items
      → state_under m after then ≡ Running (at_line f b (top.place.line + 1) (registers_in after.registers) after.own.items) rest (world_in then.world)
  stands_behind after then place waits below =
      state_runs m after then rest (waits ∙ on.runs) (ap (λ (l : List KeptFrame). waiting_on m l []) below ∙ on.below)
      ∙ ap (λ (o : Option Frame). running_state o rest (world_in then.world))
      (ap (λ (p : Place). framed m p (registers_in after.registers) after.own.items) place
      ∙ frame_there m (next_line top.place) (registers_in after.registers) after.own.items f b on.function on.block)

  pub stands_there : state_under m top kept ≡ Running (at_line f b top.place.line (registers_in top.registers) top.own.items) rest (world_in kept.world)
  stands_there = state_runs m top kept rest on.runs on.below
      ∙ ap (λ (o : Option Frame). running_state o rest (world_in kept.world)) (frame_there m top.place (registers_in top.registers) top.own.items f b on.function on.block)

  block_there : block_at m top.place ≡ Some b
  block_there = ap (option_and_then (λ (f : Function). slice_get f.blocks top.place.block)) on.function ∙ on.block

  -- behind a call it waits for that
  pub waits_behind : (c : Call) → slice_get b.body top.place.line ≡ Some (line.Call c) → (after : KeptFrame) → after.place ≡ next_line top.place
      → registers_in after.registers ≡ registers_in top.registers → after.own.items ≡ top.own.items
      → pending_of m after ≡ Some (waiting_for c (behind_line f b top))
  waits_behind c at after place registers own =
      let moved : frame_of m after ≡ Some (behind_line f b top) =
      ap (λ (p : Place). framed m p (registers_in after.registers) after.own.items) place
      ∙ ap (λ (registers : Registers). framed m (next_line top.place) registers after.own.items) registers
      ∙ ap (λ (own : List ℕ). framed m (next_line top.place) (registers_in top.registers) own) own
      ∙ frame_there m (next_line top.place) (registers_in top.registers) top.own.items f b on.function on.block in
      let call : call_before m (next_line top.place) ≡ Some c =
      ap (λ (o : Option Block). option_and_then call_of (option_and_then (λ (b : Block). line_before b.body (top.place.line + 1)) o)) block_there
      ∙ ap (λ (n : ℕ). option_and_then call_of (line_before b.body n)) (add-one top.place.line)
      ∙ ap (option_and_then call_of) at in
      ap (λ (p : Place). pended m p (frame_of m after)) place ∙ ap (λ (o : Option Frame). pended m (next_line top.place) o) moved
      ∙ ap (option_and_then (λ c. option_map (waiting_for c) (Some (behind_line f b top)))) call

-- ---- returns

-- The frame below goes on with what is returned.
pub goes_back : {E : Type 0} (m : Module) (top : KeptFrame) (kept then : RunState) (caller after : KeptFrame) (p : Pending) (rest : List Pending) (k : Option Kind) (v : Value) (stepped : Stepped)
    → kept.waits ≡ false → waiting_on m kept.below.items [] ≡ Some (p ∷ rest)
    → kept.below.items ≡ then.below.items ++ caller ∷ [] → (pending_of m caller ≡ Some p → frame_of m after ≡ Some (resumed p k v))
    → then.waits ≡ kept.waits → world_in then.world ≡ without_own top.own.items (world_in kept.world)
    → stepped.items ≡ Turn ∷ [] → stepped.progress ≡ progress.Goes
    → JustDoes {E = E} (return_step k v (p ∷ rest) (without_own top.own.items (world_in kept.world))) (state_under m after then) (Ok stepped)
goes_back m top kept then caller after p rest k v stepped runs below popped resumes waits world items goes =
    let less = waiting_less m then.below.items caller p rest (ap (λ (l : List KeptFrame). waiting_on m l []) (sym popped) ∙ below) in
    let stands : state_under m after then ≡ Running (resumed p k v) rest (without_own top.own.items (world_in kept.world)) =
    state_runs m after then rest (waits ∙ runs) less.0 ∙ rw (resumes less.1, world) refl in
    record { made = rw (items, goes, stands) refl; progress = rw (items, goes, stands) refl }

-- Where it can't, it is put back.
pub put_back : (m : Module) (top : KeptFrame) (kept then : RunState) (below : List KeptFrame) (caller after : KeptFrame) → kept.below.items ≡ below ++ caller ∷ [] → then.below.items ≡ below ++ after ∷ []
    → IsAsBefore caller after → then.waits ≡ kept.waits → world_in then.world ≡ world_in kept.world → state_under m top then ≡ state_under m top kept
put_back m top kept then below caller after popped pushed same waits world = under_same m top top kept then (refl, refl, refl) waits world
    (ap (λ (l : List KeptFrame). waiting_on m l []) pushed ∙ waiting_same m below caller after same ∙ ap (λ (l : List KeptFrame). waiting_on m l []) (sym popped))
