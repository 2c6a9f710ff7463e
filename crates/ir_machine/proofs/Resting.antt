-- Where a run stands that isn't over, and what is asked there.
use Rattle.std.proofs.Common.{◌≡◌, ℕ, ◌<◌, ◌≤◌, ◌+◌, Bool, true, false, List, [], ◌∷◌, length, get_or, drop, Option, None, Some, Result, Ok, Err, refl, sym, ap, ◌∙◌, subst, suc, arith}
use Rattle.std.specs.Prelude.{slice_get, IfOk, IsErrOf, OnErr, IsErr}
use Rattle.std.specs.Option.{option_and_then, option_map}
use Rattle.std.proofs.Math.ListN.{drop_of_length-le}
use Rattle.std.proofs.lemmas.Option.{slice_get-get_or}
use Rattle.ir_core.specs.declared.functions.Block.{Block}
use Rattle.ir_core.specs.declared.functions.Function.{Function}
use Rattle.ir_core.specs.declared.functions.Instr.{Instr}
use Rattle.ir_core.specs.declared.modules.Module.{Module}
use Rattle.ir_core.specs.declared.values.Kind.{Kind}
use Rattle.ir_core.specs.declared.values.Value.{Value}
use Rattle.ir_core.specs.declared.values.Value.TheVariants.{Poison}
use Rattle.block_memory.specs.declared.items.Choice.{Choice}
use Rattle.ir_machine.specs.declared.items.Item.{Item}
use Rattle.ir_machine.specs.declared.items.Item.TheVariants.{Turn, Called, EnvRead, EnvWrite, EnvNew, Replied, Returned, Wrong}
use Rattle.ir_machine.specs.declared.machine.KeptFrame.{KeptFrame}
use Rattle.ir_machine.specs.declared.machine.Progress.{Progress}
use Rattle.ir_machine.specs.declared.machine.Progress.TheVariants as progress
use Rattle.ir_machine.specs.declared.machine.RunState.{RunState}
use Rattle.ir_machine.specs.declared.machine.StepEnd.{StepEnd}
use Rattle.ir_machine.specs.declared.machine.StepEnd.TheVariants as end
use Rattle.ir_machine.specs.declared.machine.Stepped.{Stepped}
use Rattle.ir_machine.specs.Acting.{Answered, acted_as}
use Rattle.ir_machine.specs.declared.acting.Acted.{Acted}
use Rattle.ir_machine.specs.Choices.{Answer, Did, Lacks, answer, TakesAsked}
use Rattle.ir_machine.specs.Machine.{Asks, Ask, act, asks, frame_step, is_act, line_step, resumed, return_step, return_void, term_step, without_own}
use Rattle.ir_machine.specs.Places.{at_line, frame_in, frame_of, pending_of, progress_of, registers_in, running_state, state_of, state_on, waiting_on, waiting_state, world_in}
use Rattle.ir_machine.specs.State.{Frame, Pending, State, Running, Waiting, Over, World, scope_of}
use Rattle.ir_machine.specs.Stepping.{Answers, IsOnTop, JustDoes, at_end_of, behind_line, kept_after, state_after, state_under}
use Rattle.ir_machine.proofs.Branching.{IsDone, done_answers, fails_answers}
use Rattle.ir_machine.proofs.Leaving.{last_return_same}
use Rattle.ir_machine.proofs.Standing.{drop_at}
use Rattle.ir_machine.proofs.Steps.{stands_there, state_runs, state_waits}

-- ---- where a run stands that isn't over

module _ (m : Module) (top : KeptFrame) (kept : RunState) (goes : state_under m top kept ≡ Over → ⊥) where
  abbrev pub Runs : Type 0
  Runs = (f : Function) × (b : Block) × (rest : List Pending) × IsOnTop m f b top kept rest

  pub runs_there : kept.waits ≡ false → Runs
  runs_there runs = by_below (waiting_on m kept.below.items []) refl (slice_get m.functions top.place.function) refl
    where
      over : (rest : List Pending) → waiting_on m kept.below.items [] ≡ Some rest → frame_of m top ≡ None → ⊥
      over rest below none = goes (state_runs m top kept rest runs below ∙ ap (λ (o : Option Frame). running_state o rest (world_in kept.world)) none)

      by_block : (rest : List Pending) → waiting_on m kept.below.items [] ≡ Some rest → (f : Function) → slice_get m.functions top.place.function ≡ Some f
          → (o : Option Block) → slice_get f.blocks top.place.block ≡ o → Runs
      by_block rest below f some None block = absurd (over rest below
          (ap (option_and_then (λ (f : Function). option_map (λ b. at_line f b top.place.line (registers_in top.registers) top.own.items) (slice_get f.blocks top.place.block))) some
          ∙ ap (option_map (λ b. at_line f b top.place.line (registers_in top.registers) top.own.items)) block))
      by_block rest below f some (Some b) block = (f, b, rest, record { function = some; block = block; runs = runs; below = below })

      by_function : (rest : List Pending) → waiting_on m kept.below.items [] ≡ Some rest → (o : Option Function) → slice_get m.functions top.place.function ≡ o → Runs
      by_function rest below None none = absurd (over rest below
          (ap (option_and_then (λ (f : Function). option_map (λ b. at_line f b top.place.line (registers_in top.registers) top.own.items) (slice_get f.blocks top.place.block))) none))
      by_function rest below (Some f) some = by_block rest below f some (slice_get f.blocks top.place.block) refl

      by_below : (o : Option (List Pending)) → waiting_on m kept.below.items [] ≡ o → (q : Option Function) → slice_get m.functions top.place.function ≡ q → Runs
      by_below None none q at = absurd (goes (ap (λ (w : Bool). state_on m (Some top) w (world_in kept.world) (waiting_on m kept.below.items [])) runs
          ∙ ap (λ (o : Option (List Pending)). state_on m (Some top) false (world_in kept.world) o) none))
      by_below (Some rest) below q at = by_function rest below q at

  abbrev pub Waits : Type 0
  Waits = (p : Pending) × (rest : List Pending) × (pending_of m top ≡ Some p) × (waiting_on m kept.below.items [] ≡ Some rest)

  pub waits_there : kept.waits ≡ true → Waits
  waits_there waits = by_below (waiting_on m kept.below.items []) refl
    where
      by_pending : (rest : List Pending) → waiting_on m kept.below.items [] ≡ Some rest → (o : Option Pending) → pending_of m top ≡ o → Waits
      by_pending rest below None none = absurd (goes (state_waits m top kept rest waits below ∙ ap (λ (o : Option Pending). waiting_state o rest (world_in kept.world)) none))
      by_pending rest below (Some p) is = (p, rest, is, below)

      by_below : (o : Option (List Pending)) → waiting_on m kept.below.items [] ≡ o → Waits
      by_below None none = absurd (goes (ap (λ (w : Bool). state_on m (Some top) w (world_in kept.world) (waiting_on m kept.below.items [])) waits
          ∙ ap (λ (o : Option (List Pending)). state_on m (Some top) true (world_in kept.world) o) none))
      by_below (Some rest) below = by_pending rest below (pending_of m top) refl

-- ---- what is asked there

module _ (m : Module) (f : Function) (b : Block) (top : KeptFrame) (kept : RunState) (rest : List Pending) (on : IsOnTop m f b top kept rest) where
  lines_asked : (lines : List Instr) → drop top.place.line b.body ≡ lines
      → asks m (state_under m top kept) ≡ frame_step m lines (record (at_end_of f b top) { lines = lines }) rest (world_in kept.world)
  lines_asked lines are = ap (asks m) (stands_there m f b top kept rest on)
      ∙ ap (λ (l : List Instr). frame_step m l (record (at_end_of f b top) { lines = l }) rest (world_in kept.world)) are

  pub line_asked : (i : Instr) → top.place.line < length b.body → i ≡ get_or b.body top.place.line i
      → asks m (state_under m top kept) ≡ line_step m i (behind_line f b top) rest (world_in kept.world)
  line_asked i within is = lines_asked (i ∷ drop (top.place.line + 1) b.body) (drop_at b.body top.place.line i within is)

  pub line_there : (i : Instr) → top.place.line < length b.body → i ≡ get_or b.body top.place.line i → slice_get b.body top.place.line ≡ Some i
  line_there i within is = slice_get-get_or b.body top.place.line i within ∙ ap Some (sym is)

  pub end_asked : length b.body ≤ top.place.line → asks m (state_under m top kept) ≡ term_step (scope_of m) b.term (at_end_of f b top) rest (world_in kept.world)
  end_asked past = lines_asked [] (drop_of_length-le b.body past)

pub act_asked : (m : Module) (top : KeptFrame) (kept : RunState) (p : Pending) (rest : List Pending) → kept.waits ≡ true → pending_of m top ≡ Some p → waiting_on m kept.below.items [] ≡ Some rest
    → asks m (state_under m top kept) ≡ Ask (is_act p (world_in kept.world)) (λ c. act c p rest (world_in kept.world))
act_asked m top kept p rest waits pending below =
    ap (asks m) (state_waits m top kept rest waits below ∙ ap (λ (o : Option Pending). waiting_state o rest (world_in kept.world)) pending)

-- ---- runs that are over

-- a run that is over doesn't go on
pub over_never_goes : (items : List Item) (q : Progress) → q ≡ progress_of items Over → q ≡ progress.Goes → ⊥
over_never_goes [] q e goes = cc
over_never_goes (Wrong ∷ items) q e goes = cc
over_never_goes (Turn ∷ items) q e goes = over_never_goes items q e goes
over_never_goes (Returned s ∷ items) q e goes = over_never_goes items q e goes
over_never_goes (Called x args ∷ items) q e goes = over_never_goes items q e goes
over_never_goes (EnvRead x offset s ∷ items) q e goes = over_never_goes items q e goes
over_never_goes (EnvWrite x offset s ∷ items) q e goes = over_never_goes items q e goes
over_never_goes (EnvNew align bytes ∷ items) q e goes = over_never_goes items q e goes
over_never_goes (Replied s ∷ items) q e goes = over_never_goes items q e goes

over_after : (state : State) (items : List Item) (q : Progress) → q ≡ progress_of items Over → state_after state q ≡ Over
over_after state items progress.Goes e = absurd (over_never_goes items progress.Goes e refl)
over_after state items progress.Ended e = refl
over_after state items progress.IsWrong e = refl

-- a step after which the run is over, wherever it stood
pub over_answers : (tree : Asks) (before after : List Choice) (state : State) (r : Result Stepped StepEnd) → IfOk r (λ stepped. answer tree before ≡ Did stepped.items Over after)
    → IfOk r (λ stepped. stepped.progress ≡ progress_of stepped.items Over) → (IsErrOf r end.NoChoice → answer tree before ≡ Lacks after) → TakesAsked tree before after
    → Answers tree before after state r
over_answers tree before after state (Ok stepped) made goes lacks told =
    let over = over_after state stepped.items stepped.progress goes in record {
      made = rw over made;
      progress = rw over goes;
      no_choice = lacks;
      told = told;
    }
over_answers tree before after state (Err e) made goes lacks told = record { made = tt; progress = tt; no_choice = lacks; told = told }

-- ---- the state after the step

-- the run keeps the frame on top that is left
pub stands_after : (m : Module) (r : Result Stepped StepEnd) (top : KeptFrame) (kept : RunState) → kept.top ≡ kept_after r top
    → IfOk r (λ stepped. state_of m kept ≡ state_after (state_under m top kept) stepped.progress)
stands_after m (Err e) top kept is = tt
stands_after m (Ok stepped) top kept is = by_progress stepped.progress refl
  where
    by_kept : (q : Progress) → stepped.progress ≡ q
        → state_on m (kept_after (Ok stepped) top) kept.waits (world_in kept.world) (waiting_on m kept.below.items []) ≡ state_after (state_under m top kept) stepped.progress
    by_kept progress.Goes e = rw e refl
    by_kept progress.Ended e = rw e refl
    by_kept progress.IsWrong e = rw e refl

    by_progress : (q : Progress) → stepped.progress ≡ q → state_of m kept ≡ state_after (state_under m top kept) stepped.progress
    by_progress q e = ap (λ (o : Option KeptFrame). state_on m o kept.waits (world_in kept.world) (waiting_on m kept.below.items [])) is ∙ by_kept q e

pub fails_after : (m : Module) (r : Result Stepped StepEnd) (top : KeptFrame) (kept : RunState) → kept.top ≡ kept_after r top → OnErr r (state_of m kept ≡ state_under m top kept)
fails_after m (Ok stepped) top kept is = tt
fails_after m (Err e) top kept is = ap (λ (o : Option KeptFrame). state_on m o kept.waits (world_in kept.world) (waiting_on m kept.below.items [])) is

-- ---- what waits below

waiting_length : (m : Module) (xs : List KeptFrame) (ps rest : List Pending) → waiting_on m xs ps ≡ Some rest → length rest ≡ length xs + length ps
waiting_length m [] ps rest is =
    let same : ps ≡ rest = cc in
    let long : length ps ≡ length rest = ap length same in
    omega (arith, long)
waiting_length m (x ∷ xs) ps rest is = by_pending (pending_of m x) is (λ p e. waiting_length m xs (p ∷ ps) rest e)
  where
    by_pending : (o : Option Pending) → option_and_then (λ p. waiting_on m xs (p ∷ ps)) o ≡ Some rest
        → ((p : Pending) → waiting_on m xs (p ∷ ps) ≡ Some rest → length rest ≡ length xs + length (p ∷ ps)) → length rest ≡ length (x ∷ xs) + length ps
    by_pending None e more = absurd (cc)
    by_pending (Some p) e more =
        let longer : length rest ≡ length xs + suc (length ps) = more p e in
        omega (arith, longer)

pub none_below : (m : Module) (xs : List KeptFrame) (rest : List Pending) → length xs ≡ 0 → waiting_on m xs [] ≡ Some rest → rest ≡ []
none_below m xs rest none is = by_rest rest (waiting_length m xs [] rest is)
  where
    by_rest : (ps : List Pending) → length ps ≡ length xs + 0 → ps ≡ []
    by_rest [] e = refl
    by_rest (p ∷ ps) e = absurd (omega (arith, none, e))

pub some_below : (m : Module) (xs : List KeptFrame) (rest : List Pending) → (length xs ≡ 0 → ⊥) → waiting_on m xs [] ≡ Some rest
    → (p : Pending) × (ps : List Pending) × (rest ≡ p ∷ ps)
some_below m xs rest some is = by_rest rest (waiting_length m xs [] rest is)
  where
    by_rest : (ps : List Pending) → length ps ≡ length xs + 0 → (p : Pending) × (more : List Pending) × (ps ≡ p ∷ more)
    by_rest [] e = absurd (some (omega (arith, e)))
    by_rest (p ∷ ps) e = (p, ps, refl)

-- ---- returns

pub last_answers : (k : Option Kind) (v : Value) (own : List ℕ) (world : World) (rest : List Pending) (before after : List Choice) (state : State) (r : Result Stepped StepEnd) → rest ≡ []
    → IfOk r (λ stepped. answer (return_step k v [] world) before ≡ Did stepped.items Over after) → IfOk r (λ stepped. stepped.progress ≡ progress_of stepped.items Over)
    → (IsErrOf r end.NoChoice → answer (return_step k v [] world) before ≡ Lacks after) → TakesAsked (return_step k v [] world) before after
    → Answers (return_step k v rest (without_own own world)) before after state r
last_answers k v own world rest before after state r none made goes lacks told =
    subst (λ (tree : Asks). Answers tree before after state r) (sym (ap (λ (ps : List Pending). return_step k v ps (without_own own world)) none ∙ last_return_same k v own world))
    (over_answers (return_step k v [] world) before after state r made goes lacks told)

back_does : (k : Option Kind) (v : Value) (p : Pending) (ps : List Pending) (world : World) → IsDone (return_step k v (p ∷ ps) world)
back_does k v p ps world = (Turn ∷ [], Running (resumed p k v) ps world, refl)

pub back_made : {E : Type 0} (k : Option Kind) (v : Value) (world : World) (p : Pending) (rest ps : List Pending) (script : List Choice) (state : State) (stepped : Stepped) → rest ≡ p ∷ ps
    → JustDoes {E = E} (return_step k v (p ∷ ps) world) state (Ok stepped) → Answers (return_step k v rest world) script script state (Ok stepped)
back_made {E} k v world p rest ps script state stepped is h = subst (λ (l : List Pending). Answers (return_step k v l world) script script state (Ok stepped)) (sym is)
    (done_answers {E = E} (return_step k v (p ∷ ps) world) script state stepped h)

pub back_fails : (k : Option Kind) (v : Value) (world : World) (p : Pending) (rest ps : List Pending) (script : List Choice) (state : State) (r : Result Stepped StepEnd) → rest ≡ p ∷ ps
    → r ≡ Err end.Memory → Answers (return_step k v rest world) script script state r
back_fails k v world p rest ps script state r is fails = subst (λ (l : List Pending). Answers (return_step k v l world) script script state r) (sym is)
    (fails_answers (return_step k v (p ∷ ps) world) script state r (back_does k v p ps world) fails)

pub void_done : (rest : List Pending) (world : World) → IsDone (return_void rest world)
void_done [] world = (Turn ∷ Returned None ∷ [], Over, refl)
void_done (p ∷ ps) world = (Turn ∷ [], Running (resumed p None Poison) ps world, refl)

pub last_void : {E : Type 0} (rest : List Pending) (world : World) (state : State) (stepped : Stepped) → rest ≡ [] → stepped.items ≡ Turn ∷ Returned None ∷ [] → stepped.progress ≡ progress.Ended
    → JustDoes {E = E} (return_void rest world) state (Ok stepped)
last_void rest world state stepped none items goes = record { made = rw (none, items, goes) refl; progress = rw (items, goes) refl }

pub void_back : {E : Type 0} (world : World) (p : Pending) (rest ps : List Pending) (state : State) (r : Result Stepped E) → rest ≡ p ∷ ps
    → JustDoes {E = E} (return_step None Poison (p ∷ ps) world) state r → JustDoes {E = E} (return_void rest world) state r
void_back {E} world p rest ps state r is h = subst (λ (l : List Pending). JustDoes {E = E} (return_void l world) state r) (sym is) h

-- ---- jumps

pub moved : (m : Module) (f : Function) (b : Block) (top : KeptFrame) (kept : RunState) (rest : List Pending) → IsOnTop m f b top kept rest
    → (after : KeptFrame) → after.place.function ≡ top.place.function → state_under m after kept ≡ running_state (frame_in f after) rest (world_in kept.world)
moved m f b top kept rest on after stays = state_runs m after kept rest on.runs on.below
    ∙ ap (λ (o : Option Function). running_state (option_and_then (λ f. frame_in f after) o) rest (world_in kept.world)) (ap (slice_get m.functions) stays ∙ on.function)

pub moved_answers : (m : Module) (f : Function) (b : Block) (top : KeptFrame) (kept : RunState) (rest : List Pending) → IsOnTop m f b top kept rest
    → (after : KeptFrame) → after.place.function ≡ top.place.function → (tree : Asks) (before left : List Choice) (r : Result Stepped StepEnd)
    → Answers tree before left (running_state (frame_in f after) rest (world_in kept.world)) r → Answers tree before left (state_under m after kept) r
moved_answers m f b top kept rest on after stays tree before left r h =
    subst (λ (s : State). Answers tree before left s r) (sym (moved m f b top kept rest on after stays)) h

pub of_value : (v w : Value) (k j : Option Kind) (rest : List Pending) (world : World) (before after : List Choice) (state : State) (r : Result Stepped StepEnd) → j ≡ k → w ≡ v
    → Answers (return_step j w rest world) before after state r → Answers (return_step k v rest world) before after state r
of_value v w k j rest world before after state r kinds values h =
    subst (λ (k : Option Kind). Answers (return_step k v rest world) before after state r) kinds
    (subst (λ (v : Value). Answers (return_step j v rest world) before after state r) values h)

-- ---- what is asked of the code

pub asked_answers : (m : Module) (top : KeptFrame) (kept : RunState) (tree : Asks) (before after : List Choice) (state : State) (r : Result Stepped StepEnd)
    → asks m (state_under m top kept) ≡ tree → Answers tree before after state r → Answers (asks m (state_under m top kept)) before after state r
asked_answers m top kept tree before after state r is h = subst (λ (tree : Asks). Answers tree before after state r) (sym is) h

pub same_place : (m : Module) (top : KeptFrame) (kept : RunState) → (state_under m top kept ≡ Over → ⊥) → kept.waits ≡ false → (f : Function) (b : Block)
    → slice_get m.functions top.place.function ≡ Some f → slice_get f.blocks top.place.block ≡ Some b → (rest : List Pending) × IsOnTop m f b top kept rest
same_place m top kept goes runs f b some block =
    let there = runs_there m top kept goes runs in
    (there.2, record { function = some; block = block; runs = runs; below = there.3.below })

pub function_there : (m : Module) (top : KeptFrame) (kept : RunState) → (state_under m top kept ≡ Over → ⊥) → kept.waits ≡ false → slice_get m.functions top.place.function ≡ None → ⊥
function_there m top kept goes runs none =
    let there = runs_there m top kept goes runs in
    let not : None ≡ Some there.0 = sym none ∙ there.3.function in
    cc

pub block_there : (m : Module) (top : KeptFrame) (kept : RunState) → (state_under m top kept ≡ Over → ⊥) → kept.waits ≡ false → (f : Function)
    → slice_get m.functions top.place.function ≡ Some f → slice_get f.blocks top.place.block ≡ None → ⊥
block_there m top kept goes runs f some none =
    let there = runs_there m top kept goes runs in
    let same : Some f ≡ Some there.0 = sym some ∙ there.3.function in
    let one : f ≡ there.0 = cc in
    let not : None ≡ Some there.1 = sym none ∙ ap (λ (f : Function). slice_get f.blocks top.place.block) one ∙ there.3.block in
    cc

-- ---- the outside does something

pub err_answers : (tree : Asks) (p : Pending) (rest : List Pending) (world : World) (before after : List Choice) (state : State) (e : StepEnd) → Answered (Err e) (answer tree before) p rest world after
    → TakesAsked tree before after → Answers tree before after state (Err e)
err_answers tree p rest world before after state end.NoChoice lacks told = record { made = tt; progress = tt; no_choice = λ e. lacks; told = told }
err_answers tree p rest world before after state end.Memory some told = record { made = tt; progress = tt; no_choice = λ e. absurd (cc); told = told }

module _ (m : Module) (top : KeptFrame) (kept : RunState) (p : Pending) (rest : List Pending) (waits : kept.waits ≡ true) (pending : pending_of m top ≡ Some p)
    (below : waiting_on m kept.below.items [] ≡ Some rest) where
  pub stays_waiting : (then : RunState) → then.waits ≡ kept.waits → then.below.items ≡ kept.below.items → state_under m top then ≡ Waiting p rest (world_in then.world)
  stays_waiting then still same = state_waits m top then rest (still ∙ waits) (ap (λ (l : List KeptFrame). waiting_on m l []) same ∙ below)
      ∙ ap (λ (o : Option Pending). waiting_state o rest (world_in then.world)) pending

  pub goes_on : (after : KeptFrame) (then : RunState) (frame : Frame) → then.waits ≡ false → then.below.items ≡ kept.below.items → frame_of m after ≡ Some frame
      → state_under m after then ≡ Running frame rest (world_in then.world)
  goes_on after then frame runs same is = state_runs m after then rest runs (ap (λ (l : List KeptFrame). waiting_on m l []) same ∙ below)
      ∙ ap (λ (o : Option Frame). running_state o rest (world_in then.world)) is

  pub answers_act : (before after : List Choice) (state : State) (r : Result Stepped StepEnd) → Answers (Ask (is_act p (world_in kept.world)) (λ c. act c p rest (world_in kept.world))) before after state r
      → Answers (asks m (state_under m top kept)) before after state r
  answers_act before after state r h = asked_answers m top kept (Ask (is_act p (world_in kept.world)) (λ c. act c p rest (world_in kept.world))) before after state r (act_asked m top kept p rest waits pending below) h

  pub takes_act : (before after : List Choice) → TakesAsked (Ask (is_act p (world_in kept.world)) (λ c. act c p rest (world_in kept.world))) before after
      → TakesAsked (asks m (state_under m top kept)) before after
  takes_act before after h = subst (λ (tree : Asks). TakesAsked tree before after) (sym (act_asked m top kept p rest waits pending below)) h

-- told nothing, it is asked for nothing but what it lacks
pub act_takes_none : (p : Pending) (rest : List Pending) (world : World) (script : List Choice) → TakesAsked (Ask (is_act p world) (λ c. act c p rest world)) script script
act_takes_none p rest world script = ([], refl, refl)

pub acted_so : (a b : Acted) (p : Pending) (rest : List Pending) (world : World) (told : Answer) (after : List Choice) → a ≡ b → told ≡ answer (acted_as a p rest world) after
    → told ≡ answer (acted_as b p rest world) after
acted_so a b p rest world told after is h = h ∙ ap (λ (a : Acted). answer (acted_as a p rest world) after) is

-- ---- the step that is made

pub begins : (m : Module) (top : KeptFrame) (kept : RunState) → kept.top ≡ Some top → state_of m kept ≡ state_under m top kept
begins m top kept is = ap (λ (o : Option KeptFrame). state_on m o kept.waits (world_in kept.world) (waiting_on m kept.below.items [])) is

module _ (tree : Asks) (before left : List Choice) (state reached : State) where
  pub step_made : (r : Result Stepped StepEnd) → Answers tree before left state r → IfOk r (λ stepped. reached ≡ state_after state stepped.progress)
      → IfOk r (λ stepped. answer tree before ≡ Did stepped.items reached left)
  step_made (Ok stepped) h is = h.made ∙ ap (λ (s : State). Did stepped.items s left) (sym is)
  step_made (Err e) h is = tt

  pub step_progress : (r : Result Stepped StepEnd) → Answers tree before left state r → IfOk r (λ stepped. reached ≡ state_after state stepped.progress)
      → IfOk r (λ stepped. stepped.progress ≡ progress_of stepped.items reached)
  step_progress (Ok stepped) h is = h.progress ∙ ap (λ (s : State). progress_of stepped.items s) (sym is)
  step_progress (Err e) h is = tt

  -- a step that is made lacks no choice
  pub step_lacks : (r : Result Stepped StepEnd) → IfOk r (λ stepped. answer tree before ≡ Did stepped.items reached left) → (rest : List Choice) → answer tree before ≡ Lacks rest → IsErr r
  step_lacks (Ok stepped) did rest lacks = absurd (cc)
  step_lacks (Err e) did rest lacks = refl

pub step_goes_on : (state : State) (r : Result Stepped StepEnd) → IfOk r (λ stepped. stepped.progress ≡ progress_of stepped.items state)
    → IfOk r (λ stepped. stepped.progress ≡ progress.Goes → state ≡ Over → ⊥)
step_goes_on state (Ok stepped) h = λ goes over. over_never_goes stepped.items stepped.progress (h ∙ ap (λ (s : State). progress_of stepped.items s) over) goes
step_goes_on state (Err e) h = tt

pub step_as_before : (r : Result Stepped StepEnd) (first second third fourth : State) → OnErr r (first ≡ second) → OnErr r (second ≡ third) → fourth ≡ third → OnErr r (first ≡ fourth)
step_as_before (Ok stepped) first second third fourth p q e = tt
step_as_before (Err e) first second third fourth p q is = p ∙ q ∙ sym is
