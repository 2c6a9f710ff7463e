-- Runs are made of steps, and those of one block end.
use Rattle.std.proofs.Common.{◌≡◌, ◌⊎◌, inl, inr, ℕ, zero, suc, ◌≤◌, List, [], ◌∷◌, ◌++◌, length, Option, None, Some, MatchOption, refl, sym, ap, ◌∙◌, subst, arith}
use Rattle.std.specs.Prelude.{option_and_then, pos}
use Rattle.std.proofs.lemmas.List.{append-nil}
use Rattle.std.proofs.lemmas.List.{append_assoc}
use Rattle.std.specs.List.{AllByRecursion}
use Rattle.ir_core.specs.declared.values.Value.{Value}
use Rattle.ir_core.specs.declared.values.Value.TheVariants as value
use Rattle.ir_core.specs.declared.values.Kind.{Kind}
use Rattle.ir_core.specs.declared.values.Kind.TheVariants.{Ptr}
use Rattle.ir_types.specs.declared.names.Name.{Name}
use Rattle.ir_core.specs.declared.functions.Instr.{Instr}
use Rattle.ir_core.specs.declared.functions.Instr.TheVariants as line
use Rattle.ir_core.specs.declared.functions.Term.{Term}
use Rattle.ir_core.specs.declared.functions.Term.TheVariants.{Ret, RetVoid, Br, CondBr, Switch, Unreachable}
use Rattle.ir_core.specs.declared.functions.Block.{Block}
use Rattle.ir_core.specs.declared.functions.Function.{Function}
use Rattle.ir_core.specs.declared.modules.Module.{Module}
use Rattle.ir_values.specs.declared.operations.Outcome.{Outcome}
use Rattle.ir_values.specs.declared.operations.Outcome.TheVariants.{Gives, Trap}
use Rattle.ir_values.specs.Constants.{Scope}
use Rattle.block_memory.specs.Memory.{Memory}
use Rattle.ir_machine.specs.declared.items.Item.{Item}
use Rattle.ir_machine.specs.declared.inputs.Input.{Input}
use Rattle.ir_machine.specs.declared.inputs.InputPath.{InputPath}
use Rattle.ir_machine.specs.declared.items.Item.TheVariants.{Wrong}
use Rattle.ir_core.specs.Types.{kind_of}
use Rattle.ir_core.specs.Expressions.{type_of}
use Rattle.ir_machine.specs.Registers.{Registers, no_registers, set, read, operand_value, outcome}
use Rattle.ir_machine.specs.State.{Frame, Pending, World, scope_of, State, Running, Waiting, Over}
use Rattle.ir_machine.specs.Machine.{Asks, Does, Made, Follows, asks, at_block, function_named, passed, return_step, stored_by, term_step, waiting_for, without_own, ShowsFrom}
use Rattle.ir_machine.specs.Starting.{at_entry, handed, misfit, start, started, started_unless, world_at_start}
use Rattle.ir_machine.specs.Refinement.{MayShowFrom, EndTheRun}
use Rattle.ir_machine.specs.Laws.{EndsByReturn, EntersNone, Leads, RunsAreSteps, OneBlockRunsEnd, FirstsAreShown, StartsAreKept, RefinedRunsAreShown}
use Rattle.ir_machine.proofs.Trees.{AllDo, all_do_call, all_do_made, all_do_show}
use Rattle.ir_machine.proofs.NeverStuck.{CanReply, can_reply, none_is_stuck, ends_are_shown}
use Rattle.ir_machine.proofs.Runs.{step_on, shows_more}

abbrev StepsShow : Module → ℕ → State → List Item → Type 0
StepsShow m n s items = (t : State) × (k : ℕ) × (k ≤ n) × Leads m k s items t

steps_of : (m : Module) (n : ℕ) (s : State) (items : List Item) → ShowsFrom m n s items → StepsShow m n s items
steps_of m zero s items h = (s, zero, omega arith, (h, refl))
steps_of m (suc n) s items (inl e) = (s, zero, omega arith, (e, refl))
steps_of m (suc n) s items (inr h) =
    let rest : StepsShow m n h.0.after h.1 = steps_of m n h.0.after h.1 h.4 in
    (rest.0, suc rest.1, omega arith, (h.0, h.1, h.2, h.3, rest.3))

shows_of : (m : Module) (k : ℕ) (s t : State) (items : List Item) → Leads m k s items t → ShowsFrom m k s items
shows_of m zero s t items h = h.0
shows_of m (suc k) s t items h = inr (h.0, h.1, h.2, h.3, shows_of m k h.0.after t h.1 h.4)

pub runs_are_steps : RunsAreSteps
runs_are_steps m f input n items = (
  λ h. leads (start m f input) refl h,
  λ h. subst (λ (o : Option State). MatchOption o ⊥ (λ s. ShowsFrom m n s items)) (sym h.3)
      (shows_more m h.2 n h.0 items (shows_of m h.2 h.0 h.1 items h.5) h.4),
)
  where
    leads : (o : Option State) → start m f input ≡ o → MatchOption o ⊥ (λ s. ShowsFrom m n s items)
        → (s t : State) × (k : ℕ) × (start m f input ≡ Some s) × (k ≤ n) × Leads m k s items t
    leads None e h = absurd h
    leads (Some s) e h = let steps : StepsShow m n s items = steps_of m n s items h in (s, steps.0, steps.1, e, steps.2, steps.3)

-- from the state some run shows its end
abbrev pub EndsFrom : Module → State → Type 0
EndsFrom m s = (n : ℕ) × (items : List Item) × ShowsFrom m n s items × EndTheRun items

-- a step that ends a run
last_step : (m : Module) (s : State) (made : Made) → Follows (asks m s) made → made.after ≡ Over → EndsFrom m s
last_step m s made f over = (1, made.items ++ [], step_on m 0 s made [] f refl, subst (λ (items : List Item). EndTheRun items) (sym (append-nil made.items)) ((ends_are_shown m s made f).0 over))

-- a step before
later : (m : Module) (s : State) (made : Made) → Follows (asks m s) made → EndsFrom m made.after → EndsFrom m s
later m s made f h = (
  suc h.0,
  made.items ++ h.1,
  step_on m h.0 s made h.1 f h.2,
  (made.items ++ h.3.0, h.3.1, ap (λ (items : List Item). made.items ++ items) h.3.2 ∙ sym (append_assoc made.items h.3.0 (h.3.1 ∷ [])), h.3.3),
)

abbrev IsOver : List Item → State → Type 0
IsOver items after = after ≡ Over

return_is_over : (k : Option Kind) (v : Value) (world : World) → AllDo IsOver (return_step k v [] world)
return_is_over k v world = all_do_show IsOver k v world _ _ refl (λ s after. refl)

returns_over : (scope : Scope) (t : Term) (frame : Frame) (world : World) → EndsByReturn t → AllDo IsOver (term_step scope t frame [] world)
returns_over scope (Ret o) frame world returns = return_is_over (kind_of o.ty) (operand_value scope (read frame.registers) o) (without_own frame.own world)
returns_over scope RetVoid frame world returns = refl
returns_over scope (Br label) frame world returns = absurd returns
returns_over scope (CondBr c) frame world returns = absurd returns
returns_over scope (Switch s) frame world returns = absurd returns
returns_over scope Unreachable frame world returns = absurd returns

abbrev left_in : Frame → List Instr → World → State
left_in frame lines world = Running (record frame { lines = lines }) [] world

-- where undefined behaviour is shown, the run has ended
wrong_end : (m : Module) (s : State) → asks m s ≡ Does (Wrong ∷ []) Over → EndsFrom m s
wrong_end m s is = last_step m s (record { told = []; items = Wrong ∷ []; after = Over })
    (subst (λ (tree : Asks). Follows tree (record { told = []; items = Wrong ∷ []; after = Over })) (sym is) refl) refl

-- and where it goes on to a state from which it ends
quiet_end : (m : Module) (s t : State) → asks m s ≡ Does [] t → EndsFrom m t → EndsFrom m s
quiet_end m s t is h = later m s (record { told = []; items = []; after = t }) (subst (λ (tree : Asks). Follows tree (record { told = []; items = []; after = t })) (sym is) refl) h

-- the run is over, or waits for the outside
abbrev IsOverOrWaits : Pending → List Item → State → Type 0
IsOverOrWaits p items after = (after ≡ Over) ⊎ ((world : World) × (after ≡ Waiting p [] world))

abbrev EntersNoneIn : Module → List Instr → Type 0
EntersNoneIn m lines = AllByRecursion (EntersNone m) lines

none_found : {T : Type 0} (o : Option T) (x : T) → o ≡ None → o ≡ Some x → ⊥
none_found o x none some = let e : None ≡ Some x = sym none ∙ some in cc

ends_from : (m : Module) (lines : List Instr) (frame : Frame) (world : World) → EndsByReturn frame.term → EntersNoneIn m lines → EndsFrom m (left_in frame lines world)
ends_from m [] frame world returns calls =
    let made : (made : Made) × Follows (asks m (left_in frame [] world)) made = none_is_stuck m (left_in frame [] world) (λ e. cc) in
    last_step m (left_in frame [] world) made.0 made.1
    (all_do_made IsOver (asks m (left_in frame [] world)) made.0 (returns_over (scope_of m) frame.term (record frame { lines = [] }) world returns) made.1)
ends_from m (line.Calm b ∷ lines) frame world returns calls = by_outcome (outcome (scope_of m) (read frame.registers) world.memory b.right) refl
    (λ registers. ends_from m lines (record frame { registers = registers }) world returns calls.1)
  where
    by_outcome : (o : Outcome) → outcome (scope_of m) (read frame.registers) world.memory b.right ≡ o
        → ((registers : Registers) → EndsFrom m (left_in (record frame { registers = registers }) lines world)) → EndsFrom m (left_in frame (line.Calm b ∷ lines) world)
    by_outcome (Gives v) e rest =
        quiet_end m (left_in frame (line.Calm b ∷ lines) world) (left_in (record frame { registers = set frame.registers b.name (kind_of (type_of b.right)) v }) lines world)
        (rw e refl) (rest (set frame.registers b.name (kind_of (type_of b.right)) v))
    by_outcome Trap e rest = wrong_end m (left_in frame (line.Calm b ∷ lines) world) (rw e refl)
ends_from m (line.Alloca a ∷ lines) frame world returns calls =
    quiet_end m (left_in frame (line.Alloca a ∷ lines) world) _ refl
    (ends_from m lines (record frame { registers = set frame.registers a.name (Some Ptr) (value.Ptr (length world.memory) (pos 0)); own = frame.own ++ length world.memory ∷ [] }) _ returns calls.1)
ends_from m (line.Store s ∷ lines) frame world returns calls = by_memory (stored_by (scope_of m) s frame.registers world.memory) refl
    (λ memory. ends_from m lines frame (record world { memory = memory }) returns calls.1)
  where
    by_memory : (o : Option Memory) → stored_by (scope_of m) s frame.registers world.memory ≡ o
        → ((memory : Memory) → EndsFrom m (left_in frame lines (record world { memory = memory }))) → EndsFrom m (left_in frame (line.Store s ∷ lines) world)
    by_memory (Some memory) e rest = quiet_end m (left_in frame (line.Store s ∷ lines) world) (left_in frame lines (record world { memory = memory })) (rw e refl) (rest memory)
    by_memory None e rest = wrong_end m (left_in frame (line.Store s ∷ lines) world) (rw e refl)
ends_from m (line.Call c ∷ lines) frame world returns calls =
    let step : (made : Made) × Follows (asks m (left_in frame (line.Call c ∷ lines) world)) made = none_is_stuck m (left_in frame (line.Call c ∷ lines) world) (λ e. cc) in
    by_step step.0 step.1
    (all_do_made (IsOverOrWaits (waiting_for c (record frame { lines = lines }))) (asks m (left_in frame (line.Call c ∷ lines) world)) step.0
    (all_do_call (IsOverOrWaits (waiting_for c (record frame { lines = lines }))) m c (record frame { lines = lines }) [] world (inl refl)
    (λ g b bs named blocks. absurd (none_found (function_named c.callee m.functions) g calls.0 named))
    (λ none declared ss names. inr (record world { names = names }, refl))) step.1)
    (λ registers after. ends_from m lines (record frame { registers = registers }) after returns calls.1)
  where
    waiting_ends : (after : World) → ((registers : Registers) (after : World) → EndsFrom m (left_in (record frame { registers = registers }) lines after))
        → EndsFrom m (Waiting (waiting_for c (record frame { lines = lines })) [] after)
    waiting_ends after rest =
        let replied : CanReply m (waiting_for c (record frame { lines = lines })) [] after = can_reply m (waiting_for c (record frame { lines = lines })) [] after in
        later m (Waiting (waiting_for c (record frame { lines = lines })) [] after) _ replied.3 (rest _ after)

    by_step : (made : Made) → Follows (asks m (left_in frame (line.Call c ∷ lines) world)) made → IsOverOrWaits (waiting_for c (record frame { lines = lines })) made.items made.after
        → ((registers : Registers) (after : World) → EndsFrom m (left_in (record frame { registers = registers }) lines after)) → EndsFrom m (left_in frame (line.Call c ∷ lines) world)
    by_step made f (inl over) rest = last_step m (left_in frame (line.Call c ∷ lines) world) made f over
    by_step made f (inr waits) rest =
        later m (left_in frame (line.Call c ∷ lines) world) made f (subst (EndsFrom m) (sym waits.1) (waiting_ends waits.0 rest))

-- a function of one block starts there, on input that fits
starts_there : (m : Module) (x : Name) (f : Function) (b : Block) (input : Input) → function_named x m.functions ≡ Some f → f.blocks ≡ b ∷ [] → misfit (scope_of m) f.params input ≡ None
    → start m x input ≡ at_entry (world_at_start (scope_of m) input) f (b ∷ []) input.args
starts_there m x f b input named blocks fit =
    ap (λ (o : Option Function). option_and_then (λ g. started (scope_of m) g input) o) named
    ∙ ap (λ (o : Option InputPath). started_unless o (world_at_start (scope_of m) input) f input.args) fit
    ∙ ap (λ (bs : List Block). at_entry (world_at_start (scope_of m) input) f bs input.args) blocks

pub one_block_runs_end : OneBlockRunsEnd
one_block_runs_end m x f b input named blocks phis term calls fit =
    let world : World = world_at_start (scope_of m) input in
    let frame : Frame = at_block f b (passed f.params (handed world f.params input.args) no_registers) [] in
    let ends : EndsFrom m (left_in frame b.body world) = ends_from m b.body frame world term calls in
    (ends.0, ends.1, subst (λ (o : Option State). MatchOption o ⊥ (λ s. ShowsFrom m ends.0 s ends.1)) (sym (starts_there m x f b input named blocks fit)) ends.2, ends.3)

pub firsts_are_shown : FirstsAreShown
firsts_are_shown m s x items (inl h) = (h.0, x, items, h.1, inl refl)
firsts_are_shown m s x items (inr (n, [], rest, e, h)) = (n, Wrong, [], h, inr refl)
firsts_are_shown m s x items (inr (n, y ∷ seen, rest, e, h)) = (n, y, seen ++ Wrong ∷ [], h, inl (cc))

pub starts_are_kept : StartsAreKept
starts_are_kept source target h f input s starts none =
    subst (λ (o : Option State). MatchOption o ⊥ (λ t. MayShowFrom source t [])) none
    (h f input 0 [] (subst (λ (o : Option State). MatchOption o ⊥ (λ t. ShowsFrom target 0 t [])) (sym starts) refl))

abbrev ShownBy : Module → Option State → List Item → Type 0
ShownBy m o items = ((k : ℕ) × MatchOption o ⊥ (λ s. ShowsFrom m k s items))
    ⊎ ((k : ℕ) × (seen : List Item) × (rest : List Item) × (items ≡ seen ++ rest) × MatchOption o ⊥ (λ s. ShowsFrom m k s (seen ++ Wrong ∷ [])))

shown_from : (m : Module) (o : Option State) (items : List Item) → MatchOption o ⊥ (λ s. MayShowFrom m s items) → ShownBy m o items
shown_from m None items may = absurd may
shown_from m (Some s) items may = may

pub refined_runs_are_shown : RefinedRunsAreShown
refined_runs_are_shown source target h f input n items shows = shown_from source (start source f input) items (h f input n items shows)
