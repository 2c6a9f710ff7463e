-- A run that isn't over can make a step, and shows how it ends.
use Rattle.std.proofs.Common.{◌≡◌, ◌↔◌, ◌^◌, ℕ, map, Bool, true, false, cond, List, [], ◌∷◌, ◌++◌, Option, None, Some, refl, sym, ap, subst}
use Rattle.std.specs.Prelude.{◌≢◌, ℤ, nat_lt}
use Rattle.std.specs.Option.{is_some}
use Rattle.std.proofs.lemmas.Bool.{lt-ltb}
use Rattle.std.proofs.lemmas.Nat.{pow_pos}
use Rattle.ir_types.specs.declared.names.Name.{Name}
use Rattle.ir_core.specs.declared.values.Value.{Value}
use Rattle.ir_core.specs.declared.values.Value.TheVariants as value
use Rattle.ir_core.specs.declared.values.Kind.{Kind}
use Rattle.ir_core.specs.declared.values.Kind.TheVariants.{Int, Ptr}
use Rattle.ir_core.specs.declared.values.Byte.{Byte}
use Rattle.ir_core.specs.declared.values.Byte.TheVariants as byte
use Rattle.ir_core.specs.declared.functions.Block.{Block}
use Rattle.ir_core.specs.declared.functions.Call.{Call}
use Rattle.ir_core.specs.declared.functions.Function.{Function}
use Rattle.ir_core.specs.declared.functions.Case.{Case}
use Rattle.ir_core.specs.declared.functions.Instr.{Instr}
use Rattle.ir_core.specs.declared.functions.Instr.TheVariants as line
use Rattle.ir_core.specs.declared.functions.Term.{Term}
use Rattle.ir_core.specs.declared.functions.Term.TheVariants.{Ret, RetVoid, Br, CondBr, Switch, Unreachable}
use Rattle.ir_core.specs.declared.modules.Module.{Module}
use Rattle.ir_values.specs.declared.operations.Outcome.{Outcome}
use Rattle.ir_values.specs.declared.operations.Outcome.TheVariants.{Gives, Trap}
use Rattle.ir_values.specs.Constants.{Scope}
use Rattle.block_memory.specs.declared.items.Choice.{Choice}
use Rattle.block_memory.specs.declared.items.Choice.TheVariants as choice
use Rattle.block_memory.specs.declared.items.Shown.{Shown}
use Rattle.block_memory.specs.declared.items.Shown.TheVariants as shown
use Rattle.block_memory.specs.declared.items.ShownByte.{ShownByte}
use Rattle.block_memory.specs.Memory.{Memory}
use Rattle.block_memory.specs.Names.{Showing, name_of}
use Rattle.ir_machine.specs.declared.items.Item.{Item}
use Rattle.ir_machine.specs.declared.items.Item.TheVariants.{Turn, Called, EnvRead, EnvWrite, EnvNew, Replied, Returned, Wrong}
use Rattle.ir_core.specs.Types.{kind_of}
use Rattle.ir_core.specs.Expressions.{type_of}
use Rattle.ir_machine.specs.Registers.{read, operand_value, outcome}
use Rattle.ir_machine.specs.State.{Frame, Pending, World, scope_of, State, Running, Waiting, Over}
use Rattle.ir_machine.specs.Machine.{Asks, Does, Ask, Never, Chosen, Told, FreshByte, Made, Follows, act, arguments_of, asks, begun, block_named, branch, byte_reached, call_step, called, chosen_by, entering, function_named, gone, gone_to, is_act, is_among, is_byte_pick, is_declared, is_label, is_reply, jump, label_told, picked_byte, read_byte, reply, resolve, resumed, show, show_all, show_byte, show_part, show_undef, shown_as, set_to, frame_step, term_step, return_step, return_void, stored_by, waiting_for, with_memory, without_own, wrong}
use Rattle.ir_machine.specs.Choices.{Lacks, NoStep, answer, RunsAnswer}
use Rattle.ir_machine.specs.Refinement.{IsEnd, EndTheRun, NoneIsStuck, EndsAreShown}
use Rattle.ir_types.specs.NameLaws.{same_name_refl}
use Rattle.ir_machine.proofs.Trees.{AllDo, all_do_act, all_do_branch, all_do_call, all_do_jump, all_do_made, all_do_show, all_do_set_to, all_do_stored}

abbrev CanStep : Asks → Type 0
CanStep tree = (made : Made) × Follows tree made

does_step : (items : List Item) (after : State) → CanStep (Does items after)
does_step items after = (record { told = []; items = items; after = after }, refl)

-- at each width there is a number, 0
zero_fits : (width : ℕ) → nat_lt 0 (2 ^ width) ≡ true
zero_fits width = lt-ltb 0 (2 ^ width) (pow_pos width)

told_can_step : (k : Kind) (world : World) (next : Shown → World → Asks) (c : Chosen) (showing : Showing) → chosen_by k world c ≡ Some showing
    → ((s : Shown) (after : World) → CanStep (next s after)) → CanStep (Ask (λ c. is_some (chosen_by k world c)) (λ c. shown_as (chosen_by k world c) world next))
told_can_step k world next c showing e good =
    let more : CanStep (shown_as (chosen_by k world c) world next) = subst (λ (o : Option Showing). CanStep (shown_as o world next)) (sym e) (good showing.0 _) in (
      record { told = c ∷ more.0.told; items = more.0.items; after = more.0.after },
      (c, more.0, ap is_some e, more.1, refl),
    )

-- undef may be shown as 0, and as address 0
undef_can_step : (k : Option Kind) (world : World) (poison : Asks) (next : Shown → World → Asks) → CanStep poison → ((s : Shown) (after : World) → CanStep (next s after)) → CanStep (show_undef k world poison next)
undef_can_step None world poison next bad good = bad
undef_can_step (Some (Int width)) world poison next bad good =
    told_can_step (Int width) world next (Told (choice.Pick (shown.Num 0))) (shown.Num 0, world.names) (rw (zero_fits width) refl) good
undef_can_step (Some Ptr) world poison next bad good =
    told_can_step Ptr world next (Told (choice.Pick (shown.Bare 0))) (shown.Bare 0, world.names) refl good

show_can_step : (k : Option Kind) (v : Value) (world : World) (poison : Asks) (next : Shown → World → Asks) → CanStep poison → ((s : Shown) (after : World) → CanStep (next s after)) → CanStep (show k v world poison next)
show_can_step k value.Poison world poison next bad good = bad
show_can_step k value.Undef world poison next bad good = undef_can_step k world poison next bad good
show_can_step k (value.Num n) world poison next bad good = good _ _
show_can_step k (value.Ptr block offset) world poison next bad good = good _ _
show_can_step k (value.Bare address) world poison next bad good = good _ _

return_can_step : (k : Option Kind) (v : Value) (rest : List Pending) (world : World) → CanStep (return_step k v rest world)
return_can_step k v [] world = show_can_step k v world _ _ (does_step (Turn ∷ Wrong ∷ []) Over) (λ s after. does_step (Turn ∷ Returned (Some s) ∷ []) Over)
return_can_step k v (p ∷ ps) world = does_step (Turn ∷ []) _

void_can_step : (rest : List Pending) (world : World) → CanStep (return_void rest world)
void_can_step [] world = does_step (Turn ∷ Returned None ∷ []) Over
void_can_step (p ∷ ps) world = does_step (Turn ∷ []) _

entering_can_step : (scope : Scope) (frame : Frame) (rest : List Pending) (world : World) (o : Option Block) → CanStep (entering scope frame rest world o)
entering_can_step scope frame rest world (Some b) = does_step (Turn ∷ []) _
entering_can_step scope frame rest world None = does_step (Wrong ∷ []) Over

jump_can_step : (scope : Scope) (frame : Frame) (rest : List Pending) (world : World) (to : Name) → CanStep (jump scope frame rest world to)
jump_can_step scope frame rest world to = entering_can_step scope frame rest world (block_named to frame.function.blocks)

-- undef may go to the first of the labels
label_can_step : (x : Name) (labels : List Name) (next : Name → Asks) → ((y : Name) → CanStep (next y)) → CanStep (Ask (is_label (x ∷ labels)) (λ c. gone c next))
label_can_step x labels next h =
    let more : CanStep (next x) = h x in
    let fits : is_label (x ∷ labels) (Told (choice.Go x)) ≡ true = rw (same_name_refl x) refl in (
      record { told = Told (choice.Go x) ∷ more.0.told; items = more.0.items; after = more.0.after },
      (Told (choice.Go x), more.0, fits, more.1, refl),
    )

branch_can_step : (v : Value) (label : ℕ → Name) (x : Name) (labels : List Name) (next : Name → Asks) → ((y : Name) → CanStep (next y)) → CanStep (branch v label (x ∷ labels) next)
branch_can_step (value.Num n) label x labels next h = h (label n)
branch_can_step value.Undef label x labels next h = label_can_step x labels next h
branch_can_step (value.Ptr block offset) label x labels next h = label_can_step x labels next h
branch_can_step (value.Bare address) label x labels next h = label_can_step x labels next h
branch_can_step value.Poison label x labels next h = does_step (Wrong ∷ []) Over

term_can_step : (scope : Scope) (t : Term) (frame : Frame) (rest : List Pending) (world : World) → CanStep (term_step scope t frame rest world)
term_can_step scope (Ret o) frame rest world = return_can_step (kind_of o.ty) (operand_value scope (read frame.registers) o) rest (without_own frame.own world)
term_can_step scope RetVoid frame rest world = void_can_step rest (without_own frame.own world)
term_can_step scope (Br label) frame rest world = jump_can_step scope frame rest world label
term_can_step scope (CondBr c) frame rest world =
    branch_can_step (operand_value scope (read frame.registers) c.condition) _ c.on_true (c.on_false ∷ []) (jump scope frame rest world) (jump_can_step scope frame rest world)
term_can_step scope (Switch s) frame rest world =
    branch_can_step (operand_value scope (read frame.registers) s.value) _ s.default (map (λ (c : Case). c.label) s.cases) (jump scope frame rest world) (jump_can_step scope frame rest world)
term_can_step scope Unreachable frame rest world = does_step (Wrong ∷ []) Over

set_can_step : (k : Option Kind) (x : Name) (o : Outcome) (frame : Frame) (rest : List Pending) (world : World) → CanStep (set_to k x o frame rest world)
set_can_step k x (Gives v) frame rest world = does_step [] _
set_can_step k x Trap frame rest world = does_step (Wrong ∷ []) Over

store_can_step : (o : Option Memory) (frame : Frame) (rest : List Pending) (world : World) → CanStep (with_memory o frame rest world)
store_can_step (Some memory) frame rest world = does_step [] _
store_can_step None frame rest world = does_step (Wrong ∷ []) Over

all_can_step : (vs : List (Option Kind × Value)) (world : World) (next : List Shown → World → Asks) → ((ss : List Shown) (after : World) → CanStep (next ss after)) → CanStep (show_all vs world next)
all_can_step [] world next good = good [] world
all_can_step (v ∷ vs) world next good = show_can_step v.0 v.1 world wrong _ (does_step (Wrong ∷ []) Over) (λ s after. all_can_step vs after _ (λ ss last. good (s ∷ ss) last))

begun_can_step : (g : Function) (bs : List Block) (vs : List (Option Kind × Value)) (rest : List Pending) (world : World) → CanStep (begun g bs vs rest world)
begun_can_step g [] vs rest world = does_step (Wrong ∷ []) Over
begun_can_step g (b ∷ bs) vs rest world = does_step (Turn ∷ []) _

called_can_step : (o : Option Function) (declared : Bool) (x : Name) (vs : List (Option Kind × Value)) (p : Pending) (rest : List Pending) (world : World) → CanStep (called o declared x vs p rest world)
called_can_step (Some g) declared x vs p rest world = begun_can_step g g.blocks vs (p ∷ rest) world
called_can_step None true x vs p rest world = all_can_step vs world _ (λ ss after. does_step (Called x ss ∷ []) _)
called_can_step None false x vs p rest world = does_step (Wrong ∷ []) Over

call_can_step : (m : Module) (c : Call) (frame : Frame) (rest : List Pending) (world : World) → CanStep (call_step m c frame rest world)
call_can_step m c frame rest world =
    called_can_step (function_named c.callee m.functions) (is_declared c.callee m.declarations) c.callee (arguments_of (scope_of m) frame.registers c.arguments) (waiting_for c frame) rest world

frame_can_step : (m : Module) (lines : List Instr) (frame : Frame) (rest : List Pending) (world : World) → CanStep (frame_step m lines frame rest world)
frame_can_step m (line.Calm b ∷ left) frame rest world =
    set_can_step (kind_of (type_of b.right)) b.name (outcome (scope_of m) (read frame.registers) world.memory b.right) (record frame { lines = left }) rest world
frame_can_step m (line.Alloca a ∷ left) frame rest world = does_step [] _
frame_can_step m (line.Store s ∷ left) frame rest world = store_can_step (stored_by (scope_of m) s frame.registers world.memory) (record frame { lines = left }) rest world
frame_can_step m (line.Call c ∷ left) frame rest world = call_can_step m c (record frame { lines = left }) rest world
frame_can_step m [] frame rest world = term_can_step (scope_of m) frame.term frame rest world

-- a call may be answered: by nothing, by 0 or by address 0
answer_fits : (k : Option Kind) (world : World) → (s : Option Shown) × (is_reply k world s ≡ true)
answer_fits None world = (None, refl)
answer_fits (Some (Int width)) world = (Some (shown.Num 0), rw (zero_fits width) refl)
answer_fits (Some Ptr) world = (Some (shown.Bare 0), rw (zero_fits 64) refl)

-- a reply that fits is a step, behind which the frame goes on
abbrev pub CanReply : Module → Pending → List Pending → World → Type 0
CanReply m p ps world = (s : Option Shown) × (k : Option Kind) × (v : Value)
    × Follows (asks m (Waiting p ps world)) (record { told = Told (choice.Reply s) ∷ []; items = Replied s ∷ []; after = Running (resumed p k v) ps world })

pub can_reply : (m : Module) (p : Pending) (ps : List Pending) (world : World) → CanReply m p ps world
can_reply m p ps world = by_answer (answer_fits p.kind world)
  where
    by_answer : (s : Option Shown) × (is_reply p.kind world s ≡ true) → CanReply m p ps world
    by_answer (None, fits) = (None, None, value.Poison, (Told (choice.Reply None), record { told = []; items = _; after = _ }, fits, refl, refl))
    by_answer (Some s, fits) = (Some s, p.kind, resolve world s, (Told (choice.Reply (Some s)), record { told = []; items = _; after = _ }, fits, refl, refl))

wait_can_step : (m : Module) (p : Pending) (ps : List Pending) (world : World) → CanStep (asks m (Waiting p ps world))
wait_can_step m p ps world = let replied : CanReply m p ps world = can_reply m p ps world in (_, replied.3)

pub none_is_stuck : NoneIsStuck
none_is_stuck m (Running frame rest world) h = frame_can_step m frame.lines frame rest world
none_is_stuck m (Waiting p rest world) h = wait_can_step m p rest world
none_is_stuck m Over h = absurd (h refl)

-- a step leads to the end of the run exactly where it shows it
abbrev ShowsItsEnd : List Item → State → Type 0
ShowsItsEnd items after = (after ≡ Over) ↔ EndTheRun items

ends : (items before : List Item) (last : Item) → items ≡ before ++ last ∷ [] → IsEnd last → ShowsItsEnd items Over
ends items before last e is = (λ over. (before, last, e, is), λ shows. refl)

no_end : (items : List Item) → items ≡ [] → EndTheRun items → ⊥
no_end items none ([], last, e, is) = cc
no_end items none (x ∷ before, last, e, is) = cc

one_is_no_end : (x : Item) → (IsEnd x → ⊥) → EndTheRun (x ∷ []) → ⊥
one_is_no_end x none ([], last, e, is) = let same : last ≡ x = cc in none (subst (λ (y : Item). IsEnd y) same is)
one_is_no_end x none (y ∷ before, last, e, is) = let empty : before ++ last ∷ [] ≡ [] = cc in no_end (before ++ last ∷ []) empty (before, last, refl, is)

turn_is_no_end : EndTheRun (Turn ∷ []) → ⊥
turn_is_no_end = one_is_no_end Turn (λ e. e)

goes_on : (items : List Item) (frame : Frame) (rest : List Pending) (world : World) → (EndTheRun items → ⊥) → ShowsItsEnd items (Running frame rest world)
goes_on items frame rest world none = (λ over. absurd (cc), λ shows. absurd (none shows))

waits_on : (items : List Item) (p : Pending) (rest : List Pending) (world : World) → (EndTheRun items → ⊥) → ShowsItsEnd items (Waiting p rest world)
waits_on items p rest world none = (λ over. absurd (cc), λ shows. absurd (none shows))

return_shows_end : (k : Option Kind) (v : Value) (rest : List Pending) (world : World) → AllDo ShowsItsEnd (return_step k v rest world)
return_shows_end k v [] world = all_do_show ShowsItsEnd k v world _ _
    (ends (Turn ∷ Wrong ∷ []) (Turn ∷ []) Wrong refl tt)
    (λ s after. ends (Turn ∷ Returned (Some s) ∷ []) (Turn ∷ []) (Returned (Some s)) refl tt)
return_shows_end k v (p ∷ ps) world = goes_on (Turn ∷ []) _ ps world turn_is_no_end

void_shows_end : (rest : List Pending) (world : World) → AllDo ShowsItsEnd (return_void rest world)
void_shows_end [] world = ends (Turn ∷ Returned None ∷ []) (Turn ∷ []) (Returned None) refl tt
void_shows_end (p ∷ ps) world = goes_on (Turn ∷ []) _ ps world turn_is_no_end

wrong_ends : ShowsItsEnd (Wrong ∷ []) Over
wrong_ends = ends (Wrong ∷ []) [] Wrong refl tt

jump_shows_end : (scope : Scope) (frame : Frame) (rest : List Pending) (world : World) (to : Name) → AllDo ShowsItsEnd (jump scope frame rest world to)
jump_shows_end scope frame rest world to = all_do_jump ShowsItsEnd scope frame rest world to wrong_ends (λ b named. goes_on (Turn ∷ []) _ rest world turn_is_no_end)

term_shows_end : (scope : Scope) (t : Term) (frame : Frame) (rest : List Pending) (world : World) → AllDo ShowsItsEnd (term_step scope t frame rest world)
term_shows_end scope (Ret o) frame rest world = return_shows_end (kind_of o.ty) (operand_value scope (read frame.registers) o) rest (without_own frame.own world)
term_shows_end scope RetVoid frame rest world = void_shows_end rest (without_own frame.own world)
term_shows_end scope (Br label) frame rest world = jump_shows_end scope frame rest world label
term_shows_end scope (CondBr c) frame rest world = all_do_branch ShowsItsEnd (operand_value scope (read frame.registers) c.condition) _ _ (jump scope frame rest world) wrong_ends (jump_shows_end scope frame rest world)
term_shows_end scope (Switch s) frame rest world = all_do_branch ShowsItsEnd (operand_value scope (read frame.registers) s.value) _ _ (jump scope frame rest world) wrong_ends (jump_shows_end scope frame rest world)
term_shows_end scope Unreachable frame rest world = wrong_ends

frame_shows_end : (m : Module) (lines : List Instr) (frame : Frame) (rest : List Pending) (world : World) → AllDo ShowsItsEnd (frame_step m lines frame rest world)
frame_shows_end m (line.Calm b ∷ left) frame rest world =
    all_do_set_to ShowsItsEnd (kind_of (type_of b.right)) b.name (outcome (scope_of m) (read frame.registers) world.memory b.right) (record frame { lines = left }) rest world
    (λ v e. goes_on [] _ rest world (no_end [] refl)) (ends (Wrong ∷ []) [] Wrong refl tt)
frame_shows_end m (line.Alloca a ∷ left) frame rest world = goes_on [] _ rest _ (no_end [] refl)
frame_shows_end m (line.Store s ∷ left) frame rest world =
    all_do_stored ShowsItsEnd (stored_by (scope_of m) s frame.registers world.memory) (record frame { lines = left }) rest world (λ memory. goes_on [] _ rest _ (no_end [] refl)) wrong_ends
frame_shows_end m (line.Call c ∷ left) frame rest world = all_do_call ShowsItsEnd m c (record frame { lines = left }) rest world wrong_ends
    (λ g b bs named blocks. goes_on (Turn ∷ []) _ _ world turn_is_no_end)
    (λ none declared ss names. waits_on (Called c.callee ss ∷ []) _ rest _ (one_is_no_end (Called c.callee ss) (λ e. e)))
frame_shows_end m [] frame rest world = term_shows_end (scope_of m) frame.term frame rest world

step_shows_end : (m : Module) (s : State) → AllDo ShowsItsEnd (asks m s)
step_shows_end m (Running frame rest world) = frame_shows_end m frame.lines frame rest world
step_shows_end m (Waiting p rest world) = λ c fits. all_do_act ShowsItsEnd p rest world wrong_ends
    (λ s k v. goes_on (Replied s ∷ []) (resumed p k v) rest world (one_is_no_end (Replied s) (λ e. e)))
    (λ x offset s after. waits_on (EnvRead x offset s ∷ []) p rest after (one_is_no_end (EnvRead x offset s) (λ e. e)))
    (λ x offset s after. waits_on (EnvWrite x offset s ∷ []) p rest after (one_is_no_end (EnvWrite x offset s) (λ e. e)))
    (λ align bytes after. waits_on (EnvNew align bytes ∷ []) p rest after (one_is_no_end (EnvNew align bytes) (λ e. e)))
    c
step_shows_end m Over = tt

pub ends_are_shown : EndsAreShown
ends_are_shown m s made follows = all_do_made ShowsItsEnd (asks m s) made (step_shows_end m s) follows

-- wherever choices that fit lead, there is a step
abbrev AlwaysSteps : Asks → Type 0
AlwaysSteps (Does items after) = Unit {0}
AlwaysSteps (Ask fits next) = (c : Chosen) → fits c ≡ true → AlwaysSteps (next c)
AlwaysSteps Never = ⊥

shown_always : (o : Option Showing) (world : World) (next : Shown → World → Asks) → is_some o ≡ true → ((s : Shown) (after : World) → AlwaysSteps (next s after)) → AlwaysSteps (shown_as o world next)
shown_always None world next some good = cc
shown_always (Some showing) world next some good = good _ _

undef_always : (k : Option Kind) (world : World) (poison : Asks) (next : Shown → World → Asks) → AlwaysSteps poison → ((s : Shown) (after : World) → AlwaysSteps (next s after)) → AlwaysSteps (show_undef k world poison next)
undef_always None world poison next bad good = bad
undef_always (Some k) world poison next bad good = λ c fits. shown_always (chosen_by k world c) world next fits good

show_always : (k : Option Kind) (v : Value) (world : World) (poison : Asks) (next : Shown → World → Asks) → AlwaysSteps poison → ((s : Shown) (after : World) → AlwaysSteps (next s after)) → AlwaysSteps (show k v world poison next)
show_always k value.Poison world poison next bad good = bad
show_always k value.Undef world poison next bad good = undef_always k world poison next bad good
show_always k (value.Num n) world poison next bad good = good _ _
show_always k (value.Ptr block offset) world poison next bad good = good _ _
show_always k (value.Bare address) world poison next bad good = good _ _

return_always : (k : Option Kind) (v : Value) (rest : List Pending) (world : World) → AlwaysSteps (return_step k v rest world)
return_always k v [] world = show_always k v world _ _ tt (λ s after. tt)
return_always k v (p ∷ ps) world = tt

void_always : (rest : List Pending) (world : World) → AlwaysSteps (return_void rest world)
void_always [] world = tt
void_always (p ∷ ps) world = tt

entering_always : (scope : Scope) (frame : Frame) (rest : List Pending) (world : World) (o : Option Block) → AlwaysSteps (entering scope frame rest world o)
entering_always scope frame rest world (Some b) = tt
entering_always scope frame rest world None = tt

jump_always : (scope : Scope) (frame : Frame) (rest : List Pending) (world : World) (to : Name) → AlwaysSteps (jump scope frame rest world to)
jump_always scope frame rest world to = entering_always scope frame rest world (block_named to frame.function.blocks)

gone_to_always : (labels : List Name) (o : Option Name) (next : Name → Asks) → is_among labels o ≡ true → ((x : Name) → AlwaysSteps (next x)) → AlwaysSteps (gone_to o next)
gone_to_always labels (Some x) next fits good = good x
gone_to_always labels None next fits good = cc

gone_always : (labels : List Name) (c : Chosen) (next : Name → Asks) → is_label labels c ≡ true → ((x : Name) → AlwaysSteps (next x)) → AlwaysSteps (gone c next)
gone_always labels c next fits good = gone_to_always labels (label_told c) next fits good

branch_always : (v : Value) (label : ℕ → Name) (labels : List Name) (next : Name → Asks) → ((x : Name) → AlwaysSteps (next x)) → AlwaysSteps (branch v label labels next)
branch_always (value.Num n) label labels next h = h (label n)
branch_always value.Undef label labels next h = λ c fits. gone_always labels c next fits h
branch_always (value.Ptr block offset) label labels next h = λ c fits. gone_always labels c next fits h
branch_always (value.Bare address) label labels next h = λ c fits. gone_always labels c next fits h
branch_always value.Poison label labels next h = tt

term_always : (scope : Scope) (t : Term) (frame : Frame) (rest : List Pending) (world : World) → AlwaysSteps (term_step scope t frame rest world)
term_always scope (Ret o) frame rest world = return_always (kind_of o.ty) (operand_value scope (read frame.registers) o) rest (without_own frame.own world)
term_always scope RetVoid frame rest world = void_always rest (without_own frame.own world)
term_always scope (Br label) frame rest world = jump_always scope frame rest world label
term_always scope (CondBr c) frame rest world = branch_always (operand_value scope (read frame.registers) c.condition) _ _ (jump scope frame rest world) (jump_always scope frame rest world)
term_always scope (Switch s) frame rest world = branch_always (operand_value scope (read frame.registers) s.value) _ _ (jump scope frame rest world) (jump_always scope frame rest world)
term_always scope Unreachable frame rest world = tt

set_always : (k : Option Kind) (x : Name) (o : Outcome) (frame : Frame) (rest : List Pending) (world : World) → AlwaysSteps (set_to k x o frame rest world)
set_always k x (Gives v) frame rest world = tt
set_always k x Trap frame rest world = tt

store_always : (o : Option Memory) (frame : Frame) (rest : List Pending) (world : World) → AlwaysSteps (with_memory o frame rest world)
store_always (Some memory) frame rest world = tt
store_always None frame rest world = tt

all_always : (vs : List (Option Kind × Value)) (world : World) (next : List Shown → World → Asks) → ((ss : List Shown) (after : World) → AlwaysSteps (next ss after)) → AlwaysSteps (show_all vs world next)
all_always [] world next good = good [] world
all_always (v ∷ vs) world next good = show_always v.0 v.1 world wrong _ tt (λ s after. all_always vs after _ (λ ss last. good (s ∷ ss) last))

begun_always : (g : Function) (bs : List Block) (vs : List (Option Kind × Value)) (rest : List Pending) (world : World) → AlwaysSteps (begun g bs vs rest world)
begun_always g [] vs rest world = tt
begun_always g (b ∷ bs) vs rest world = tt

called_always : (o : Option Function) (declared : Bool) (x : Name) (vs : List (Option Kind × Value)) (p : Pending) (rest : List Pending) (world : World) → AlwaysSteps (called o declared x vs p rest world)
called_always (Some g) declared x vs p rest world = begun_always g g.blocks vs (p ∷ rest) world
called_always None true x vs p rest world = all_always vs world _ (λ ss after. tt)
called_always None false x vs p rest world = tt

call_always : (m : Module) (c : Call) (frame : Frame) (rest : List Pending) (world : World) → AlwaysSteps (call_step m c frame rest world)
call_always m c frame rest world =
    called_always (function_named c.callee m.functions) (is_declared c.callee m.declarations) c.callee (arguments_of (scope_of m) frame.registers c.arguments) (waiting_for c frame) rest world

frame_always : (m : Module) (lines : List Instr) (frame : Frame) (rest : List Pending) (world : World) → AlwaysSteps (frame_step m lines frame rest world)
frame_always m (line.Calm b ∷ left) frame rest world =
    set_always (kind_of (type_of b.right)) b.name (outcome (scope_of m) (read frame.registers) world.memory b.right) (record frame { lines = left }) rest world
frame_always m (line.Alloca a ∷ left) frame rest world = tt
frame_always m (line.Store s ∷ left) frame rest world = store_always (stored_by (scope_of m) s frame.registers world.memory) (record frame { lines = left }) rest world
frame_always m (line.Call c ∷ left) frame rest world = call_always m c (record frame { lines = left }) rest world
frame_always m [] frame rest world = term_always (scope_of m) frame.term frame rest world

part_always : (name : Option ℕ) (block : ℕ) (offset : ℤ) (place : ℕ) (world : World) (next : ShownByte → World → Asks) → ((s : ShownByte) (after : World) → AlwaysSteps (next s after))
    → AlwaysSteps (show_part name block offset place world next)
part_always (Some x) block offset place world next good = good _ _
part_always None block offset place world next good = good _ _

picked_always : (c : Chosen) (world : World) (next : ShownByte → World → Asks) → is_byte_pick world c ≡ true → ((s : ShownByte) (after : World) → AlwaysSteps (next s after)) → AlwaysSteps (picked_byte c world next)
picked_always (Told (choice.PickByte s)) world next fits good = good _ _
picked_always (FreshByte bound offset place) world next fits good = good _ _
picked_always (Told c) world next fits good = cc

byte_always : (b : Byte) (world : World) (next : ShownByte → World → Asks) → ((s : ShownByte) (after : World) → AlwaysSteps (next s after)) → AlwaysSteps (show_byte b world next)
byte_always byte.Poison world next good = tt
byte_always (byte.Num n) world next good = good _ _
byte_always (byte.Frag block offset place) world next good = part_always (name_of world.names block) block offset place world next good
byte_always byte.Undef world next good = λ c fits. picked_always c world next fits good

read_always : (b : Option Byte) (next : Byte → Asks) → is_some b ≡ true → ((b : Byte) → AlwaysSteps (next b)) → AlwaysSteps (read_byte b next)
read_always None next some good = cc
read_always (Some b) next some good = good b

reply_always : (s : Option Shown) (p : Pending) (ps : List Pending) (world : World) → AlwaysSteps (reply s p ps world)
reply_always None p ps world = tt
reply_always (Some s) p ps world = tt

act_always : (c : Chosen) (p : Pending) (ps : List Pending) (world : World) → is_act p world c ≡ true → AlwaysSteps (act c p ps world)
act_always (Told (choice.Reply s)) p ps world fits = reply_always s p ps world
act_always (Told choice.Wrong) p ps world fits = tt
act_always (Told (choice.Read x offset)) p ps world fits = read_always (byte_reached world x offset) _ fits (λ b. byte_always b world _ (λ s after. tt))
act_always (Told (choice.Write x offset new)) p ps world fits = tt
act_always (Told (choice.New align bytes)) p ps world fits = tt
act_always c p ps world fits = cc

step_always : (m : Module) (s : State) → s ≢ Over → AlwaysSteps (asks m s)
step_always m (Running frame rest world) h = frame_always m frame.lines frame rest world
step_always m (Waiting p rest world) h = λ c fits. act_always c p rest world fits
step_always m Over h = absurd (h refl)

always_answers : (tree : Asks) (told : List Choice) → AlwaysSteps tree → answer tree told ≡ NoStep → ⊥
always_answers (Does items after) told always none = cc
always_answers (Ask fits next) [] always none = cc
always_answers (Ask fits next) (c ∷ told) always none = by_fit (fits (Told c)) refl none (λ is e. always_answers (next (Told c)) told (always (Told c) is) e)
  where
    by_fit : (fit : Bool) → fits (Told c) ≡ fit → cond fit (answer (next (Told c)) told) (Lacks told) ≡ NoStep → (fits (Told c) ≡ true → answer (next (Told c)) told ≡ NoStep → ⊥) → ⊥
    by_fit true is e more = more is e
    by_fit false is e more = cc
always_answers Never told always none = always

pub runs_answer : RunsAnswer
runs_answer m s told h = always_answers (asks m s) told (step_always m s h)
