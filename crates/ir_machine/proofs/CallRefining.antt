-- Which of the modules with calls refine which.
use Rattle.std.proofs.Common.{◌≡◌, ◌⊎◌, inl, inr, ℕ, zero, suc, Bool, true, false, List, [], ◌∷◌, ◌++◌, Option, None, Some, MatchOption, refl, sym, ap, ◌∙◌, subst, arith}
use Rattle.std.specs.Prelude.{ℤ, pos, negsuc, cond, option_and_then}
use Rattle.ir_core.specs.declared.functions.Block.{Block}
use Rattle.ir_core.specs.declared.functions.Function.{Function}
use Rattle.ir_core.specs.declared.functions.Instr.{Instr}
use Rattle.ir_core.specs.declared.operands.Atom.{Atom}
use Rattle.ir_core.specs.Modules.{plain_function}
use Rattle.ir_core.specs.declared.values.Kind.TheVariants as kind
use Rattle.ir_core.specs.declared.values.Value.TheVariants as value
use Rattle.ir_types.specs.declared.ty.Ty.TheVariants.{Int, Void}
use Rattle.ir_types.specs.Same.{same_name}
use Rattle.ir_core.specs.declared.functions.Term.TheVariants.{RetVoid}
use Rattle.ir_core.specs.declared.modules.Module.{Module}
use Rattle.ir_core.specs.declared.values.Byte.{Byte}
use Rattle.ir_core.specs.declared.values.Byte.TheVariants as byte
use Rattle.ir_types.specs.declared.names.Name.{Name}
use Rattle.ir_types.specs.declared.names.Name.TheVariants.{Number}
use Rattle.ir_types.specs.declared.ty.Ty.TheViews.{outs-Ptr, outs-Void}
use Rattle.ir_types.proofs.Monotone as layout
use Rattle.ir_values.proofs.ConstantWalks.{of_number, of_undef, worth_number, worth_undef}
use Rattle.block_memory.specs.declared.items.Choice.{Choice}
use Rattle.block_memory.specs.declared.items.Choice.TheVariants as choice
use Rattle.block_memory.specs.declared.items.Choice.TheVariants.{Pick, Read, Reply}
use Rattle.block_memory.specs.declared.items.Shown.{Shown}
use Rattle.block_memory.specs.declared.items.Shown.TheVariants as shown
use Rattle.block_memory.specs.declared.items.ShownByte.{ShownByte}
use Rattle.block_memory.specs.declared.items.ShownByte.TheVariants as part
use Rattle.block_memory.specs.Names.{Names, name_of}
use Rattle.ir_machine.specs.declared.inputs.Input.{Input}
use Rattle.ir_machine.specs.declared.inputs.InputPath.{InputPath}
use Rattle.ir_machine.specs.declared.items.Item.{Item}
use Rattle.ir_machine.specs.declared.items.Item.TheVariants.{Called, EnvNew, EnvRead, EnvWrite, Replied, Turn, Returned, Wrong}
use Rattle.ir_machine.specs.CallExamples.{argument, calling, defined, run_of}
use Rattle.ir_machine.specs.CallLaws.{CallsAreToldApart, UndefIsAnyArgument, calling_out, doing, early, late, lending, name, outside, quiet, read_later}
use Rattle.ir_machine.specs.Examples.{number, undef}
use Rattle.ir_machine.specs.FlowExamples.{block}
use Rattle.ir_machine.specs.Machine.{Asks, Does, Ask, Never, Chosen, Told, FreshByte, Made, Follows, act, asks, at_block, byte_reached, is_act, is_byte_pick, is_reply, picked_byte, read_byte, reply, show_byte, show_part, ShowsFrom}
use Rattle.ir_machine.specs.Refinement.{MayShow, MayShowFrom, Refines}
use Rattle.ir_machine.specs.Registers.{Registers, no_registers, set}
use Rattle.ir_machine.specs.SlotLaws.{slot, storing}
use Rattle.ir_machine.specs.Starting.{given, misfit, start, started, started_unless, world_at_start}
use Rattle.ir_machine.specs.State.{Frame, Pending, World, State, Running, Waiting, Over, no_scope, no_world}
use Rattle.ir_machine.proofs.Ending.{firsts_are_shown}
use Rattle.ir_machine.proofs.Following.{all_do_calmly, over_may_not, Passes, past_item, past_none, past_one, told_runs_are_shown}
use Rattle.ir_machine.proofs.Trees.{AllDo}
use Rattle.ir_machine.proofs.Calls.{ended_slots_are_not_reached}

-- the first thing that the tree shows, whatever is chosen, is this
abbrev pub Begins : Item → Asks → Type 0
Begins x (Does [] after) = ⊥
Begins x (Does (y ∷ ys) after) = y ≡ x
Begins x (Ask fits next) = ⊥
Begins x Never = ⊥

begins_so : (tree : Asks) (x first : Item) (rest more : List Item) (made : Made) → Begins x tree → Follows tree made → first ∷ rest ≡ made.items ++ more → first ≡ x
begins_so (Does [] after) x first rest more made b f e = absurd b
begins_so (Does (y ∷ ys) after) x first rest more made b f e =
    let whole : first ∷ rest ≡ y ∷ (ys ++ more) = e ∙ ap (λ (o : Made). o.items ++ more) f in
    cc
begins_so (Ask fits next) x first rest more made b f e = absurd b
begins_so Never x first rest more made b f e = absurd b

begins : (m : Module) (s : State) (x first : Item) (rest : List Item) (n : ℕ) → Begins x (asks m s) → ShowsFrom m n s (first ∷ rest) → first ≡ x
begins m s x first rest zero b h = absurd cc
begins m s x first rest (suc n) b (inl e) = absurd cc
begins m s x first rest (suc n) b (inr h) = begins_so (asks m s) x first rest h.1 h.0 b h.2 h.3

may_from : (m : Module) (s : State) (x : Name) (input : Input) (items : List Item) → start m x input ≡ Some s → MayShow m x input items → MayShowFrom m s items
may_from m s x input items starts h = subst (λ (o : Option State). MatchOption o ⊥ (λ t. MayShowFrom m t items)) starts h

-- where the target shows what begins otherwise than all that the source shows
told_apart : (source target : Module) (s : State) (x y : Item) (ys : List Item) (steps : ℕ) (choices : List Choice) (after : State)
    → start source (Number 0) (given []) ≡ Some s → Begins x (asks source s) → run_of target steps choices ≡ Some (y ∷ ys, after)
    → (x ≡ y → ⊥) → (x ≡ Wrong → ⊥) → Refines source target → ⊥
told_apart source target s x y ys steps choices after starts b ran other calm h =
    let may : MayShowFrom source s (y ∷ ys) = may_from source s (Number 0) (given []) (y ∷ ys) starts
    (h (Number 0) (given []) steps (y ∷ ys) (told_runs_are_shown target steps choices (y ∷ ys) after ran)) in
    by_first (firsts_are_shown source s y ys may)
  where
    by_first : (n : ℕ) × (first : Item) × (rest : List Item) × ShowsFrom source n s (first ∷ rest) × ((first ≡ y) ⊎ (first ≡ Wrong)) → ⊥
    by_first (n, first, rest, shows, inl e) = other (sym (begins source s x first rest n b shows) ∙ e)
    by_first (n, first, rest, shows, inr e) = calm (sym (begins source s x first rest n b shows) ∙ e)

-- where a module starts that starts without arguments
abbrev at_start : Option State → State
at_start None = Over
at_start (Some s) = s

abbrev start_of : Module → State
start_of m = at_start (start m (Number 0) (given []))

abbrev calls : ℕ → ℕ → Item
calls callee n = Called (Number callee) (shown.Num n ∷ [])

other_numbers : (callee m n : ℕ) → (m ≡ n → ⊥) → calls callee m ≡ calls callee n → ⊥
other_numbers callee m n other e = other cc

other_callees : (n a b : ℕ) → (a ≡ b → ⊥) → calls a n ≡ calls b n → ⊥
other_callees n a b other e = other cc

-- a call that waits for nothing, and then returns nothing
abbrev last : Function → Frame
last f = record { function = f; block = Number 1; lines = []; term = RetVoid; registers = no_registers; own = [] }

abbrev pending : Function → Pending
pending f = record { into = None; kind = None; frame = last f }

-- where a run stands that has called the outside
data Phase : Type 0 where
  Waits : World → Phase
  Goes : World → Phase
  Ends : Phase

abbrev at_phase : Function → Phase → State
at_phase f (Waits world) = Waiting (pending f) [] world
at_phase f (Goes world) = Running (last f) [] world
at_phase f Ends = Over

-- a step is one also where the function is another
module _ (f g : Function) where
  abbrev Likewise : Asks → Asks → Made → Type 0
  Likewise tree like made = (next : Phase) × (made.after ≡ at_phase f next) × Follows like (record made { after = at_phase g next })

  abbrev AreAlike : Asks → Asks → Type 0
  AreAlike tree like = (made : Made) → Follows tree made → Likewise tree like made

  does_alike : (items : List Item) (next : Phase) → AreAlike (Does items (at_phase f next)) (Does items (at_phase g next))
  does_alike items next made e = (next, ap (λ (o : Made). o.after) e, ap (λ (o : Made). record o { after = at_phase g next }) e)

  ask_alike : (fits : Chosen → Bool) (next like : Chosen → Asks) → ((c : Chosen) → fits c ≡ true → AreAlike (next c) (like c)) → AreAlike (Ask fits next) (Ask fits like)
  ask_alike fits next like h made (c, more, is, follows, e) =
      let rest : Likewise (next c) (like c) more = h c is more follows in
      (rest.0, ap (λ (o : Made). o.after) e ∙ rest.1, (c, record more { after = at_phase g rest.0 }, is, rest.2, ap (λ (o : Made). record o { after = at_phase g rest.0 }) e))

  byte_alike : (b : Byte) (world : World) (item : ShownByte → Item)
      → AreAlike (show_byte b world (λ s after. Does (item s ∷ []) (Waiting (pending f) [] after))) (show_byte b world (λ s after. Does (item s ∷ []) (Waiting (pending g) [] after)))
  byte_alike byte.Poison world item = does_alike (Wrong ∷ []) Ends
  byte_alike (byte.Num n) world item = does_alike _ (Waits world)
  byte_alike (byte.Frag block offset place) world item = by_name (name_of world.names block)
    where
      by_name : (x : Option ℕ) → AreAlike (show_part x block offset place world (λ s after. Does (item s ∷ []) (Waiting (pending f) [] after)))
          (show_part x block offset place world (λ s after. Does (item s ∷ []) (Waiting (pending g) [] after)))
      by_name (Some x) = does_alike _ (Waits world)
      by_name None = does_alike _ (Waits _)
  byte_alike byte.Undef world item = ask_alike (is_byte_pick world)
      (λ c. picked_byte c world (λ s after. Does (item s ∷ []) (Waiting (pending f) [] after)))
      (λ c. picked_byte c world (λ s after. Does (item s ∷ []) (Waiting (pending g) [] after))) (λ c is. by_choice c)
    where
      by_choice : (c : Chosen) → AreAlike (picked_byte c world (λ s after. Does (item s ∷ []) (Waiting (pending f) [] after)))
          (picked_byte c world (λ s after. Does (item s ∷ []) (Waiting (pending g) [] after)))
      by_choice (Told (choice.PickByte s)) = does_alike _ (Waits world)
      by_choice (FreshByte bound offset place) = does_alike _ (Waits _)
      by_choice (Told c) = λ made follows. absurd follows

  read_alike : (x : ℕ) (offset : ℤ) (b : Option Byte) (world : World)
      → AreAlike (read_byte b (λ b. show_byte b world (λ s after. Does (EnvRead x offset s ∷ []) (Waiting (pending f) [] after))))
      (read_byte b (λ b. show_byte b world (λ s after. Does (EnvRead x offset s ∷ []) (Waiting (pending g) [] after))))
  read_alike x offset None world = λ made follows. absurd follows
  read_alike x offset (Some b) world = byte_alike b world (EnvRead x offset)

  act_alike : (c : Chosen) (world : World) → AreAlike (act c (pending f) [] world) (act c (pending g) [] world)
  act_alike (Told (choice.Reply None)) world = does_alike _ (Goes world)
  act_alike (Told (choice.Reply (Some s))) world = does_alike _ (Goes world)
  act_alike (Told choice.Wrong) world = does_alike _ Ends
  act_alike (Told (choice.Read x offset)) world = read_alike x offset (byte_reached world x offset) world
  act_alike (Told (choice.Write x offset new)) world = does_alike _ (Waits _)
  act_alike (Told (choice.New align bytes)) world = does_alike _ (Waits _)
  act_alike c world = λ made follows. absurd follows

  -- what fits doesn't ask for the function
  fits_alike : (c : Chosen) (world : World) → is_act (pending f) world c ≡ true → is_act (pending g) world c ≡ true
  fits_alike (Told choice.Wrong) world fits = fits
  fits_alike (Told (choice.Reply s)) world fits = fits
  fits_alike (Told (choice.Read x offset)) world fits = fits
  fits_alike (Told (choice.Write x offset new)) world fits = fits
  fits_alike (Told (choice.New align bytes)) world fits = fits
  fits_alike c world fits = absurd cc

  step_alike : (m n : Module) (phase : Phase) → AreAlike (asks m (at_phase f phase)) (asks n (at_phase g phase))
  step_alike m n (Waits world) made (c, more, is, follows, e) =
      let rest : Likewise (act c (pending f) [] world) (act c (pending g) [] world) more = act_alike c world more follows in (
        rest.0,
        ap (λ (o : Made). o.after) e ∙ rest.1,
        (c, record more { after = at_phase g rest.0 }, fits_alike c world is, rest.2, ap (λ (o : Made). record o { after = at_phase g rest.0 }) e),
      )
  step_alike m n (Goes world) made follows = does_alike (Turn ∷ Returned None ∷ []) Ends made follows
  step_alike m n Ends made follows = absurd follows

  runs_alike : (m n : Module) (k : ℕ) (phase : Phase) (items : List Item) → ShowsFrom m k (at_phase f phase) items → ShowsFrom n k (at_phase g phase) items
  runs_alike m n zero phase items h = h
  runs_alike m n (suc k) phase items (inl e) = inl e
  runs_alike m n (suc k) phase items (inr h) =
      let step : Likewise (asks m (at_phase f phase)) (asks n (at_phase g phase)) h.0 = step_alike m n phase h.0 h.2 in
      inr (record h.0 { after = at_phase g step.0 }, h.1, step.2, h.3, runs_alike m n k step.0 h.1 (subst (λ (s : State). ShowsFrom m k s h.1) step.1 h.4))

-- ---- an argument of undef

abbrev undef_out : Module
undef_out = calling_out 20 undef

abbrev seven_out : Module
seven_out = calling_out 20 (number 7)

-- the block of a function that calls that callee with that
abbrev calling_block : ℕ → Atom Name → Block
calling_block callee v = record (block 1 [] RetVoid) { body = calling None Void callee (argument (Int 32) v ∷ []) ∷ [] }

abbrev caller : ℕ → Atom Name → Function
caller callee v = plain_function Void (Number 0) [] (calling_block callee v ∷ [])

abbrev calling_state : Atom Name → World → State
calling_state v world = Running (at_block (caller 20 v) (calling_block 20 v) no_registers []) [] world

seven_calls : (world : World) → asks seven_out (calling_state (number 7) world) ≡ Does (calls 20 7 ∷ []) (at_phase (caller 20 (number 7)) (Waits world))
seven_calls world = simp (outs-Void, of_number, worth_number) refl

undef_calls : (world : World)
    → Follows (asks undef_out (calling_state undef world)) (record { told = Told (Pick (shown.Num 7)) ∷ []; items = calls 20 7 ∷ []; after = at_phase (caller 20 undef) (Waits world) })
undef_calls world = simp (outs-Void, of_undef, worth_undef) (Told (Pick (shown.Num 7)), record { told = []; items = calls 20 7 ∷ []; after = at_phase (caller 20 undef) (Waits world) }, refl, refl, refl)

calls_alike : (world : World) (n : ℕ) (items : List Item) → ShowsFrom seven_out n (calling_state (number 7) world) items → MayShowFrom undef_out (calling_state undef world) items
calls_alike world zero items h = inl (zero, h)
calls_alike world (suc n) items (inl e) = inl (zero, e)
calls_alike world (suc n) items (inr h) =
    let made : h.0 ≡ record { told = []; items = calls 20 7 ∷ []; after = at_phase (caller 20 (number 7)) (Waits world) } = subst (λ (tree : Asks). Follows tree h.0) (seven_calls world) h.2 in
    let rest : ShowsFrom seven_out n (at_phase (caller 20 (number 7)) (Waits world)) h.1 = subst (λ (o : Made). ShowsFrom seven_out n o.after h.1) made h.4 in
    inl (
      suc n,
      inr (
        record { told = Told (Pick (shown.Num 7)) ∷ []; items = calls 20 7 ∷ []; after = at_phase (caller 20 undef) (Waits world) },
        h.1,
        undef_calls world,
        h.3 ∙ ap (λ (o : Made). o.items ++ h.1) made,
        runs_alike (caller 20 (number 7)) (caller 20 undef) seven_out undef_out n (Waits world) h.1 rest,
      ),
    )

pub undef_is_any_argument : UndefIsAnyArgument
undef_is_any_argument x input n items = by_name (same_name (Number 0) x)
  where
    at : World
    at = world_at_start no_scope input

    by_misfit : (o : Option InputPath) → MatchOption (started_unless o at (caller 20 (number 7)) input.args) ⊥ (λ s. ShowsFrom seven_out n s items)
        → MatchOption (started_unless o at (caller 20 undef) input.args) ⊥ (λ s. MayShowFrom undef_out s items)
    by_misfit (Some place) shows = absurd shows
    by_misfit None shows = calls_alike at n items shows

    by_name : (same : Bool) → MatchOption (option_and_then (λ f. started no_scope f input) (cond same (Some (caller 20 (number 7))) None)) ⊥ (λ s. ShowsFrom seven_out n s items)
        → MatchOption (option_and_then (λ f. started no_scope f input) (cond same (Some (caller 20 undef)) None)) ⊥ (λ s. MayShowFrom undef_out s items)
    by_name true shows = by_misfit (misfit no_scope [] input) shows
    by_name false shows = absurd shows

-- ---- calls told apart

arguments_apart : Refines (calling_out 20 (number 1)) (calling_out 20 (number 2)) → ⊥
arguments_apart = told_apart (calling_out 20 (number 1)) (calling_out 20 (number 2)) (start_of (calling_out 20 (number 1))) (calls 20 1) (calls 20 2) [] 1 [] (at_phase (caller 20 (number 2)) (Waits no_world))
    refl (simp (of_number, worth_number) refl) (simp (outs-Void, of_number, worth_number) refl) (other_numbers 20 1 2 (λ e. omega arith)) (λ e. cc)

undef_apart : Refines (calling_out 20 (number 7)) (calling_out 20 undef) → ⊥
undef_apart = told_apart (calling_out 20 (number 7)) (calling_out 20 undef) (start_of (calling_out 20 (number 7))) (calls 20 7) (calls 20 8) [] 1 (Pick (shown.Num 8) ∷ []) (at_phase (caller 20 undef) (Waits no_world))
    refl (simp (of_number, worth_number) refl) (simp (outs-Void, of_undef, worth_undef) refl) (other_numbers 20 7 8 (λ e. omega arith)) (λ e. cc)

callees_apart : Refines (calling_out 20 (number 1)) (calling_out 21 (number 1)) → ⊥
callees_apart = told_apart (calling_out 20 (number 1)) (calling_out 21 (number 1)) (start_of (calling_out 20 (number 1))) (calls 20 1) (calls 21 1) [] 1 [] (at_phase (caller 21 (number 1)) (Waits no_world))
    refl (simp (of_number, worth_number) refl) (simp (outs-Void, of_number, worth_number) refl) (other_callees 1 20 21 (λ e. omega arith)) (λ e. cc)

left_out : Refines (calling_out 20 (number 1)) quiet → ⊥
left_out = told_apart (calling_out 20 (number 1)) quiet (start_of (calling_out 20 (number 1))) (calls 20 1) Turn (Returned None ∷ []) 1 [] Over
    refl (simp (of_number, worth_number) refl) refl (λ e. cc) (λ e. cc)

added : Refines quiet (calling_out 20 (number 1)) → ⊥
added = told_apart quiet (calling_out 20 (number 1)) (start_of quiet) Turn (calls 20 1) [] 1 [] (at_phase (caller 20 (number 1)) (Waits no_world)) refl refl (simp (outs-Void, of_number, worth_number) refl) (λ e. cc) (λ e. cc)

-- ---- a slot that ends late

-- the block of the slot, known by these names
abbrev slot_world : Bool → Names → World
slot_world live names = record { memory = record { align = 1; live = live; bytes = byte.Num 7 ∷ [] } ∷ []; names = names }

abbrev slot_lines : List Instr
slot_lines = slot 2 (Int 8) ∷ storing (Int 8) 7 2 ∷ lending ∷ []

-- the callee of the early one, behind its call, and its caller, before its other call
abbrev early_callee : Frame
early_callee = record {
  function = doing slot_lines;
  block = Number 1;
  lines = [];
  term = RetVoid;
  registers = set no_registers (Number 2) (Some kind.Ptr) (value.Ptr 0 (pos 0));
  own = 0 ∷ [];
}

abbrev early_caller : List Instr → Frame
early_caller lines = record {
  function = defined 0 Void [] (calling None Void 10 [] ∷ calling None Void 20 [] ∷ []) RetVoid;
  block = Number 1;
  lines = lines;
  term = RetVoid;
  registers = no_registers;
  own = [];
}

abbrev waits_for : Frame → Pending
waits_for frame = record { into = None; kind = None; frame = frame }

abbrev early_below : Pending
early_below = waits_for (early_caller (calling None Void 20 [] ∷ []))

abbrev entered : List Instr → Registers → List ℕ → World → State
entered lines registers own world = Running (record early_callee { lines = lines; registers = registers; own = own }) (early_below ∷ []) world

abbrev known : Names
known = Some 0 ∷ []

-- while it is live the slot is no poison
reached_clean : (x : ℕ) (offset : ℤ) → byte_reached (slot_world true known) x offset ≡ Some byte.Poison → ⊥
reached_clean zero (pos zero) e = cc
reached_clean zero (pos (suc o)) e = cc
reached_clean zero (negsuc o) e = cc
reached_clean (suc x) offset e = cc

reached_not : (x : ℕ) (offset : ℤ) (b : Byte) → byte_reached (slot_world false known) x offset ≡ Some b → ⊥
reached_not zero (pos o) b e = cc
reached_not zero (negsuc o) b e = cc
reached_not (suc x) offset b e = cc

answered_first : AllDo (Passes (Replied None) (entered [] early_callee.registers (0 ∷ []) (slot_world true known)))
    (asks early (Waiting (waits_for early_callee) (early_below ∷ []) (slot_world true known)))
answered_first = all_do_calmly (Passes (Replied None) (entered [] early_callee.registers (0 ∷ []) (slot_world true known))) (waits_for early_callee) (early_below ∷ []) (slot_world true known)
    refl reached_clean replied
    (λ x offset b is s after. (EnvRead x offset s, refl, (λ e. cc), (λ e. absurd cc)))
    (λ x offset s after. (EnvWrite x offset s, refl, (λ e. cc), (λ e. absurd cc)))
    (λ align bytes after. (EnvNew align bytes, refl, (λ e. cc), (λ e. absurd cc))) early
  where
    replied : (s : Option Shown) → is_reply None (slot_world true known) s ≡ true
        → AllDo (Passes (Replied None) (entered [] early_callee.registers (0 ∷ []) (slot_world true known))) (reply s (waits_for early_callee) (early_below ∷ []) (slot_world true known))
    replied None fits = (Replied None, refl, (λ e. cc), (λ e. refl))
    replied (Some s) fits = absurd cc

-- the read of the slot
abbrev slot_read : Item
slot_read = EnvRead 0 (pos 0) (part.Num 7)

read_never : AllDo (Passes slot_read Over) (asks early (Waiting (waits_for (early_caller [])) [] (slot_world false known)))
read_never = all_do_calmly (Passes slot_read Over) (waits_for (early_caller [])) [] (slot_world false known)
    refl (λ x offset e. reached_not x offset byte.Poison e) replied
    (λ x offset b is s after. absurd (reached_not x offset b is))
    (λ x offset s after. (EnvWrite x offset s, refl, (λ e. cc), (λ e. absurd cc)))
    (λ align bytes after. (EnvNew align bytes, refl, (λ e. cc), (λ e. absurd cc))) early
  where
    replied : (s : Option Shown) → is_reply None (slot_world false known) s ≡ true
        → AllDo (Passes slot_read Over) (reply s (waits_for (early_caller [])) [] (slot_world false known))
    replied None fits = (Replied None, refl, (λ e. cc), (λ e. absurd cc))
    replied (Some s) fits = absurd cc

abbrev undef_slot : World
undef_slot = record { memory = record { align = 1; live = true; bytes = byte.Undef ∷ [] } ∷ []; names = [] }

late_slot : Refines early late → ⊥
late_slot h =
    let shows : MayShowFrom early (start_of early) read_later = may_from early (start_of early) (Number 0) (given []) read_later refl
    (h (Number 0) (given []) 10 read_later (told_runs_are_shown late 10 (Reply None ∷ Read 0 (pos 0) ∷ Reply None ∷ []) read_later Over ended_slots_are_not_reached.of_the_caller)) in
    let enters = past_one early (start_of early) (entered slot_lines no_registers [] no_world) Turn _ (simp (outs-Void) refl) (λ e. cc) shows in
    let makes = past_none early (entered slot_lines no_registers [] no_world) (entered (storing (Int 8) 7 2 ∷ lending ∷ []) early_callee.registers (0 ∷ []) undef_slot) _ _
    (simp (layout.at_int) refl) enters in
    let stores = past_none early (entered (storing (Int 8) 7 2 ∷ lending ∷ []) early_callee.registers (0 ∷ []) undef_slot)
    (entered (lending ∷ []) early_callee.registers (0 ∷ []) (slot_world true [])) _ _ (simp (outs-Ptr, of_number, worth_number, layout.at_int) refl) makes in
    let calls_first = past_one early (entered (lending ∷ []) early_callee.registers (0 ∷ []) (slot_world true [])) (Waiting (waits_for early_callee) (early_below ∷ []) (slot_world true known))
    (outside (name 0 ∷ [])) _ (simp (outs-Ptr, outs-Void) refl) (λ e. cc) stores in
    let goes_on = past_item early (Waiting (waits_for early_callee) (early_below ∷ []) (slot_world true known)) (entered [] early_callee.registers (0 ∷ []) (slot_world true known)) (Replied None) _
    answered_first calls_first in
    let returns = past_one early (entered [] early_callee.registers (0 ∷ []) (slot_world true known)) (Running (early_caller (calling None Void 20 [] ∷ [])) [] (slot_world false known)) Turn _
    refl (λ e. cc) goes_on in
    let calls_again = past_one early (Running (early_caller (calling None Void 20 [] ∷ [])) [] (slot_world false known)) (Waiting (waits_for (early_caller [])) [] (slot_world false known)) (outside []) _
    (simp (outs-Void) refl) (λ e. cc) returns in
    over_may_not early (Replied None) (Turn ∷ Returned None ∷ []) (past_item early (Waiting (waits_for (early_caller [])) [] (slot_world false known)) Over slot_read _ read_never calls_again)

pub calls_are_told_apart : CallsAreToldApart
calls_are_told_apart = record {
  arguments = arguments_apart;
  undef_for_a_number = undef_apart;
  callees = callees_apart;
  left_out = left_out;
  added = added;
  late_slot = late_slot;
}
