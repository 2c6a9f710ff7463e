-- In a module with shape labels, the entries of phis and callees are found, in each state that a run comes to.
use Rattle.std.proofs.Common.{◌≡◌, ◌⊎◌, inl, inr, ℕ, zero, suc, Bool, true, false, List, [], ◌∷◌, ◌++◌, map, Option, None, Some, refl, sym, ap, ◌∙◌, subst, arith, append_assoc}
use Rattle.std.specs.Prelude.{find, option_and_then, IsSome}
use Rattle.std.specs.List.{AllByRecursion, Contains, filter, flat_map}
use Rattle.std.proofs.lemmas.List.Elements.{Contains-append_left, Contains-append_right, Contains-append_cases}
use Rattle.std.proofs.lemmas.List.Sorted.{Contains-permutation}
use Rattle.ir_core.specs.declared.functions.Block.{Block}
use Rattle.ir_core.specs.declared.functions.Call.{Call}
use Rattle.ir_core.specs.declared.functions.Entry.{Entry}
use Rattle.ir_core.specs.declared.functions.Function.{Function}
use Rattle.ir_core.specs.declared.functions.Instr.{Instr}
use Rattle.ir_core.specs.declared.functions.Instr.TheVariants as line
use Rattle.ir_core.specs.declared.modules.Declaration.{Declaration}
use Rattle.ir_core.specs.declared.modules.Module.{Module}
use Rattle.ir_core.specs.declared.functions.Phi.{Phi}
use Rattle.ir_core.specs.declared.functions.Term.{Term}
use Rattle.ir_core.specs.declared.functions.Term.TheVariants.{Ret, RetVoid, Br, CondBr, Switch, Unreachable}
use Rattle.ir_types.specs.declared.names.Name.{Name}
use Rattle.ir_core.specs.declared.values.Kind.{Kind}
use Rattle.ir_core.specs.declared.values.Value.{Value}
use Rattle.ir_values.specs.Constants.{Scope}
use Rattle.block_memory.specs.declared.items.Shown.{Shown}
use Rattle.ir_machine.specs.declared.inputs.InputPath.{InputPath}
use Rattle.ir_core.specs.Expressions.{type_of}
use Rattle.ir_core.specs.Functions.{edges_into, successors_of}
use Rattle.ir_types.specs.Same.{same_name}
use Rattle.ir_core.specs.Types.{kind_of}
use Rattle.ir_core.specs.Typing.{Signature, declared_signature, defined_signature}
use Rattle.ir_core.specs.WellFormed.{FitsEdges, HasBlockShape, HasFunctionShape, HasShape, IsLine}
use Rattle.ir_types.specs.NameLaws.{same_name_refl, same_name_true}
use Rattle.block_memory.specs.Memory.{Memory}
use Rattle.ir_machine.specs.declared.inputs.Input.{Input}
use Rattle.ir_machine.specs.declared.items.Item.{Item}
use Rattle.ir_machine.specs.Laws.{Leads}
use Rattle.ir_machine.specs.Machine.{asks, at_block, call_step, entry_from, frame_step, function_named, is_declared, jump, passed, return_step, return_void, stored_by, term_step, with_memory, without_own}
use Rattle.ir_machine.specs.Starting.{at_entry, handed, misfit, started, started_unless, world_at_start}
use Rattle.ir_machine.specs.Reached.{AllFindNamed, CanBeCalled, FindsCallee, FindsNamed, IsFound, NothingIsLost, WaitingFindNamed}
use Rattle.ir_machine.specs.Registers.{no_registers, operand_value, outcome, read}
use Rattle.ir_machine.specs.State.{Frame, Pending, World, scope_of, State, Running, Waiting, Over}
use Rattle.ir_machine.proofs.Trees.{AllDo, all_do_act, all_do_branch, all_do_call, all_do_jump, all_do_made, all_do_set_to, all_do_show}

-- ---- lists

pub all_at : {A : Type 0} (P : A → Type 0) (xs : List A) (x : A) → AllByRecursion P xs → Contains xs x → P x
all_at P [] x all there = absurd (omega (arith, there.1))
all_at P (y ∷ ys) x all (zero, inside, is) = subst P is all.0
all_at P (y ∷ ys) x all (suc k, inside, is) = all_at P ys x all.1 (k, omega (arith, inside), is)

is_in_map : {A B : Type 0} (f : A → B) (xs : List A) (x : A) → Contains xs x → Contains (map f xs) (f x)
is_in_map f [] x there = absurd (omega (arith, there.1))
is_in_map f (y ∷ ys) x (zero, inside, is) = (zero, omega arith, ap f is)
is_in_map f (y ∷ ys) x (suc k, inside, is) =
    let more = is_in_map f ys x (k, omega (arith, inside), is) in
    (suc more.0, omega (arith, more.1), more.2)

passes_filter : {A : Type 0} (test : A → Bool) (y : A) (ys : List A) (x : A) (b : Bool) → test y ≡ b → (b ≡ true → Contains (y ∷ filter test ys) x) → (b ≡ false → Contains (filter test ys) x) → Contains (filter test (y ∷ ys)) x
passes_filter test y ys x true is first rest = rw is (first refl)
passes_filter test y ys x false is first rest = rw is (rest refl)

is_in_filter : {A : Type 0} (test : A → Bool) (xs : List A) (x : A) → test x ≡ true → Contains xs x → Contains (filter test xs) x
is_in_filter test [] x passes there = absurd (omega (arith, there.1))
is_in_filter test (y ∷ ys) x passes (zero, inside, is) =
    let same : test y ≡ true = ap test is ∙ passes in
    passes_filter test y ys x (test y) refl (λ _. (zero, omega arith, is)) (λ fails. let both : true ≡ false = sym same ∙ fails in absurd (cc))
is_in_filter test (y ∷ ys) x passes (suc k, inside, is) =
    let more = is_in_filter test ys x passes (k, omega (arith, inside), is) in
    passes_filter test y ys x (test y) refl (λ _. (suc more.0, omega (arith, more.1), more.2)) (λ _. more)

is_in_flat_map : {A B : Type 0} (f : A → List B) (xs : List A) (x : A) (b : B) → Contains xs x → Contains (f x) b → Contains (flat_map f xs) b
is_in_flat_map f [] x b there is = absurd (omega (arith, there.1))
is_in_flat_map f (y ∷ ys) x b (zero, inside, same) is = Contains-append_left (f y) (flat_map f ys) b (subst (λ z. Contains (f z) b) (sym same) is)
is_in_flat_map f (y ∷ ys) x b (suc k, inside, same) is = Contains-append_right (f y) (flat_map f ys) b (is_in_flat_map f ys x b (k, omega (arith, inside), same) is)

-- what is found by a name
pub record IsFirst {A : Type 0} (f : A → Name) (xs : List A) (n : Name) : Type 0 where
  pub first : A
  pub found : find (λ x. same_name (f x) n) xs ≡ Some first
  pub named : f first ≡ n
  pub inside : Contains xs first

finds : {A : Type 0} (f : A → Name) (y : A) (ys : List A) (n : Name) (b : Bool) → same_name (f y) n ≡ b → (b ≡ false → IsFirst f ys n) → IsFirst f (y ∷ ys) n
finds f y ys n true is rest = record { first = y; found = rw is refl; named = same_name_true (f y) n is; inside = (zero, omega arith, refl) }
finds f y ys n false is rest =
    let more = rest refl in
    record { first = more.first; found = rw is more.found; named = more.named; inside = (suc more.inside.0, omega (arith, more.inside.1), more.inside.2) }

is_found : {A : Type 0} (f : A → Name) (xs : List A) (n : Name) → Contains (map f xs) n → IsFirst f xs n
is_found f [] n there = absurd (omega (arith, there.1))
is_found f (y ∷ ys) n (zero, inside, is) =
    let same : same_name (f y) n ≡ true = subst (λ (m : Name). same_name (f y) m ≡ true) is (same_name_refl (f y)) in
    finds f y ys n (same_name (f y) n) refl (λ fails. let both : true ≡ false = sym same ∙ fails in absurd (cc))
is_found f (y ∷ ys) n (suc k, inside, is) = finds f y ys n (same_name (f y) n) refl (λ fails. is_found f ys n (k, omega (arith, inside), is))

-- what is found is there
finds_inside : {A : Type 0} (test : A → Bool) (y : A) (ys : List A) (x : A) (b : Bool) → test y ≡ b → find test (y ∷ ys) ≡ Some x → (find test ys ≡ Some x → Contains ys x) → Contains (y ∷ ys) x
finds_inside test y ys x true is found more =
    let here : Some y ≡ Some x = sym (rw is refl) ∙ found in
    let same : y ≡ x = cc in
    (zero, omega arith, same)
finds_inside test y ys x false is found more =
    let later : find test ys ≡ Some x = rw is at found in
    let rest = more later in
    (suc rest.0, omega (arith, rest.1), rest.2)

pub found_inside : {A : Type 0} (test : A → Bool) (xs : List A) (x : A) → find test xs ≡ Some x → Contains xs x
found_inside test [] x found = absurd (cc)
found_inside test (y ∷ ys) x found = finds_inside test y ys x (test y) refl found (found_inside test ys x)

-- ---- phis

-- each has an entry for a block from which an edge comes
have_entries : (f : Function) (b : Block) (from : Name) (ps : List Phi) → Contains (edges_into f b.name) from → AllByRecursion (FitsEdges f b) ps
    → AllByRecursion (λ (p : Phi). IsSome (entry_from from p.entries)) ps
have_entries f b from [] enters fit = tt
have_entries f b from (p ∷ ps) enters fit =
    let there = Contains-permutation (edges_into f b.name) (map (λ (e : Entry). e.from) p.entries) from fit.0.edges enters in
    let entry = is_found (λ (e : Entry). e.from) p.entries from there in
    (subst IsSome (sym entry.found) refl, have_entries f b from ps enters fit.1)

-- ---- where frames stand

-- before the lines that are left of a block of a function of the module
pub record StandsIn (m : Module) (f : Function) (name : Name) (t : Term) (lines : List Instr) : Type 0 where
  pub function : Contains m.functions f
  pub block : Block
  pub inside : Contains f.blocks block
  pub name_is : name ≡ block.name
  pub term_is : t ≡ block.term
  pub done : List Instr
  pub body_is : done ++ lines ≡ block.body

abbrev pub FrameStands : Module → Frame → Type 0
FrameStands m frame = StandsIn m frame.function frame.block frame.term frame.lines

-- behind the first line
abbrev pub past_line : (m : Module) (f : Function) (name : Name) (t : Term) (line : Instr) (left : List Instr) → StandsIn m f name t (line ∷ left) → StandsIn m f name t left
past_line m f name t line left h = record {
  function = h.function;
  block = h.block;
  inside = h.inside;
  name_is = h.name_is;
  term_is = h.term_is;
  done = h.done ++ line ∷ [];
  body_is = append_assoc h.done (line ∷ []) left ∙ h.body_is;
}

-- at the start of a block of the function
abbrev pub block_stands : (m : Module) (f : Function) (b : Block) → Contains m.functions f → Contains f.blocks b → StandsIn m f b.name b.term b.body
block_stands m f b function inside =
    record { function = function; block = b; inside = inside; name_is = refl; term_is = refl; done = []; body_is = refl }

abbrev pub AllStand : Module → List Pending → Type 0
AllStand m [] = Unit {0}
AllStand m (p ∷ ps) = FrameStands m p.frame × AllStand m ps

abbrev pub Stands : Module → State → Type 0
Stands m (Running frame rest world) = FrameStands m frame × AllStand m rest
Stands m (Waiting p rest world) = FrameStands m p.frame × AllStand m rest
Stands m Over = Unit {0}

abbrev LeadsThere : Module → List Item → State → Type 0
LeadsThere m items after = Stands m after

return_stands : (m : Module) (k : Option Kind) (v : Value) (rest : List Pending) (world : World) → AllStand m rest → AllDo (LeadsThere m) (return_step k v rest world)
return_stands m k v [] world h = all_do_show (LeadsThere m) k v world _ _ tt (λ s after. tt)
return_stands m k v (p ∷ ps) world h = h

void_stands : (m : Module) (rest : List Pending) (world : World) → AllStand m rest → AllDo (LeadsThere m) (return_void rest world)
void_stands m [] world h = tt
void_stands m (p ∷ ps) world h = h

stored_stands : (m : Module) (stored : Option Memory) (frame : Frame) (rest : List Pending) (world : World) → FrameStands m frame → AllStand m rest
    → AllDo (LeadsThere m) (with_memory stored frame rest world)
stored_stands m None frame rest world h w = tt
stored_stands m (Some memory) frame rest world h w = (h, w)

module _ (m : Module) (scope : Scope) where
  jump_stands : (frame : Frame) (rest : List Pending) (world : World) → StandsIn m frame.function frame.block frame.term [] → AllStand m rest → (to : Name) → AllDo (LeadsThere m) (jump scope frame rest world to)
  jump_stands frame rest world h w to = all_do_jump (LeadsThere m) scope frame rest world to tt
      (λ b named. (
        block_stands m frame.function b h.function (found_inside (λ (b : Block). same_name b.name to) frame.function.blocks b named),
        w,
      ))

  term_stands : (t : Term) (frame : Frame) (rest : List Pending) (world : World) → StandsIn m frame.function frame.block frame.term [] → AllStand m rest → AllDo (LeadsThere m) (term_step scope t frame rest world)
  term_stands (Ret o) frame rest world h w = return_stands m (kind_of o.ty) (operand_value scope (read frame.registers) o) rest (without_own frame.own world) w
  term_stands RetVoid frame rest world h w = void_stands m rest (without_own frame.own world) w
  term_stands (Br label) frame rest world h w = jump_stands frame rest world h w label
  term_stands (CondBr c) frame rest world h w =
      all_do_branch (LeadsThere m) (operand_value scope (read frame.registers) c.condition) _ _ (jump scope frame rest world) tt (jump_stands frame rest world h w)
  term_stands (Switch s) frame rest world h w =
      all_do_branch (LeadsThere m) (operand_value scope (read frame.registers) s.value) _ _ (jump scope frame rest world) tt (jump_stands frame rest world h w)
  term_stands Unreachable frame rest world h w = tt

call_stands : (m : Module) (c : Call) (frame : Frame) (rest : List Pending) (world : World) → FrameStands m frame → AllStand m rest → AllDo (LeadsThere m) (call_step m c frame rest world)
call_stands m c frame rest world h w =
    all_do_call (LeadsThere m) m c frame rest world tt
    (λ g b bs named are. (
      block_stands m g b (found_inside (λ (f : Function). same_name f.name c.callee) m.functions g named) (subst (λ (l : List Block). Contains l b) (sym are) (zero, omega arith, refl)),
      (h, w),
    ))
    (λ named is ss names. (h, w))

frame_stands : (m : Module) (lines : List Instr) (frame : Frame) (rest : List Pending) (world : World) → StandsIn m frame.function frame.block frame.term lines → AllStand m rest
    → AllDo (LeadsThere m) (frame_step m lines frame rest world)
frame_stands m (line.Calm l ∷ left) frame rest world h w =
    all_do_set_to (LeadsThere m) (kind_of (type_of l.right)) l.name (outcome (scope_of m) (read frame.registers) world.memory l.right) (record frame { lines = left }) rest world
    (λ v e. (past_line m frame.function frame.block frame.term (line.Calm l) left h, w)) tt
frame_stands m (line.Alloca a ∷ left) frame rest world h w = (past_line m frame.function frame.block frame.term (line.Alloca a) left h, w)
frame_stands m (line.Store s ∷ left) frame rest world h w =
    stored_stands m (stored_by (scope_of m) s frame.registers world.memory) (record frame { lines = left }) rest world (past_line m frame.function frame.block frame.term (line.Store s) left h) w
frame_stands m (line.Call c ∷ left) frame rest world h w = call_stands m c (record frame { lines = left }) rest world (past_line m frame.function frame.block frame.term (line.Call c) left h) w
frame_stands m [] frame rest world h w = term_stands m (scope_of m) frame.term frame rest world h w

step_stands : (m : Module) (s : State) → Stands m s → AllDo (LeadsThere m) (asks m s)
step_stands m (Running frame rest world) h = frame_stands m frame.lines frame rest world h.0 h.1
step_stands m (Waiting p rest world) h = λ c fits.
    all_do_act (LeadsThere m) p rest world tt (λ s k v. h) (λ x offset s after. h) (λ x offset s after. h) (λ align bytes after. h) c
step_stands m Over h = tt

run_stands : (m : Module) (n : ℕ) (s : State) (items : List Item) (t : State) → Stands m s → Leads m n s items t → Stands m t
run_stands m zero s items t h leads = subst (Stands m) (sym leads.1) h
run_stands m (suc n) s items t h leads =
    run_stands m n leads.0.after leads.1 t (all_do_made (LeadsThere m) (asks m s) leads.0 (step_stands m s h) leads.2) leads.4

-- ---- the start

entry_stands : (m : Module) (world : World) (f : Function) (blocks : List Block) (args : List Shown) (s : State) → Contains m.functions f → f.blocks ≡ blocks
    → at_entry world f blocks args ≡ Some s → Stands m s
entry_stands m world f [] args s inside are is = absurd (cc)
entry_stands m world f (b ∷ bs) args s inside are is = stands_so (Running (at_block f b (passed f.params (handed world f.params args) no_registers) []) [] world) s (cc)
    (block_stands m f b inside (subst (λ (l : List Block). Contains l b) (sym are) (zero, omega arith, refl)), tt)
  where
    stands_so : (r s : State) → r ≡ s → Stands m r → Stands m s
    stands_so r s e h = subst (Stands m) e h

unless_stands : (m : Module) (world : World) (f : Function) (args : List Shown) (s : State) (o : Option InputPath) → Contains m.functions f
    → started_unless o world f args ≡ Some s → Stands m s
unless_stands m world f args s None inside is = entry_stands m world f f.blocks args s inside refl is
unless_stands m world f args s (Some place) inside is = absurd (cc)

start_stands : (m : Module) (x : Name) (input : Input) (s : State) (o : Option Function) → function_named x m.functions ≡ o
    → option_and_then (λ f. started (scope_of m) f input) o ≡ Some s → Stands m s
start_stands m x input s None named is = absurd (cc)
start_stands m x input s (Some f) named is =
    unless_stands m (world_at_start (scope_of m) input) f input.args s (misfit (scope_of m) f.params input) (found_inside (λ (f : Function). same_name f.name x) m.functions f named) is

-- ---- what is found there

finds_label : (m : Module) (frame : Frame) (b : Block) → HasFunctionShape m frame.function → Contains frame.function.blocks b → frame.block ≡ b.name → (x : Name) → Contains (successors_of b.term) x
    → Contains (map (λ (c : Block). c.name) frame.function.blocks) x → IsFound frame x
finds_label m frame b shape inside at x leads known =
    let found = is_found (λ (c : Block). c.name) frame.function.blocks x known in
    let c = found.first in
    let fits : HasBlockShape m frame.function c = all_at (HasBlockShape m frame.function) frame.function.blocks c shape.each found.inside in
    let edge : Contains (filter (same_name c.name) (successors_of b.term)) x =
    is_in_filter (same_name c.name) (successors_of b.term) x (subst (λ (n : Name). same_name n x ≡ true) (sym found.named) (same_name_refl x)) leads in
    let enters : Contains (edges_into frame.function c.name) b.name =
    is_in_flat_map (λ (b : Block). map (λ _. b.name) (filter (same_name c.name) (successors_of b.term))) frame.function.blocks b b.name inside
    (is_in_map (λ (_ : Name). b.name) (filter (same_name c.name) (successors_of b.term)) x edge) in
    let entries = have_entries frame.function c frame.block c.phis (subst (Contains (edges_into frame.function c.name)) (sym at) enters) fits.phis in
    record { block = c; named = found.found; entries = entries }

finds_each : (m : Module) (frame : Frame) (b : Block) → HasFunctionShape m frame.function → Contains frame.function.blocks b → frame.block ≡ b.name → (xs : List Name)
    → ((x : Name) → Contains xs x → Contains (successors_of b.term) x) → AllByRecursion (Contains (map (λ (c : Block). c.name) frame.function.blocks)) xs → AllByRecursion (IsFound frame) xs
finds_each m frame b shape inside at [] among known = tt
finds_each m frame b shape inside at (x ∷ xs) among known = (
  finds_label m frame b shape inside at x (among x (zero, omega arith, refl)) known.0,
  finds_each m frame b shape inside at xs (λ y there. among y (suc there.0, omega (arith, there.1), there.2)) known.1,
)

-- the name of what has a signature
pub name_there : {A : Type 0} (name : A → Name) (signature : A → Signature) (xs : List A) (x : Name) (s : Signature) → Contains {X = Name × Signature} (map (λ a. (name a, signature a)) xs) (x, s) → Contains (map name xs) x
name_there name signature [] x s there = absurd (omega (arith, there.1))
name_there name signature (y ∷ ys) x s (zero, inside, is) = (zero, omega arith, ap (λ (p : Name × Signature). p.0) is)
name_there name signature (y ∷ ys) x s (suc k, inside, is) =
    let more = name_there name signature ys x s (k, omega (arith, inside), is) in
    (suc more.0, omega (arith, more.1), more.2)

declared_by : (d : Declaration) (ds : List Declaration) (x : Name) (b : Bool) → same_name d.name x ≡ b → is_declared x ds ≡ true → is_declared x (d ∷ ds) ≡ true
declared_by d ds x true is more = rw is refl
declared_by d ds x false is more = rw is more

is_there : (ds : List Declaration) (x : Name) → Contains (map (λ (d : Declaration). d.name) ds) x → is_declared x ds ≡ true
is_there [] x there = absurd (omega (arith, there.1))
is_there (d ∷ ds) x (zero, inside, is) =
    let same : same_name d.name x ≡ true = subst (λ (n : Name). same_name d.name n ≡ true) is (same_name_refl d.name) in
    rw same refl
is_there (d ∷ ds) x (suc k, inside, is) = declared_by d ds x (same_name d.name x) refl (is_there ds x (k, omega (arith, inside), is))

callable : (m : Module) → HasShape m → (x : Name) (o : Option Function) → function_named x m.functions ≡ o → (s : Signature)
    → Contains {X = Name × Signature} (map (λ (f : Function). (f.name, defined_signature f)) m.functions) (x, s) ⊎ Contains {X = Name × Signature} (map (λ (d : Declaration). (d.name, declared_signature d)) m.declarations) (x, s)
    → CanBeCalled o (is_declared x m.declarations)
callable m shape x (Some g) named s there =
    let fits : HasFunctionShape m g = all_at (HasFunctionShape m) m.functions g shape.functions (found_inside (λ (f : Function). same_name f.name x) m.functions g named) in
    (fits.first, fits.further, fits.blocks)
callable m shape x None named s (inl defined) =
    let found = is_found (λ (f : Function). f.name) m.functions x (name_there (λ (f : Function). f.name) defined_signature m.functions x s defined) in
    let both : None ≡ Some found.first = sym named ∙ found.found in absurd (cc)
callable m shape x None named s (inr declared) = is_there m.declarations x (name_there (λ (d : Declaration). d.name) declared_signature m.declarations x s declared)

finds_callee : (m : Module) → HasShape m → (line : Instr) → IsLine m line → FindsCallee m line
finds_callee m shape (line.Calm l) is = tt
finds_callee m shape (line.Alloca a) is = tt
finds_callee m shape (line.Store s) is = tt
finds_callee m shape (line.Call c) is =
    callable m shape c.callee (function_named c.callee m.functions) refl is.signature
    (Contains-append_cases (map (λ (f : Function). (f.name, defined_signature f)) m.functions) (map (λ (d : Declaration). (d.name, declared_signature d)) m.declarations) (c.callee, is.signature) is.callee)

finds_callees : (m : Module) → HasShape m → (lines : List Instr) → AllByRecursion (IsLine m) lines → AllByRecursion (FindsCallee m) lines
finds_callees m shape [] are = tt
finds_callees m shape (l ∷ lines) are = (finds_callee m shape l are.0, finds_callees m shape lines are.1)

pub all_behind : {A : Type 0} (P : A → Type 0) (xs ys : List A) → AllByRecursion P (xs ++ ys) → AllByRecursion P ys
all_behind P [] ys all = all
all_behind P (x ∷ xs) ys all = all_behind P xs ys all.1

-- the lines that are left are lines of the module
pub lines_left : (m : Module) (f : Function) (name : Name) (t : Term) (lines : List Instr) → HasShape m → StandsIn m f name t lines → AllByRecursion (IsLine m) lines
lines_left m f name t lines shape stands =
    let fits : HasFunctionShape m f = all_at (HasFunctionShape m) m.functions f shape.functions stands.function in
    let block : HasBlockShape m f stands.block = all_at (HasBlockShape m f) f.blocks stands.block fits.each stands.inside in
    all_behind (IsLine m) stands.done lines (subst (AllByRecursion (IsLine m)) (sym stands.body_is) block.lines)

frame_finds : (m : Module) (frame : Frame) → HasShape m → FrameStands m frame → FindsNamed m frame
frame_finds m frame shape stands =
    let fits : HasFunctionShape m frame.function = all_at (HasFunctionShape m) m.functions frame.function shape.functions stands.function in
    let block : HasBlockShape m frame.function stands.block = all_at (HasBlockShape m frame.function) frame.function.blocks stands.block fits.each stands.inside in
    record {
      labels =
          subst (λ (t : Term). AllByRecursion (IsFound frame) (successors_of t)) (sym stands.term_is)
          (finds_each m frame stands.block fits stands.inside stands.name_is (successors_of stands.block.term) (λ x there. there) block.labels);
      callees = finds_callees m shape frame.lines (lines_left m frame.function frame.block frame.term frame.lines shape stands);
    }

waiting_find : (m : Module) (ps : List Pending) → HasShape m → AllStand m ps → WaitingFindNamed m ps
waiting_find m [] shape stand = tt
waiting_find m (p ∷ ps) shape stand = (frame_finds m p.frame shape stand.0, waiting_find m ps shape stand.1)

state_finds : (m : Module) (s : State) → HasShape m → Stands m s → AllFindNamed m s
state_finds m (Running frame rest world) shape stands = (frame_finds m frame shape stands.0, waiting_find m rest shape stands.1)
state_finds m (Waiting p rest world) shape stands = (frame_finds m p.frame shape stands.0, waiting_find m rest shape stands.1)
state_finds m Over shape stands = tt

pub nothing_is_lost : NothingIsLost
nothing_is_lost m s shape reached =
    state_finds m s shape
    (run_stands m reached.steps reached.first reached.items s
    (start_stands m reached.entry reached.input reached.first (function_named reached.entry m.functions) refl reached.starts) reached.leads)
