-- In a well-formed module the registers are set that a step reads, in each state that a run comes to.
use Rattle.std.proofs.Common.{◌≡◌, ◌⊎◌, ℕ, zero, suc, ◌<◌, Bool, true, false, ◌||◌, ◌&&◌, cond, nat_eq, List, [], ◌∷◌, ◌++◌, length, map, Option, None, Some, refl, sym, ap, ◌∙◌, subst, arith, inl, inr, append_assoc}
use Rattle.std.specs.Prelude.{find, option_and_then, IsSome}
use Rattle.std.specs.List.{AllByRecursion, Contains, flat_map, list_any}
use Rattle.std.proofs.lemmas.List.{append-nil, map-append}
use Rattle.std.proofs.lemmas.List.Elements.{Contains-append_cases, Contains-append_left, Contains-append_right}
use Rattle.std.proofs.lemmas.List.Sorted.{length_permutation}
use Rattle.ir_core.specs.declared.functions.Alloca.{Alloca}
use Rattle.ir_core.specs.declared.functions.Argument.{Argument}
use Rattle.ir_core.specs.declared.functions.Block.{Block}
use Rattle.ir_core.specs.declared.functions.Call.{Call}
use Rattle.ir_core.specs.declared.functions.Extensions.{Extensions}
use Rattle.ir_core.specs.declared.functions.Calm.{Calm}
use Rattle.ir_core.specs.declared.functions.Case.{Case}
use Rattle.ir_core.specs.declared.functions.Entry.{Entry}
use Rattle.ir_core.specs.declared.functions.Function.{Function}
use Rattle.ir_core.specs.declared.functions.Instr.{Instr}
use Rattle.ir_core.specs.declared.functions.Instr.TheVariants as line
use Rattle.ir_core.specs.declared.modules.Declaration.{Declaration}
use Rattle.ir_core.specs.declared.modules.GlobalVar.{GlobalVar}
use Rattle.ir_core.specs.declared.modules.Module.{Module}
use Rattle.ir_core.specs.declared.functions.Param.{Param}
use Rattle.ir_core.specs.declared.functions.Phi.{Phi}
use Rattle.ir_core.specs.declared.functions.Store.{Store}
use Rattle.ir_core.specs.declared.functions.Term.{Term}
use Rattle.ir_core.specs.declared.functions.Term.TheVariants.{Ret, RetVoid, Br, CondBr, Switch, Unreachable}
use Rattle.ir_types.specs.declared.names.Name.{Name}
use Rattle.ir_core.specs.declared.operands.Atom.{Atom}
use Rattle.ir_core.specs.declared.operands.Atom.TheVariants.{Constant, Register}
use Rattle.ir_core.specs.declared.operands.Operand.{Operand}
use Rattle.ir_types.specs.declared.ty.Ty.{Ty}
use Rattle.ir_types.specs.declared.ty.Ty.TheVariants as ty
use Rattle.ir_core.specs.declared.values.Kind.{Kind}
use Rattle.ir_core.specs.declared.values.Kind.TheVariants.{Int, Ptr}
use Rattle.ir_core.specs.declared.values.Value.{Value}
use Rattle.ir_core.specs.declared.values.Value.TheVariants as value
use Rattle.ir_core.specs.Expressions.{type_of}
use Rattle.ir_core.specs.Functions.{edges_into, names_in, operands_at_end, operands_of, params_of, phi_registers, registers_of, set_by, successors_of, typed_of}
use Rattle.ir_core.specs.Order.{AreNew}
use Rattle.ir_core.specs.Ranges.{IsFunctionInRange, IsTypeInRange}
use Rattle.ir_types.specs.Same.{same_name}
use Rattle.ir_core.specs.Types.{is_first_class, kind_of, number_at}
use Rattle.ir_core.specs.Typing.{Signature, are_arguments, declared_signature, defined_signature}
use Rattle.ir_core.specs.WellFormed.{AllUseDefined, FitsEdges, HasBlockShape, HasFunctionShape, HasShape, IsCall, IsFunctionDefined, IsPath, IsWellFormed, LinesUseDefined, PathUsesDefined, UsesDefined}
use Rattle.ir_types.specs.NameLaws.{same_name_refl, same_name_true, same_nat_true}
use Rattle.ir_machine.specs.declared.inputs.Input.{Input}
use Rattle.ir_machine.specs.declared.items.Item.{Item}
use Rattle.ir_machine.specs.declared.items.Item.TheVariants.{Wrong}
use Rattle.ir_values.specs.Constants.{Scope}
use Rattle.block_memory.specs.declared.items.Shown.{Shown}
use Rattle.ir_machine.specs.declared.inputs.InputPath.{InputPath}
use Rattle.ir_machine.specs.Laws.{Leads}
use Rattle.ir_machine.specs.Machine.{Asks, Chosen, arguments_of, asks, at_block, block_named, call_step, branch, case_of, entry_from, frame_step, function_named, gone, gone_to, is_among, is_label, jump, label_told, passed, phi_value, resumed, return_step, return_void, side_of, stored_by, term_step, waiting_for, with_phis, without_own}
use Rattle.ir_machine.specs.Starting.{at_entry, handed, misfit, number_misfit, started, started_unless, world_at_start}
use Rattle.ir_machine.specs.Reads.{AreSet, IsSet, NextReadsSet, PhisReadSet, ReadsAreSet, ReadsSet, ReadsSetBehind}
use Rattle.ir_machine.specs.Registers.{Held, Registers, no_registers, operand_value, outcome, read, set}
use Rattle.ir_machine.specs.State.{Frame, Pending, World, scope_of, State, Running, Waiting, Over}
use Rattle.ir_machine.proofs.Finding.{StandsIn, all_at, all_behind, block_stands, found_inside, lines_left, name_there, past_line}
use Rattle.ir_machine.proofs.Unfitting.{or_none, unless_none}
use Rattle.ir_machine.proofs.Trees.{AllDo, all_do_call, all_do_jump, all_do_act, all_do_made, all_do_set_to, all_do_show, all_do_stored}

-- ---- lists

here : {A : Type 0} (x : A) (xs : List A) → Contains (x ∷ xs) x
here x xs = (zero, omega arith, refl)

further : {A : Type 0} (y : A) (xs : List A) (x : A) → Contains xs x → Contains (y ∷ xs) x
further y xs x there = (suc there.0, omega (arith, there.1), there.2)

passes : {A : Type 0} (test : A → Bool) (y : A) (ys : List A) (x : A) (b : Bool) → test y ≡ b → find test (y ∷ ys) ≡ Some x → (find test ys ≡ Some x → test x ≡ true) → test x ≡ true
passes test y ys x true is found more =
    let first : Some y ≡ Some x = sym (rw is refl) ∙ found in
    let same : y ≡ x = cc in
    subst (λ z. test z ≡ true) same is
passes test y ys x false is found more =
    let later : find test ys ≡ Some x = rw is at found in
    more later

pub found_passes : {A : Type 0} (test : A → Bool) (xs : List A) (x : A) → find test xs ≡ Some x → test x ≡ true
found_passes test [] x found = absurd (cc)
found_passes test (y ∷ ys) x found = passes test y ys x (test y) refl found (found_passes test ys x)

all_left : {A : Type 0} (P : A → Type 0) (xs ys : List A) → AllByRecursion P (xs ++ ys) → AllByRecursion P xs
all_left P [] ys all = tt
all_left P (x ∷ xs) ys all = (all.0, all_left P xs ys all.1)

all_of : {A B : Type 0} (P : B → Type 0) (f : A → List B) (xs : List A) (x : A) → AllByRecursion P (flat_map f xs) → Contains xs x → AllByRecursion P (f x)
all_of P f [] x all there = absurd (omega (arith, there.1))
all_of P f (y ∷ ys) x all (zero, inside, is) = subst (λ z. AllByRecursion P (f z)) is (all_left P (f y) (flat_map f ys) all)
all_of P f (y ∷ ys) x all (suc k, inside, is) = all_of P f ys x (all_behind P (f y) (flat_map f ys) all) (k, omega (arith, inside), is)

-- ---- registers that are set

abbrev pub Sets : Registers → List Name → Type 0
Sets registers names = (x : Name) → Contains names x → IsSome (registers x)

-- the kind of a register's type
abbrev HasKind : Name × Ty → Type 0
HasKind register = (k : Kind) × (kind_of register.1 ≡ Some k)

stays_some : (b : Bool) (held : Held) (before : Option Held) → IsSome before → IsSome (cond b (Some held) before)
stays_some true held before is = refl
stays_some false held before is = is

set_keeps : (registers : Registers) (x : Name) (k : Kind) (v : Value) (y : Name) → IsSome (registers y) → IsSome (set registers x (Some k) v y)
set_keeps registers x k v y is = stays_some (same_name x y) _ (registers y) is

set_sets : (registers : Registers) (x : Name) (k : Kind) (v : Value) → IsSome (set registers x (Some k) v x)
set_sets registers x k v = rw (same_name_refl x) refl

sets_one : (registers : Registers) (names : List Name) (x : Name) (k : Kind) (v : Value) → Sets registers names → Sets (set registers x (Some k) v) (names ++ x ∷ [])
sets_one registers names x k v sets y there = by_side (Contains-append_cases names (x ∷ []) y there)
  where
    by_side : Contains names y ⊎ Contains (x ∷ []) y → IsSome (set registers x (Some k) v y)
    by_side (inl before) = set_keeps registers x k v y (sets y before)
    by_side (inr (zero, inside, is)) = subst (λ (n : Name). IsSome (set registers x (Some k) v n)) is (set_sets registers x k v)
    by_side (inr (suc j, inside, is)) = absurd (omega (arith, inside))

pub sets_more : (registers : Registers) (names : List Name) (x : Name) (t : Ty) (v : Value) → HasKind (x, t) → Sets registers names → Sets (set registers x (kind_of t) v) (names ++ x ∷ [])
sets_more registers names x t v kind sets =
    subst (λ (k : Option Kind). Sets (set registers x k v) (names ++ x ∷ [])) (sym kind.1) (sets_one registers names x kind.0 v sets)

pub phis_set : (scope : Scope) (old : Registers) (from : Name) (ps : List Phi) (registers : Registers) (names : List Name) → AllByRecursion HasKind (phi_registers ps) → Sets registers names
    → Sets (with_phis scope old from ps registers) (names ++ names_in (phi_registers ps))
phis_set scope old from [] registers names kinds sets = subst (Sets registers) (sym (append-nil names)) sets
phis_set scope old from (p ∷ ps) registers names kinds sets =
    subst (Sets (with_phis scope old from (p ∷ ps) registers)) (append_assoc names (p.name ∷ []) (names_in (phi_registers ps)))
    (phis_set scope old from ps (set registers p.name (kind_of p.ty) (phi_value scope old from p)) (names ++ p.name ∷ []) kinds.1
    (sets_more registers names p.name p.ty (phi_value scope old from p) kinds.0 sets))

-- ---- kinds

kind_in_range : (t : Ty) → is_first_class t ≡ true → IsTypeInRange t → (k : Kind) × (kind_of t ≡ Some k)
kind_in_range (ty.Int width) first range = (Int width, rw range refl)
kind_in_range t first range = (Ptr, rw first refl)

all_have_kinds : (registers : List (Name × Ty)) → AllByRecursion (λ register. is_first_class register.1 ≡ true) registers → AllByRecursion (λ register. IsTypeInRange register.1) registers → AllByRecursion HasKind registers
all_have_kinds [] first range = tt
all_have_kinds (r ∷ rs) first range = (kind_in_range r.1 first.0 range.0, all_have_kinds rs first.1 range.1)

module _ (m : Module) (well : IsWellFormed m) (f : Function) (inside : Contains m.functions f) where
  shape_of : HasFunctionShape m f
  shape_of = all_at (HasFunctionShape m) m.functions f well.shape.functions inside

  typed_kinds : AllByRecursion HasKind (typed_of f)
  typed_kinds = all_have_kinds (typed_of f) shape_of.registers (all_at IsFunctionInRange m.functions f well.range.functions inside).registers

  param_kinds : AllByRecursion HasKind (params_of f)
  param_kinds = all_left HasKind (params_of f) (flat_map registers_of f.blocks) typed_kinds

  kinds_of : (b : Block) → Contains f.blocks b → AllByRecursion HasKind (registers_of b)
  kinds_of b there = all_of HasKind registers_of f.blocks b (all_behind HasKind (params_of f) (flat_map registers_of f.blocks) typed_kinds) there

-- ---- where a frame stands, and what is defined there

pub record Ready (m : Module) (lines : List Instr) (frame : Frame) : Type 0 where
  pub stands : StandsIn m frame.function frame.block frame.term lines
  pub taken : List Name
  pub ahead : (path : List Block) → IsPath frame.function stands.block path → PathUsesDefined taken stands.block path
  pub known : List Name
  pub sets : Sets frame.registers known
  pub uses : LinesUseDefined known lines frame.term
  pub kinds : AllByRecursion HasKind (set_by lines)
  pub in_all : known ++ names_in (set_by lines) ≡ taken ++ names_in (registers_of stands.block)

-- whatever the call is answered, the frame goes on
abbrev WaitsReady : Module → Pending → Type 0
WaitsReady m p = (k : Option Kind) (v : Value) → Ready m p.frame.lines (resumed p k v)

abbrev AllWaitReady : Module → List Pending → Type 0
AllWaitReady m = AllByRecursion (WaitsReady m)

abbrev StateReady : Module → State → Type 0
StateReady m (Running frame rest world) = Ready m frame.lines frame × AllWaitReady m rest
StateReady m (Waiting p rest world) = WaitsReady m p × AllWaitReady m rest
StateReady m Over = Unit {0}

abbrev LeadsReady : Module → List Item → State → Type 0
LeadsReady m items after = StateReady m after

-- at the start of a block that is entered
block_ready : (m : Module) → IsWellFormed m → (f : Function) (b : Block) (taken : List Name) (registers : Registers) (own : List ℕ) → Contains m.functions f → Contains f.blocks b
    → ((path : List Block) → IsPath f b path → PathUsesDefined taken b path) → Sets registers (taken ++ names_in (phi_registers b.phis)) → Ready m b.body (at_block f b registers own)
block_ready m well f b taken registers own function inside ahead sets =
    record {
      stands = block_stands m f b function inside;
      taken = taken;
      ahead = ahead;
      known = taken ++ names_in (phi_registers b.phis);
      sets = sets;
      uses = ahead [] tt;
      kinds = all_behind HasKind (phi_registers b.phis) (set_by b.body) (kinds_of m well f function b inside);
      in_all = append_assoc taken (names_in (phi_registers b.phis)) (names_in (set_by b.body)) ∙ ap (λ (l : List Name). taken ++ l) (sym (map-append (λ (r : Name × Ty). r.0) (phi_registers b.phis) (set_by b.body)));
    }

-- behind a line
line_ready : (m : Module) (l : Calm) (left : List Instr) (frame : Frame) (v : Value) → Ready m (line.Calm l ∷ left) frame
    → Ready m left (record frame { lines = left; registers = set frame.registers l.name (kind_of (type_of l.right)) v })
line_ready m l left frame v ready = record {
  stands = past_line m frame.function frame.block frame.term (line.Calm l) left ready.stands;
  taken = ready.taken;
  ahead = ready.ahead;
  known = ready.known ++ l.name ∷ [];
  sets = sets_more frame.registers ready.known l.name (type_of l.right) v ready.kinds.0 ready.sets;
  uses = ready.uses.1;
  kinds = ready.kinds.1;
  in_all = append_assoc ready.known (l.name ∷ []) (names_in (set_by left)) ∙ ready.in_all;
}

-- an alloca sets its register to an address
made_ready : (m : Module) (a : Alloca) (left : List Instr) (frame : Frame) (v : Value) (own : List ℕ) → Ready m (line.Alloca a ∷ left) frame
    → Ready m left (record frame { lines = left; registers = set frame.registers a.name (Some Ptr) v; own = own })
made_ready m a left frame v own ready = record {
  stands = past_line m frame.function frame.block frame.term (line.Alloca a) left ready.stands;
  taken = ready.taken;
  ahead = ready.ahead;
  known = ready.known ++ a.name ∷ [];
  sets = sets_one frame.registers ready.known a.name Ptr v ready.sets;
  uses = ready.uses.1;
  kinds = ready.kinds.1;
  in_all = append_assoc ready.known (a.name ∷ []) (names_in (set_by left)) ∙ ready.in_all;
}

-- a store sets none
stored_ready : (m : Module) (s : Store) (left : List Instr) (frame : Frame) → Ready m (line.Store s ∷ left) frame → Ready m left (record frame { lines = left })
stored_ready m s left frame ready = record {
  stands = past_line m frame.function frame.block frame.term (line.Store s) left ready.stands;
  taken = ready.taken;
  ahead = ready.ahead;
  known = ready.known;
  sets = ready.sets;
  uses = subst (λ (names : List Name). LinesUseDefined names left frame.term) (append-nil ready.known) ready.uses.1;
  kinds = ready.kinds;
  in_all = ready.in_all;
}

-- a call sets the register that it names, once it is answered
module _ (m : Module) (result : Ty) (extensions : Extensions) (callee : Name) (arguments : List Argument) (left : List Instr) (frame : Frame) where
  abbrev the_call : Option Name → Call
  the_call name = record { name = name; result = result; result_extensions = extensions; callee = callee; arguments = arguments }

  call_ready : (name : Option Name) → Ready m (line.Call (the_call name) ∷ left) frame → WaitsReady m (waiting_for (the_call name) (record frame { lines = left }))
  call_ready None ready k v = record {
    stands = past_line m frame.function frame.block frame.term (line.Call (the_call None)) left ready.stands;
    taken = ready.taken;
    ahead = ready.ahead;
    known = ready.known;
    sets = ready.sets;
    uses = subst (λ (names : List Name). LinesUseDefined names left frame.term) (append-nil ready.known) ready.uses.1;
    kinds = ready.kinds;
    in_all = ready.in_all;
  }
  call_ready (Some x) ready k v = record {
    stands = past_line m frame.function frame.block frame.term (line.Call (the_call (Some x))) left ready.stands;
    taken = ready.taken;
    ahead = ready.ahead;
    known = ready.known ++ x ∷ [];
    sets = sets_more frame.registers ready.known x result _ ready.kinds.0 ready.sets;
    uses = ready.uses.1;
    kinds = ready.kinds.1;
    in_all = append_assoc ready.known (x ∷ []) (names_in (set_by left)) ∙ ready.in_all;
  }

-- ---- labels

among_by : (x y : Name) (ys : List Name) (b : Bool) → same_name x y ≡ b → (b || list_any (same_name x) ys) ≡ true → (list_any (same_name x) ys ≡ true → Contains ys x) → Contains (y ∷ ys) x
among_by x y ys true same any more = (zero, omega arith, sym (same_name_true x y same))
among_by x y ys false same any more = further y ys x (more any)

any_among : (labels : List Name) (x : Name) → list_any (same_name x) labels ≡ true → Contains labels x
any_among [] x is = absurd (cc)
any_among (y ∷ ys) x is = among_by x y ys (same_name x y) refl is (any_among ys x)

all_do_gone_to : (P : List Item → State → Type 0) (labels : List Name) (o : Option Name) (next : Name → Asks) → is_among labels o ≡ true → ((x : Name) → Contains labels x → AllDo P (next x))
    → AllDo P (gone_to o next)
all_do_gone_to P labels None next is h = tt
all_do_gone_to P labels (Some x) next is h = h x (any_among labels x is)

all_do_told : (P : List Item → State → Type 0) (labels : List Name) (c : Chosen) (next : Name → Asks) → is_label labels c ≡ true → ((x : Name) → Contains labels x → AllDo P (next x)) → AllDo P (gone c next)
all_do_told P labels c next is h = all_do_gone_to P labels (label_told c) next is h

all_do_among : (P : List Item → State → Type 0) (v : Value) (label : ℕ → Name) (labels : List Name) (next : Name → Asks) → P (Wrong ∷ []) Over → ((n : ℕ) → Contains labels (label n))
    → ((x : Name) → Contains labels x → AllDo P (next x)) → AllDo P (branch v label labels next)
all_do_among P (value.Num n) label labels next bad among h = h (label n) (among n)
all_do_among P value.Undef label labels next bad among h = λ c is. all_do_told P labels c next is h
all_do_among P (value.Ptr block offset) label labels next bad among h = λ c is. all_do_told P labels c next is h
all_do_among P (value.Bare address) label labels next bad among h = λ c is. all_do_told P labels c next is h
all_do_among P value.Poison label labels next bad among h = bad

side_among : (a b : Name) (n : ℕ) → Contains (a ∷ b ∷ []) (side_of a b n)
side_among a b n = by_test (nat_eq n 1)
  where
    by_test : (is : Bool) → Contains (a ∷ b ∷ []) (cond is a b)
    by_test true = here a (b ∷ [])
    by_test false = further a (b ∷ []) b (here b [])

past_label : (default y : Name) (ys : List Name) (x : Name) → Contains (default ∷ ys) x → Contains (default ∷ y ∷ ys) x
past_label default y ys x (zero, inside, is) = (zero, omega arith, is)
past_label default y ys x (suc k, inside, is) = (suc (suc k), omega (arith, inside), is)

case_by : (default y : Name) (ys : List Name) (x : Name) (is : Bool) → Contains (default ∷ ys) x → Contains (default ∷ y ∷ ys) (cond is y x)
case_by default y ys x true more = further default (y ∷ ys) y (here y ys)
case_by default y ys x false more = past_label default y ys x more

case_among : (t : Ty) (default : Name) (cs : List Case) (n : ℕ) → Contains (default ∷ map (λ (c : Case). c.label) cs) (case_of t default cs n)
case_among t default [] n = here default []
case_among t default (c ∷ cs) n =
    case_by default c.label (map (λ (c : Case). c.label) cs) (case_of t default cs n) (nat_eq (number_at t c.number) n) (case_among t default cs n)

-- ---- steps

-- at the end of a block all its registers are known
at_its_end : (m : Module) (frame : Frame) (ready : Ready m [] frame) → ready.known ≡ ready.taken ++ names_in (registers_of ready.stands.block)
at_its_end m frame ready = sym (append-nil ready.known) ∙ ready.in_all

-- an edge of the block where the frame stands
edge_to : (m : Module) (frame : Frame) (ready : Ready m [] frame) (c : Block) (x : Name) → Contains (successors_of frame.term) x → block_named x frame.function.blocks ≡ Some c
    → Contains frame.function.blocks c × Contains (successors_of ready.stands.block.term) c.name
edge_to m frame ready c x leads named =
    let name : c.name ≡ x = same_name_true c.name x (found_passes (λ (b : Block). same_name b.name x) frame.function.blocks c named) in (
      found_inside (λ (b : Block). same_name b.name x) frame.function.blocks c named,
      subst (λ (t : Term). Contains (successors_of t) c.name) ready.stands.term_is (subst (Contains (successors_of frame.term)) (sym name) leads),
    )

jump_ready : (m : Module) → IsWellFormed m → (frame : Frame) (rest : List Pending) (world : World) → Ready m [] frame → AllWaitReady m rest → (to : Name) → Contains (successors_of frame.term) to
    → AllDo (LeadsReady m) (jump (scope_of m) frame rest world to)
jump_ready m well frame rest world ready waits to leads = all_do_jump (LeadsReady m) (scope_of m) frame rest world to tt
    (λ b named.
    let edge = edge_to m frame ready b to leads named in
    let taken = ready.taken ++ names_in (registers_of ready.stands.block) in
    let kinds = kinds_of m well frame.function ready.stands.function b edge.0 in
    let before : Sets frame.registers taken = subst (Sets frame.registers) (at_its_end m frame ready) ready.sets in
    let registers = with_phis (scope_of m) frame.registers frame.block b.phis frame.registers in
    let after : Sets registers (taken ++ names_in (phi_registers b.phis)) =
    phis_set (scope_of m) frame.registers frame.block b.phis frame.registers taken (all_left HasKind (phi_registers b.phis) (set_by b.body) kinds) before in
    (block_ready m well frame.function b taken registers frame.own ready.stands.function edge.0 (λ path goes. (ready.ahead (b ∷ path) (edge.0, edge.1, goes)).2) after, waits))

return_ready : (m : Module) (k : Option Kind) (v : Value) (rest : List Pending) (world : World) → AllWaitReady m rest → AllDo (LeadsReady m) (return_step k v rest world)
return_ready m k v [] world waits = all_do_show (LeadsReady m) k v world _ _ tt (λ s after. tt)
return_ready m k v (p ∷ ps) world waits = (waits.0 k v, waits.1)

void_ready : (m : Module) (rest : List Pending) (world : World) → AllWaitReady m rest → AllDo (LeadsReady m) (return_void rest world)
void_ready m [] world waits = tt
void_ready m (p ∷ ps) world waits = (waits.0 None value.Poison, waits.1)

term_ready : (m : Module) → IsWellFormed m → (t : Term) (frame : Frame) (rest : List Pending) (world : World) → frame.term ≡ t → Ready m [] frame → AllWaitReady m rest
    → AllDo (LeadsReady m) (term_step (scope_of m) t frame rest world)
term_ready m well (Ret o) frame rest world is ready waits =
    return_ready m (kind_of o.ty) (operand_value (scope_of m) (read frame.registers) o) rest (without_own frame.own world) waits
term_ready m well RetVoid frame rest world is ready waits = void_ready m rest (without_own frame.own world) waits
term_ready m well (Br label) frame rest world is ready waits =
    jump_ready m well frame rest world ready waits label (subst (λ (t : Term). Contains (successors_of t) label) (sym is) (here label []))
term_ready m well (CondBr c) frame rest world is ready waits =
    all_do_among (LeadsReady m) (operand_value (scope_of m) (read frame.registers) c.condition) (side_of c.on_true c.on_false) (successors_of (CondBr c)) (jump (scope_of m) frame rest world) tt
    (side_among c.on_true c.on_false) (λ x there. jump_ready m well frame rest world ready waits x (subst (λ (t : Term). Contains (successors_of t) x) (sym is) there))
term_ready m well (Switch s) frame rest world is ready waits =
    all_do_among (LeadsReady m) (operand_value (scope_of m) (read frame.registers) s.value) (case_of s.value.ty s.default s.cases) (successors_of (Switch s)) (jump (scope_of m) frame rest world) tt
    (case_among s.value.ty s.default s.cases) (λ x there. jump_ready m well frame rest world ready waits x (subst (λ (t : Term). Contains (successors_of t) x) (sym is) there))
term_ready m well Unreachable frame rest world is ready waits = tt

-- ---- parameters

-- there is one for each
abbrev Covers : {A B : Type 0} → List A → List B → Type 0
Covers [] ys = Unit {0}
Covers (x ∷ xs) [] = ⊥
Covers (x ∷ xs) (y ∷ ys) = Covers xs ys

abbrev param_names : List Param → List Name
param_names ps = names_in (map (λ (p : Param). (p.name, p.ty)) ps)

passed_sets : (ps : List Param) (vs : List (Option Kind × Value)) (registers : Registers) (names : List Name) → Covers ps vs → AllByRecursion HasKind (map (λ (p : Param). (p.name, p.ty)) ps)
    → Sets registers names → Sets (passed ps vs registers) (names ++ param_names ps)
passed_sets [] vs registers names covers kinds sets = subst (Sets registers) (sym (append-nil names)) sets
passed_sets (p ∷ ps) [] registers names covers kinds sets = absurd covers
passed_sets (p ∷ ps) (v ∷ vs) registers names covers kinds sets =
    subst (Sets (passed (p ∷ ps) (v ∷ vs) registers)) (append_assoc names (p.name ∷ []) (param_names ps))
    (passed_sets ps vs _ (names ++ p.name ∷ []) covers kinds.1 (sets_more registers names p.name p.ty _ kinds.0 sets))

no_names : (x : Name) → Contains [] x → IsSome (no_registers x)
no_names x there = absurd (omega (arith, there.1))

-- nothing enters the first block, so it has no phis
no_phis : (f : Function) (b : Block) (ps : List Phi) → edges_into f b.name ≡ [] → AllByRecursion (FitsEdges f b) ps → ps ≡ []
no_phis f b [] none fit = refl
no_phis f b (p ∷ ps) none fit =
    let some : 0 < length p.entries = fit.0.some in
    let same = length_permutation (edges_into f b.name) (map (λ (e : Entry). e.from) p.entries) fit.0.edges in
    absurd (lost p.entries some (same ∙ ap length none))
  where
    lost : (es : List Entry) → 0 < length es → length (map (λ (e : Entry). e.from) es) ≡ 0 → ⊥
    lost [] some e = absurd (omega (arith, some))
    lost (x ∷ es) some e = absurd (omega (arith, e))

-- a function that is entered with a value for each parameter
first_ready : (m : Module) → IsWellFormed m → (f : Function) (b : Block) (bs : List Block) (vs : List (Option Kind × Value)) → Contains m.functions f → f.blocks ≡ b ∷ bs
    → Covers f.params vs → Ready m b.body (at_block f b (passed f.params vs no_registers) [])
first_ready m well f b bs vs inside are covers =
    let shape : HasFunctionShape m f = shape_of m well f inside in
    let defined : IsFunctionDefined f = all_at IsFunctionDefined m.functions f well.defined inside in
    let is_first : b ≡ shape.first = let both : b ∷ bs ≡ shape.first ∷ shape.further = sym are ∙ shape.blocks in cc in
    let there : Contains f.blocks b = subst (λ (l : List Block). Contains l b) (sym are) (here b bs) in
    let none : edges_into f b.name ≡ [] = subst (λ (c : Block). edges_into f c.name ≡ []) (sym is_first) shape.not_entered in
    let fits : HasBlockShape m f b = all_at (HasBlockShape m f) f.blocks b shape.each there in
    let phis : b.phis ≡ [] = no_phis f b b.phis none fits.phis in
    let registers = passed f.params vs no_registers in
    let params : Sets registers (names_in (params_of f)) = passed_sets f.params vs no_registers [] covers (param_kinds m well f inside) no_names in
    let sets : Sets registers (names_in (params_of f) ++ names_in (phi_registers b.phis)) =
    subst (λ (ps : List Phi). Sets registers (names_in (params_of f) ++ names_in (phi_registers ps))) (sym phis) (subst (Sets registers) (sym (append-nil (names_in (params_of f)))) params) in
    block_ready m well f b (names_in (params_of f)) registers [] inside there (λ path goes. defined b bs path are goes) sets

-- ---- calls

pub new_apart : {A : Type 0} (taken xs : List A) (x : A) → AreNew taken xs → Contains taken x → Contains xs x → ⊥
new_apart taken [] x new there also = absurd (omega (arith, also.1))
new_apart taken (y ∷ ys) x new there (zero, inside, is) = new.0 (subst (Contains taken) (sym is) there)
new_apart taken (y ∷ ys) x new there (suc k, inside, is) =
    new_apart (taken ++ y ∷ []) ys x new.1 (Contains-append_left taken (y ∷ []) x there) (k, omega (arith, inside), is)

new_behind : {A : Type 0} (taken xs ys : List A) → AreNew taken (xs ++ ys) → (more : List A) × AreNew more ys
new_behind taken [] ys new = (taken, new)
new_behind taken (x ∷ xs) ys new = new_behind (taken ++ x ∷ []) xs ys new.1

abbrev signed : Function → Name × Signature
signed f = (f.name, defined_signature f)

abbrev all_signed : List Function → List Declaration → List (Name × Signature)
all_signed fs ds = map signed fs ++ map (λ (d : Declaration). (d.name, declared_signature d)) ds

abbrev all_named : List Function → List Declaration → List Name
all_named fs ds = map (λ (f : Function). f.name) fs ++ map (λ (d : Declaration). d.name) ds

named_there : (fs : List Function) (ds : List Declaration) (x : Name) (s : Signature) → Contains (all_signed fs ds) (x, s) → Contains (all_named fs ds) x
named_there fs ds x s there = by_side (Contains-append_cases (map signed fs) (map (λ (d : Declaration). (d.name, declared_signature d)) ds) (x, s) there)
  where
    by_side : Contains (map signed fs) (x, s) ⊎ Contains {X = Name × Signature} (map (λ (d : Declaration). (d.name, declared_signature d)) ds) (x, s) → Contains (all_named fs ds) x
    by_side (inl defined) = Contains-append_left (map (λ (f : Function). f.name) fs) (map (λ (d : Declaration). d.name) ds) x (name_there (λ (f : Function). f.name) defined_signature fs x s defined)
    by_side (inr declared) = Contains-append_right (map (λ (f : Function). f.name) fs) (map (λ (d : Declaration). d.name) ds) x (name_there (λ (d : Declaration). d.name) declared_signature ds x s declared)

-- the function of a name has the signature that is called
signature_by : (f : Function) (fs : List Function) (ds : List Declaration) (x : Name) (s : Signature) (g : Function) (taken : List Name) (b : Bool) → same_name f.name x ≡ b
    → AreNew taken (all_named (f ∷ fs) ds) → function_named x (f ∷ fs) ≡ Some g → Contains (all_signed (f ∷ fs) ds) (x, s)
    → (function_named x fs ≡ Some g → Contains (all_signed fs ds) (x, s) → s ≡ defined_signature g) → s ≡ defined_signature g
signature_by f fs ds x s g taken true is new found (zero, inside, same) more =
    let first : Some f ≡ Some g = sym (rw is refl) ∙ found in
    let it : f ≡ g = cc in
    sym (ap (λ (p : Name × Signature). p.1) same) ∙ ap defined_signature it
signature_by f fs ds x s g taken true is new found (suc k, inside, same) more =
    let name : f.name ≡ x = same_name_true f.name x is in
    let again : Contains (all_named fs ds) x = named_there fs ds x s (k, omega (arith, inside), same) in
    absurd (new_apart (taken ++ f.name ∷ []) (all_named fs ds) x new.1 (Contains-append_right taken (f.name ∷ []) x (zero, omega arith, name)) again)
signature_by f fs ds x s g taken false is new found (zero, inside, same) more =
    let name : f.name ≡ x = ap (λ (p : Name × Signature). p.0) same in
    let both : true ≡ false = sym (same_name_refl f.name) ∙ ap (same_name f.name) name ∙ is in absurd (cc)
signature_by f fs ds x s g taken false is new found (suc k, inside, same) more =
    let later : function_named x fs ≡ Some g = rw is at found in
    more later (k, omega (arith, inside), same)

one_signature : (fs : List Function) (ds : List Declaration) (x : Name) (s : Signature) (g : Function) (taken : List Name) → AreNew taken (all_named fs ds) → function_named x fs ≡ Some g
    → Contains (all_signed fs ds) (x, s) → s ≡ defined_signature g
one_signature [] ds x s g taken new found there = absurd (cc)
one_signature (f ∷ fs) ds x s g taken new found there =
    signature_by f fs ds x s g taken (same_name f.name x) refl new found there (λ later again. one_signature fs ds x s g (taken ++ f.name ∷ []) new.1 later again)

both_true : (a b : Bool) → (a && b) ≡ true → b ≡ true
both_true true b is = is
both_true false b is = absurd (cc)

covers_args : (ps : List Param) (variadic : Bool) (args : List Argument) (of : Argument → Option Kind × Value) → are_arguments variadic (map (λ (p : Param). p.ty) ps) (map (λ (a : Argument). a.operand.ty) args) ≡ true
    → Covers ps (map of args)
covers_args [] variadic args of are = tt
covers_args (p ∷ ps) variadic [] of are = absurd (cc)
covers_args (p ∷ ps) variadic (a ∷ args) of are = covers_args ps variadic args of (both_true _ _ are)

-- a call passes a value for each parameter of what it enters
call_covers : (m : Module) → HasShape m → (c : Call) → IsCall m c → (g : Function) → function_named c.callee m.functions ≡ Some g → (registers : Registers)
    → Covers g.params (arguments_of (scope_of m) registers c.arguments)
call_covers m shape c is g named registers =
    let new = new_behind [] (map (λ (g : GlobalVar). g.name) m.globals) (all_named m.functions m.declarations) shape.names in
    let same : is.signature ≡ defined_signature g = one_signature m.functions m.declarations c.callee is.signature g new.0 new.1 named is.callee in
    covers_args g.params is.signature.variadic c.arguments _
    (subst (λ (ps : List Ty). are_arguments is.signature.variadic ps (map (λ (a : Argument). a.operand.ty) c.arguments) ≡ true) (ap (λ (s : Signature). s.params) same) is.arguments)

enters_ready : (m : Module) → IsWellFormed m → (c : Call) (left : List Instr) (frame : Frame) (rest : List Pending) (world : World) → Ready m (line.Call c ∷ left) frame → AllWaitReady m rest
    → AllDo (LeadsReady m) (call_step m c (record frame { lines = left }) rest world)
enters_ready m well c left frame rest world ready waits =
    let here_waits : WaitsReady m (waiting_for c (record frame { lines = left })) =
    call_ready m c.result c.result_extensions c.callee c.arguments left frame c.name ready in
    let is : IsCall m c = (lines_left m frame.function frame.block frame.term (line.Call c ∷ left) well.shape ready.stands).0 in
    all_do_call (LeadsReady m) m c (record frame { lines = left }) rest world tt
    (λ g b bs named are. (
      first_ready m well g b bs (arguments_of (scope_of m) frame.registers c.arguments) (found_inside (λ (f : Function). same_name f.name c.callee) m.functions g named) are
          (call_covers m well.shape c is g named frame.registers),
      (here_waits, waits),
    ))
    (λ named is ss names. (here_waits, waits))

frame_ready : (m : Module) → IsWellFormed m → (lines : List Instr) (frame : Frame) (rest : List Pending) (world : World) → Ready m lines frame → AllWaitReady m rest
    → AllDo (LeadsReady m) (frame_step m lines frame rest world)
frame_ready m well (line.Calm l ∷ left) frame rest world ready waits =
    all_do_set_to (LeadsReady m) (kind_of (type_of l.right)) l.name (outcome (scope_of m) (read frame.registers) world.memory l.right) (record frame { lines = left }) rest world
    (λ v e. (line_ready m l left frame v ready, waits)) tt
frame_ready m well (line.Alloca a ∷ left) frame rest world ready waits = (made_ready m a left frame _ _ ready, waits)
frame_ready m well (line.Store s ∷ left) frame rest world ready waits =
    all_do_stored (LeadsReady m) (stored_by (scope_of m) s frame.registers world.memory) (record frame { lines = left }) rest world (λ memory. (stored_ready m s left frame ready, waits)) tt
frame_ready m well (line.Call c ∷ left) frame rest world ready waits = enters_ready m well c left frame rest world ready waits
frame_ready m well [] frame rest world ready waits = term_ready m well frame.term frame rest world refl ready waits

step_ready : (m : Module) → IsWellFormed m → (s : State) → StateReady m s → AllDo (LeadsReady m) (asks m s)
step_ready m well (Running frame rest world) ready = frame_ready m well frame.lines frame rest world ready.0 ready.1
step_ready m well (Waiting p rest world) ready = λ c fits.
    all_do_act (LeadsReady m) p rest world tt (λ s k v. (ready.0 k v, ready.1)) (λ x offset s after. ready) (λ x offset s after. ready) (λ align bytes after. ready) c
step_ready m well Over ready = tt

run_ready : (m : Module) → IsWellFormed m → (n : ℕ) (s : State) (items : List Item) (t : State) → StateReady m s → Leads m n s items t → StateReady m t
run_ready m well zero s items t ready leads = subst (StateReady m) (sym leads.1) ready
run_ready m well (suc n) s items t ready leads =
    run_ready m well n leads.0.after leads.1 t (all_do_made (LeadsReady m) (asks m s) leads.0 (step_ready m well s ready) leads.2) leads.4

-- ---- the start

handed_covers : (world : World) (ps : List Param) (args : List Shown) → length ps ≡ length args → Covers ps (handed world ps args)
handed_covers world [] args same = tt
handed_covers world (p ∷ ps) [] same = absurd (omega (arith, same))
handed_covers world (p ∷ ps) (a ∷ args) same = handed_covers world ps args (omega (arith, same))

entry_ready : (m : Module) → IsWellFormed m → (world : World) (f : Function) (blocks : List Block) (args : List Shown) (s : State) → Contains m.functions f → f.blocks ≡ blocks
    → nat_eq (length f.params) (length args) ≡ true → at_entry world f blocks args ≡ Some s → StateReady m s
entry_ready m well world f [] args s inside are same is = absurd (cc)
entry_ready m well world f (b ∷ bs) args s inside are same is =
    ready_so (Running (at_block f b (passed f.params (handed world f.params args) no_registers) []) [] world) s (cc)
    (first_ready m well f b bs (handed world f.params args) inside are (handed_covers world f.params args (same_nat_true (length f.params) (length args) same)), tt)
  where
    ready_so : (r s : State) → r ≡ s → StateReady m r → StateReady m s
    ready_so r s e h = subst (StateReady m) e h

unless_ready : (m : Module) → IsWellFormed m → (world : World) (f : Function) (args : List Shown) (s : State) (o : Option InputPath) → (o ≡ None → nat_eq (length f.params) (length args) ≡ true)
    → Contains m.functions f → started_unless o world f args ≡ Some s → StateReady m s
unless_ready m well world f args s None same inside is = entry_ready m well world f f.blocks args s inside refl (same refl) is
unless_ready m well world f args s (Some place) same inside is = absurd (cc)

start_ready : (m : Module) → IsWellFormed m → (x : Name) (input : Input) (s : State) (o : Option Function) → function_named x m.functions ≡ o
    → option_and_then (λ f. started (scope_of m) f input) o ≡ Some s → StateReady m s
start_ready m well x input s None named is = absurd (cc)
start_ready m well x input s (Some f) named is =
    unless_ready m well (world_at_start (scope_of m) input) f input.args s (misfit (scope_of m) f.params input)
    (λ none. unless_none _ _ (or_none (number_misfit f.params input.args) _ none).0)
    (found_inside (λ (f : Function). same_name f.name x) m.functions f named) is

-- ---- what is read there

uses_set : (registers : Registers) (names : List Name) → Sets registers names → (a : Atom Name) → UsesDefined names a → IsSet registers a
uses_set registers names sets (Constant c) uses = tt
uses_set registers names sets (Register x) uses = sets x uses

all_use_set : (registers : Registers) (names : List Name) → Sets registers names → (os : List (Operand Name)) → AllUseDefined names os → AreSet registers os
all_use_set registers names sets [] uses = tt
all_use_set registers names sets (o ∷ os) uses = (uses_set registers names sets o.atom uses.0, all_use_set registers names sets os uses.1)

module _ (registers : Registers) (names : List Name) (sets : Sets registers names) (from name : Name) (at : from ≡ name) where
  phis_read : (ps : List Phi) → AllByRecursion (λ (p : Phi). AllByRecursion (λ (e : Entry). e.from ≡ name → UsesDefined names e.value) p.entries) ps
      → AllByRecursion (λ (p : Phi). (e : Entry) → entry_from from p.entries ≡ Some e → IsSet registers e.value) ps
  phis_read [] uses = tt
  phis_read (p ∷ ps) uses = (
    λ e found.
        let inside = found_inside (λ (e : Entry). same_name e.from from) p.entries e found in
        let same : e.from ≡ from = same_name_true e.from from (found_passes (λ (e : Entry). same_name e.from from) p.entries e found) in
        uses_set registers names sets e.value (all_at (λ (e : Entry). e.from ≡ name → UsesDefined names e.value) p.entries e uses.0 inside (same ∙ at)),
    phis_read ps uses.1,
  )

each_label : (frame : Frame) (xs : List Name) → ((x : Name) → Contains xs x → PhisReadSet frame x) → AllByRecursion (PhisReadSet frame) xs
each_label frame [] h = tt
each_label frame (x ∷ xs) h = (h x (here x xs), each_label frame xs (λ y there. h y (further x xs y there)))

frame_reads : (m : Module) (lines : List Instr) (frame : Frame) → Ready m lines frame → NextReadsSet lines frame
frame_reads m (i ∷ left) frame ready = all_use_set frame.registers ready.known ready.sets (operands_of i) ready.uses.0
frame_reads m [] frame ready =
    let sets : Sets frame.registers (ready.taken ++ names_in (registers_of ready.stands.block)) = subst (Sets frame.registers) (at_its_end m frame ready) ready.sets in (
      all_use_set frame.registers ready.known ready.sets (operands_at_end frame.term) ready.uses,
      each_label frame (successors_of frame.term) (λ x leads c named.
          let edge = edge_to m frame ready c x leads named in
          phis_read frame.registers (ready.taken ++ names_in (registers_of ready.stands.block)) sets frame.block ready.stands.block.name ready.stands.name_is c.phis (ready.ahead (c ∷ []) (edge.0, edge.1, tt)).1),
    )

waiting_reads : (m : Module) (ps : List Pending) → AllWaitReady m ps → AllByRecursion ReadsSetBehind ps
waiting_reads m [] waits = tt
waiting_reads m (p ∷ ps) waits = (λ k v. frame_reads m p.frame.lines (resumed p k v) (waits.0 k v), waiting_reads m ps waits.1)

state_reads : (m : Module) (s : State) → StateReady m s → ReadsSet s
state_reads m (Running frame rest world) ready = (frame_reads m frame.lines frame ready.0, waiting_reads m rest ready.1)
state_reads m (Waiting p rest world) ready = waiting_reads m (p ∷ rest) ready
state_reads m Over ready = tt

pub reads_are_set : ReadsAreSet
reads_are_set m s well reached =
    state_reads m s
    (run_ready m well reached.steps reached.first reached.items s
    (start_ready m well reached.entry reached.input reached.first (function_named reached.entry m.functions) refl reached.starts) reached.leads)
