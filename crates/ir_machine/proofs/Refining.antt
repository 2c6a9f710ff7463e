-- Which of the modules written out refine which.
use Rattle.std.proofs.Common.{◌≡◌, ◌⊎◌, inl, inr, ℕ, ◌<◌, ◌^◌, Bool, true, false, cond, List, [], ◌∷◌, Option, None, Some, MatchOption, refl, sym, ap, ◌∙◌, subst, lit<, arith}
use Rattle.std.specs.Prelude.{option_and_then}
use Rattle.std.proofs.lemmas.Bool.{lt-ltb}
use Rattle.ir_types.specs.declared.names.Name.{Name}
use Rattle.ir_core.specs.declared.values.Value.{Value}
use Rattle.ir_core.specs.declared.values.Value.TheVariants as value
use Rattle.ir_core.specs.declared.values.Kind.TheVariants.{Int}
use Rattle.ir_core.specs.declared.operands.Const.{Const}
use Rattle.ir_core.specs.declared.operands.Const.TheVariants as constant
use Rattle.ir_types.specs.declared.ty.Ty.TheVariants as ty
use Rattle.ir_core.specs.declared.operands.Atom.{Atom}
use Rattle.ir_core.specs.declared.operands.Atom.TheVariants.{Constant, Register}
use Rattle.ir_core.specs.declared.functions.Instr.{Instr}
use Rattle.ir_core.specs.declared.functions.Param.{Param}
use Rattle.ir_core.specs.declared.functions.Function.{Function}
use Rattle.ir_core.specs.declared.modules.Module.{Module}
use Rattle.ir_types.specs.NameLaws.{same_name_refl}
use Rattle.ir_types.specs.Same.{same_name}
use Rattle.ir_values.specs.Constants as constants
use Rattle.ir_values.specs.Constants.{constant_value}
use Rattle.ir_values.specs.Values.{IsInKind, IsLessDefined}
use Rattle.ir_values.proofs.ConstantValues.{constants_in_kind}
use Rattle.ir_values.proofs.ConstantWalks.{of_number, of_undef, worth_number, worth_undef}
use Rattle.block_memory.specs.declared.items.Shown.TheVariants as shown
use Rattle.ir_machine.specs.declared.items.Item.{Item}
use Rattle.ir_machine.specs.declared.items.Item.TheVariants.{Turn, Wrong}
use Rattle.ir_machine.specs.declared.inputs.Input.{Input}
use Rattle.ir_machine.specs.declared.inputs.InputPath.{InputPath}
use Rattle.ir_machine.specs.Registers.{Registers, no_registers, set, read, atom_value}
use Rattle.ir_machine.specs.State.{World, no_scope, no_world, scope_of, State, Running}
use Rattle.ir_machine.specs.Machine.{Follows, asks, at_block, passed, ShowsFrom}
use Rattle.ir_machine.specs.Starting.{given, handed, misfit, start, started, started_unless, world_at_start}
use Rattle.ir_machine.specs.Refinement.{MayShowFrom, Refines}
use Rattle.ir_machine.specs.Examples.{block, defining, returning, taking, wrapping, wrapping_line, number, undef}
use Rattle.ir_machine.specs.Laws.{ConstantsRefineByValue, NumbersAreKept, NumbersStayDefined, UndefIsAnyNumber, PoisonIsNoNumber, WrongIsRefined, ArgumentsAreSeen}
use Rattle.ir_machine.proofs.Runs.{step_on, may_show_nothing, may_step_on}
use Rattle.ir_machine.proofs.Returning.{Returns, IsReturn, returns_only, returns_shown, may_return, may_show_turn, return_turns, less_defined, simulates}
use Rattle.ir_core.specs.Modules.{plain_function, plain_param}

abbrev pub alone : Name → List Param → Name → List Instr → Atom Name → Function
alone f params b lines result = plain_function (ty.Int 32) f params (block b lines result ∷ [])

-- in the function, at a block's start
abbrev pub entering : Function → Name → List Instr → Atom Name → Registers → World → State
entering f b lines result registers world = Running (at_block f (block b lines result) registers []) [] world

-- the functions of the examples
abbrev returner : Name → Name → Atom Name → Function
returner f b result = alone f [] b [] result

abbrev wrapper : Name → Name → Name → Function
wrapper f b y = alone f [] b (wrapping_line y ∷ []) (Register y)

abbrev taker : Name → Name → Name → Atom Name → Function
taker f x b result = alone f (plain_param (ty.Int 32) x ∷ []) b [] result

-- the target runs from its state only as the source may from its own
abbrev pub RunsLike : Module → State → Module → State → Type 0
RunsLike source s target t = (n : ℕ) (items : List Item) → ShowsFrom target n t items → MayShowFrom source s items

-- what refinement says of two states that the modules start in
pub refines_from : (source target : Module) (f : Name) (input : Input) (s t : State) → start source f input ≡ Some s → start target f input ≡ Some t
    → Refines source target → RunsLike source s target t
refines_from source target f input s t p q h n items shows =
    subst (λ (o : Option State). MatchOption o ⊥ (λ x. MayShowFrom source x items)) p
    (h f input n items (subst (λ (o : Option State). MatchOption o ⊥ (λ x. ShowsFrom target n x items)) (sym q) shows))

-- and when it holds of two modules of one function each
pub refines_by : (f : Name) (params : List Param) (b c : Name) (ls ks : List Instr) (u v : Atom Name)
    → ((registers : Registers) (world : World) → RunsLike (defining f params b ls u) (entering (alone f params b ls u) b ls u registers world)
    (defining f params c ks v) (entering (alone f params c ks v) c ks v registers world))
    → Refines (defining f params b ls u) (defining f params c ks v)
refines_by f params b c ls ks u v h x input n items = by_name (same_name f x)
  where
    at : World
    at = world_at_start no_scope input

    by_misfit : (o : Option InputPath) → MatchOption (started_unless o at (alone f params c ks v) input.args) ⊥ (λ s. ShowsFrom (defining f params c ks v) n s items)
        → MatchOption (started_unless o at (alone f params b ls u) input.args) ⊥ (λ s. MayShowFrom (defining f params b ls u) s items)
    by_misfit (Some place) shows = absurd shows
    by_misfit None shows = h (passed params (handed at params input.args) no_registers) at n items shows

    by_name : (same : Bool) → MatchOption (option_and_then (λ g. started no_scope g input) (cond same (Some (alone f params c ks v)) None)) ⊥ (λ s. ShowsFrom (defining f params c ks v) n s items)
        → MatchOption (option_and_then (λ g. started no_scope g input) (cond same (Some (alone f params b ls u)) None)) ⊥ (λ s. MayShowFrom (defining f params b ls u) s items)
    by_name true shows = by_misfit (misfit no_scope params input) shows
    by_name false shows = absurd shows

starts : (f b : Name) (lines : List Instr) (result : Atom Name)
    → start (defining f [] b lines result) f (given []) ≡ Some (entering (alone f [] b lines result) b lines result no_registers no_world)
starts f b lines result = rw (same_name_refl f) refl

-- what a constant is worth at i32 in a module
abbrev worth : Module → Const → Value
worth m c = constant_value (scope_of m) (ty.Int 32) c

worth_in_kind : (m : Module) (c : Const) → IsInKind (Int 32) (worth m c)
worth_in_kind m c = constants_in_kind (scope_of m) (ty.Int 32) c (Int 32) refl

number_worth : (m : Module) (n : ℕ) → n < 2 ^ 32 → worth m (constant.Number n) ≡ value.Num n
number_worth m n below =
    ap (λ (is : Bool). cond is (constants.worth (scope_of m) (constant.Number n) (ty.Int 32)) value.Poison) (of_number (scope_of m) (ty.Int 32) n)
    ∙ worth_number (scope_of m) (ty.Int 32) n
    ∙ ap (λ (is : Bool). cond is (value.Num n) value.Poison) (lt-ltb n (2 ^ 32) below)

undef_worth : (m : Module) → worth m constant.Undef ≡ value.Undef
undef_worth m =
    ap (λ (is : Bool). cond is (constants.worth (scope_of m) constant.Undef (ty.Int 32)) value.Poison) (of_undef (scope_of m) (ty.Int 32)) ∙ worth_undef (scope_of m) (ty.Int 32)

pub constants_refine : ConstantsRefineByValue
constants_refine f b c d = (
  λ h. less_defined no_world (returning f b (Constant c)) (returning f b (Constant d)) (entering (returner f b (Constant c)) b [] (Constant c) no_registers no_world) (entering (returner f b (Constant d)) b [] (Constant d) no_registers no_world) (worth (returning f b (Constant c)) c) (worth (returning f b (Constant d)) d) refl refl
      (worth_in_kind (returning f b (Constant c)) c) (worth_in_kind (returning f b (Constant d)) d)
      (refines_from (returning f b (Constant c)) (returning f b (Constant d)) f (given []) (entering (returner f b (Constant c)) b [] (Constant c) no_registers no_world) (entering (returner f b (Constant d)) b [] (Constant d) no_registers no_world) (starts f b [] (Constant c)) (starts f b [] (Constant d)) h),
  λ less. refines_by f [] b b [] [] (Constant c) (Constant d) (λ registers world.
      simulates world (returning f b (Constant c)) (returning f b (Constant d)) (entering (returner f b (Constant c)) b [] (Constant c) registers world) (entering (returner f b (Constant d)) b [] (Constant d) registers world) (worth (returning f b (Constant c)) c) (worth (returning f b (Constant d)) d) refl refl
      (worth_in_kind (returning f b (Constant d)) d) less),
)

one_number : (m n : ℕ) → value.Num m ≡ value.Num n → m ≡ n
one_number m n e = cc

-- constants whose values are known
refined_values : (f b : Name) (c d : Const) (v w : Value) → worth (returning f b (Constant c)) c ≡ v → worth (returning f b (Constant d)) d ≡ w
    → Refines (returning f b (Constant c)) (returning f b (Constant d)) → IsLessDefined v w
refined_values f b c d v w p q h =
    subst (λ (x : Value). IsLessDefined x w) p (subst (IsLessDefined (worth (returning f b (Constant c)) c)) q ((constants_refine f b c d).0 h))

pub numbers_are_kept : NumbersAreKept
numbers_are_kept f b h =
    let same : value.Num 8 ≡ value.Num 7 = refined_values f b (constant.Number 7) (constant.Number 8) (value.Num 7) (value.Num 8)
    (number_worth (returning f b (number 7)) 7 (lit< tt)) (number_worth (returning f b (number 8)) 8 (lit< tt)) h in
    let differ = one_number 8 7 same in
    omega arith

pub numbers_stay_defined : NumbersStayDefined
numbers_stay_defined f b h =
    let same : value.Undef ≡ value.Num 7 = refined_values f b (constant.Number 7) constant.Undef (value.Num 7) value.Undef
    (number_worth (returning f b (number 7)) 7 (lit< tt)) (undef_worth (returning f b undef)) h in
    cc

pub undef_is_any_number : UndefIsAnyNumber
undef_is_any_number f b =
    (constants_refine f b constant.Undef (constant.Number 7)).1
    (subst (λ (x : Value). IsLessDefined x (worth (returning f b (number 7)) (constant.Number 7))) (sym (undef_worth (returning f b undef)))
    (subst (IsLessDefined value.Undef) (sym (number_worth (returning f b (number 7)) 7 (lit< tt))) tt))

-- the sum is poison
abbrev wrapped : Name → Registers → Registers
wrapped y registers = set registers y (Some (Int 32)) value.Poison

wraps : (m : Module) (f b y : Name) (registers : Registers) (world : World) → Returns m world (entering (wrapper f b y) b [] (Register y) (wrapped y registers) world) value.Poison
wraps m f b y registers world = rw (same_name_refl y) refl

wraps_at : (f b y : Name) (registers : Registers) (world : World) → Follows (asks (wrapping f b y) (entering (wrapper f b y) b (wrapping_line y ∷ []) (Register y) registers world))
    (record { told = []; items = []; after = entering (wrapper f b y) b [] (Register y) (wrapped y registers) world })
wraps_at f b y registers world = simp (of_number, worth_number) refl

-- what the wrapping module may show: whatever begins with a turn
wrapping_turns : (f b y : Name) (registers : Registers) (world : World) (rest : List Item) → MayShowFrom (wrapping f b y) (entering (wrapper f b y) b (wrapping_line y ∷ []) (Register y) registers world) (Turn ∷ rest)
wrapping_turns f b y registers world rest =
    may_step_on (wrapping f b y) (entering (wrapper f b y) b (wrapping_line y ∷ []) (Register y) registers world)
    (record { told = []; items = []; after = entering (wrapper f b y) b [] (Register y) (wrapped y registers) world }) (Turn ∷ rest) (wraps_at f b y registers world)
    (may_show_turn world (wrapping f b y) (entering (wrapper f b y) b [] (Register y) (wrapped y registers) world) rest (wraps (wrapping f b y) f b y registers world))

wrapping_wrong : (f b y : Name) (registers : Registers) (world : World) → ShowsFrom (wrapping f b y) 2 (entering (wrapper f b y) b (wrapping_line y ∷ []) (Register y) registers world) (Turn ∷ Wrong ∷ [])
wrapping_wrong f b y registers world =
    step_on (wrapping f b y) 1 (entering (wrapper f b y) b (wrapping_line y ∷ []) (Register y) registers world)
    (record { told = []; items = []; after = entering (wrapper f b y) b [] (Register y) (wrapped y registers) world }) (Turn ∷ Wrong ∷ []) (wraps_at f b y registers world)
    (returns_shown world (wrapping f b y) (entering (wrapper f b y) b [] (Register y) (wrapped y registers) world) value.Poison (wraps (wrapping f b y) f b y registers world) (Turn ∷ Wrong ∷ []) refl)

abbrev at_seven : Name → Name → State
at_seven f b = entering (returner f b (number 7)) b [] (number 7) no_registers no_world

abbrev at_sum : Name → Name → Name → State
at_sum f b y = entering (wrapper f b y) b (wrapping_line y ∷ []) (Register y) no_registers no_world

never_seven : (Turn ∷ Wrong ∷ [] ≡ []) ⊎ IsReturn no_world (value.Num 7) (Turn ∷ Wrong ∷ []) → ⊥
never_seven (inl e) = cc
never_seven (inr e) = cc

pub poison_is_no_number : PoisonIsNoNumber
poison_is_no_number f b y h = never_seven (may_return no_world (returning f b (number 7)) (at_seven f b) (value.Num 7) (simp (of_number, worth_number) refl) (λ e. cc) (Turn ∷ Wrong ∷ [])
    (refines_from (returning f b (number 7)) (wrapping f b y) f (given []) (at_seven f b) (at_sum f b y) (starts f b [] (number 7)) (starts f b (wrapping_line y ∷ []) (Register y))
    h 2 (Turn ∷ Wrong ∷ []) (wrapping_wrong f b y no_registers no_world)))

pub wrong_is_refined : WrongIsRefined
wrong_is_refined f b y result = refines_by f [] b b (wrapping_line y ∷ []) [] (Register y) result (λ registers world n items shows.
    turned registers world items (returns_only world (returning f b result) (entering (returner f b result) b [] result registers world) (atom_value (scope_of (returning f b result)) (read registers) (ty.Int 32) result) refl n items shows))
  where
    turned : (registers : Registers) (world : World) (items : List Item) → (items ≡ []) ⊎ IsReturn world (atom_value (scope_of (returning f b result)) (read registers) (ty.Int 32) result) items
        → MayShowFrom (wrapping f b y) (entering (wrapper f b y) b (wrapping_line y ∷ []) (Register y) registers world) items
    turned registers world items (inl e) = subst (λ (l : List Item). MayShowFrom (wrapping f b y) (entering (wrapper f b y) b (wrapping_line y ∷ []) (Register y) registers world) l) (sym e)
        (may_show_nothing (wrapping f b y) (entering (wrapper f b y) b (wrapping_line y ∷ []) (Register y) registers world))
    turned registers world items (inr r) =
        let turns = return_turns world (atom_value (scope_of (returning f b result)) (read registers) (ty.Int 32) result) items r in
        subst (λ (l : List Item). MayShowFrom (wrapping f b y) (entering (wrapper f b y) b (wrapping_line y ∷ []) (Register y) registers world) l) (sym turns.1)
        (wrapping_turns f b y registers world turns.0)

-- the registers on entry with that argument
abbrev taken : Name → ℕ → Registers
taken x n = set no_registers x (Some (Int 32)) (value.Num n)

returns_argument : (m : Module) (f x b : Name) (n : ℕ) → Returns m no_world (entering (taker f x b (Register x)) b [] (Register x) (taken x n) no_world) (value.Num n)
returns_argument m f x b n = rw (same_name_refl x) refl

argument_kept : (f x b : Name) (c : Const) (n : ℕ) → n < 2 ^ 32 → Refines (taking f x b (Register x)) (taking f x b (Constant c))
    → start (taking f x b (Register x)) f (given (shown.Num n ∷ [])) ≡ Some (entering (taker f x b (Register x)) b [] (Register x) (taken x n) no_world)
    → start (taking f x b (Constant c)) f (given (shown.Num n ∷ [])) ≡ Some (entering (taker f x b (Constant c)) b [] (Constant c) (taken x n) no_world)
    → worth (taking f x b (Constant c)) c ≡ value.Num n
argument_kept f x b c n fits h p q =
    less_defined no_world (taking f x b (Register x)) (taking f x b (Constant c)) (entering (taker f x b (Register x)) b [] (Register x) (taken x n) no_world) (entering (taker f x b (Constant c)) b [] (Constant c) (taken x n) no_world)
    (value.Num n) (worth (taking f x b (Constant c)) c) (returns_argument (taking f x b (Register x)) f x b n) refl fits (worth_in_kind (taking f x b (Constant c)) c)
    (refines_from (taking f x b (Register x)) (taking f x b (Constant c)) f (given (shown.Num n ∷ [])) (entering (taker f x b (Register x)) b [] (Register x) (taken x n) no_world) (entering (taker f x b (Constant c)) b [] (Constant c) (taken x n) no_world) p q h)

pub arguments_are_seen : ArgumentsAreSeen
arguments_are_seen f x b c h =
    let none : worth (taking f x b (Constant c)) c ≡ value.Num 0 = argument_kept f x b c 0 (lit< tt) h (rw (same_name_refl f) refl) (rw (same_name_refl f) refl) in
    let one : worth (taking f x b (Constant c)) c ≡ value.Num 1 = argument_kept f x b c 1 (lit< tt) h (rw (same_name_refl f) refl) (rw (same_name_refl f) refl) in
    let differ = one_number 0 1 (sym none ∙ one) in
    omega arith
