-- Laws that hold the definitions of running and refining to what they mean.
use Rattle.std.specs.Prelude.{◌≡◌, ◌↔◌, ◌⊎◌, ◌≤◌, ℕ, zero, suc, pos, negsuc, true, false, List, [], ◌∷◌, ◌++◌, None, Some}
use Rattle.std.specs.List.{AllByRecursion}
use Rattle.ir_types.specs.declared.names.Name.{Name}
use Rattle.ir_core.specs.declared.values.Value.{Value}
use Rattle.ir_core.specs.declared.values.Value.TheVariants as value
use Rattle.ir_core.specs.declared.values.Kind.{Kind}
use Rattle.ir_core.specs.declared.operands.CastOp.TheVariants.{ZExt, SExt, Trunc, BitCast}
use Rattle.ir_types.specs.declared.ty.Ty.{Ptr}
use Rattle.ir_types.specs.declared.ty.Ty.TheVariants as ty
use Rattle.ir_core.specs.declared.expressions.Expr.{Expr}
use Rattle.ir_core.specs.declared.operands.Const.{Const}
use Rattle.ir_core.specs.declared.operands.Atom.{Atom}
use Rattle.ir_core.specs.declared.operands.Atom.TheVariants.{Constant, Register}
use Rattle.ir_core.specs.declared.functions.Instr.{Instr}
use Rattle.ir_core.specs.declared.functions.Instr.TheVariants as line
use Rattle.ir_core.specs.declared.functions.Term.{Term}
use Rattle.ir_core.specs.declared.functions.Term.TheVariants.{Ret, RetVoid, Br, CondBr, Switch, Unreachable}
use Rattle.ir_core.specs.declared.functions.Block.{Block}
use Rattle.ir_core.specs.declared.functions.Function.{Function}
use Rattle.ir_core.specs.declared.modules.Module.{Module}
use Rattle.ir_values.specs.Values.{IsLessDefined}
use Rattle.ir_values.specs.declared.operations.Outcome.{Outcome}
use Rattle.ir_values.specs.declared.operations.Outcome.TheVariants.{Gives}
use Rattle.ir_machine.specs.declared.items.Item.{Item}
use Rattle.ir_machine.specs.declared.items.Item.TheVariants.{Turn, Returned, Wrong}
use Rattle.ir_values.specs.Constants.{Scope, constant_value, scope_of}
use Rattle.block_memory.specs.Memory.{Memory}
use Rattle.ir_machine.specs.declared.inputs.Input.{Input}
use Rattle.ir_machine.specs.Registers.{outcome}
use Rattle.ir_machine.specs.State.{State}
use Rattle.ir_machine.specs.Machine.{Made, Follows, asks, ShowsFrom, function_named}
use Rattle.ir_machine.specs.Starting.{given, misfit, start}
use Rattle.ir_machine.specs.Refinement.{Shows, MayShowFrom, Refines, EndTheRun}
use Rattle.ir_machine.specs.Examples.{adding, beside_pair, comparing, converting, dividing, index, memory_of_pair, null, number, pair, part_from, part_of_pair, stating, undef, returning, returning_nothing, selecting, taking, wrapping}

-- A module that returns a constant is refined by one that returns another exactly where the first's value is less defined.
abbrev pub ConstantsRefineByValue : Type 0
ConstantsRefineByValue = (f b : Name) (c d : Const)
    → Refines (returning f b (Constant c)) (returning f b (Constant d))
    ↔ IsLessDefined (constant_value (scope_of (returning f b (Constant c))) (ty.Int 32) c) (constant_value (scope_of (returning f b (Constant d))) (ty.Int 32) d)

-- 7 isn't refined by 8
abbrev pub NumbersAreKept : Type 0
NumbersAreKept = (f b : Name) → Refines (returning f b (number 7)) (returning f b (number 8)) → ⊥

-- nor by undef
abbrev pub NumbersStayDefined : Type 0
NumbersStayDefined = (f b : Name) → Refines (returning f b (number 7)) (returning f b undef) → ⊥

-- undef is refined by 7
abbrev pub UndefIsAnyNumber : Type 0
UndefIsAnyNumber = (f b : Name) → Refines (returning f b undef) (returning f b (number 7))

-- 7 isn't refined by a sum that wrapped though its flag denies it
abbrev pub PoisonIsNoNumber : Type 0
PoisonIsNoNumber = (f b y : Name) → Refines (returning f b (number 7)) (wrapping f b y) → ⊥

-- that sum, whose return is undefined behaviour, is refined by whatever is returned
abbrev pub WrongIsRefined : Type 0
WrongIsRefined = (f b y : Name) (result : Atom Name) → Refines (wrapping f b y) (returning f b result)

-- the argument isn't refined by a constant
abbrev pub ArgumentsAreSeen : Type 0
ArgumentsAreSeen = (f x b : Name) (c : Const) → Refines (taking f x b (Register x)) (taking f x b (Constant c)) → ⊥

-- these items are what a run shows of its one step, if it makes it
abbrev pub AreShownAtOnce : Module → Name → List Item → Type 0
AreShownAtOnce m f items =
    (n : ℕ) (seen : List Item) → Shows m f (given []) (suc n) seen ↔ ((seen ≡ []) ⊎ (seen ≡ items))

-- a line that traps shows undefined behaviour, and the run is over
abbrev pub TrapsAreWrong : Type 0
TrapsAreWrong = (f b y : Name) → AreShownAtOnce (dividing f b y) f (Wrong ∷ [])

-- the return of nothing shows a turn, and that there is no result
abbrev pub VoidReturnsAreShown : Type 0
VoidReturnsAreShown = (f b : Name) → AreShownAtOnce (returning_nothing f b) f (Turn ∷ Returned None ∷ [])

-- What lines of constants give, whatever registers and memory hold. Those whose types no operator takes give poison.
pub record OutcomesAreThese (scope : Scope) (reading : Kind → Name → Value) (memory : Memory) : Type 0 where
  pub plain : outcome scope reading memory (stating (ty.Int 64)) ≡ Gives (value.Num 5)
  pub plain_i65 : outcome scope reading memory (stating (ty.Int 65)) ≡ Gives value.Poison
  pub add : outcome scope reading memory (adding 255) ≡ Gives (value.Num 0)
  pub add_no_i8 : outcome scope reading memory (adding 256) ≡ Gives value.Poison
  pub icmp : outcome scope reading memory (comparing (ty.Int 8)) ≡ Gives (value.Num 1)
  pub icmp_void : outcome scope reading memory (comparing ty.Void) ≡ Gives value.Poison
  pub sext : outcome scope reading memory (converting SExt (ty.Int 1) (ty.Int 8)) ≡ Gives (value.Num 255)
  pub zext_same : outcome scope reading memory (converting ZExt (ty.Int 8) (ty.Int 8)) ≡ Gives value.Poison
  pub trunc_wider : outcome scope reading memory (converting Trunc (ty.Int 8) (ty.Int 16)) ≡ Gives value.Poison
  pub bitcast : outcome scope reading memory (converting BitCast (ty.Int 8) (ty.Int 8)) ≡ Gives (value.Num 1)
  pub select : outcome scope reading memory (selecting (ty.Int 1) (ty.Int 8)) ≡ Gives (value.Num 7)
  pub select_by_i8 : outcome scope reading memory (selecting (ty.Int 8) (ty.Int 8)) ≡ Gives value.Poison
  pub select_of_two : outcome scope reading memory (selecting (ty.Int 1) (ty.Int 16)) ≡ Gives value.Poison

abbrev pub LinesGiveThese : Type 0
LinesGiveThese = (scope : Scope) (reading : Kind → Name → Value) (memory : Memory) → OutcomesAreThese scope reading memory

-- beside `@0 = external global { i8, i32 }`, of 8 bytes
abbrev pub found_at : (Kind → Name → Value) → Expr Name → Outcome
found_at reading e = outcome beside_pair reading memory_of_pair e

-- Addresses of parts, whatever registers hold. What its types don't lead to gives poison. 255 of i8 is -1.
pub record AddressesAreThese (reading : Kind → Name → Value) : Type 0 where
  pub field : found_at reading (part_of_pair true (index 32 0 ∷ index 32 1 ∷ []) (ty.Int 32)) ≡ Gives (value.Ptr 0 (pos 4))
  pub to_the_end : found_at reading (part_of_pair true (index 64 1 ∷ []) pair) ≡ Gives (value.Ptr 0 (pos 8))
  pub past_the_end : found_at reading (part_of_pair true (index 64 2 ∷ []) pair) ≡ Gives value.Poison
  pub past_the_end_without : found_at reading (part_of_pair false (index 64 2 ∷ []) pair) ≡ Gives (value.Ptr 0 (pos 16))
  pub back : found_at reading (part_of_pair false (index 8 255 ∷ []) pair) ≡ Gives (value.Ptr 0 (negsuc 7))
  pub from_null : found_at reading (part_from (Ptr pair) null false (index 64 1 ∷ []) pair) ≡ Gives (value.Bare 8)
  pub from_null_of_other : found_at reading (part_from (Ptr (ty.Int 8)) null false (index 64 1 ∷ []) pair) ≡ Gives value.Poison
  pub from_undef : found_at reading (part_from (Ptr pair) undef false (index 64 1 ∷ []) pair) ≡ Gives value.Undef
  pub from_integer : found_at reading (part_from (ty.Int 64) undef false (index 64 1 ∷ []) pair) ≡ Gives value.Poison
  pub no_field : found_at reading (part_of_pair true (index 32 0 ∷ index 32 2 ∷ []) (ty.Int 32)) ≡ Gives value.Poison
  pub field_by_i64 : found_at reading (part_of_pair true (index 64 0 ∷ index 64 1 ∷ []) (ty.Int 32)) ≡ Gives value.Poison
  pub to_other : found_at reading (part_of_pair true (index 32 0 ∷ index 32 1 ∷ []) (ty.Int 8)) ≡ Gives value.Poison

abbrev pub AddressesGiveThese : Type 0
AddressesGiveThese = (reading : Kind → Name → Value) → AddressesAreThese reading

-- a step, and a run from where it leads, make a run
abbrev pub StepsMakeRuns : Type 0
StepsMakeRuns = (m : Module) (n : ℕ) (s : State) (made : Made) (rest : List Item)
    → Follows (asks m s) made → ShowsFrom m n made.after rest → ShowsFrom m (suc n) s (made.items ++ rest)

-- that many steps lead from the state to another, and show these items
abbrev pub Leads : Module → ℕ → State → List Item → State → Type 0
Leads m zero s items t = (items ≡ []) × (t ≡ s)
Leads m (suc n) s items t = (made : Made) × (rest : List Item) × Follows (asks m s) made × (items ≡ made.items ++ rest) × Leads m n made.after rest t

-- a module shows what at most n steps from its start show
abbrev pub RunsAreSteps : Type 0
RunsAreSteps = (m : Module) (f : Name) (input : Input) (n : ℕ) (items : List Item)
    → Shows m f input n items ↔ ((s t : State) × (k : ℕ) × (start m f input ≡ Some s) × (k ≤ n) × Leads m k s items t)

-- the terminator returns
abbrev pub EndsByReturn : Term → Type 0
EndsByReturn (Ret operand) = Unit {0}
EndsByReturn RetVoid = Unit {0}
EndsByReturn (Br label) = ⊥
EndsByReturn (CondBr c) = ⊥
EndsByReturn (Switch s) = ⊥
EndsByReturn Unreachable = ⊥

-- the line calls no function that the module defines
abbrev pub EntersNone : Module → Instr → Type 0
EntersNone m (line.Call c) = function_named c.callee m.functions ≡ None
EntersNone m (line.Calm l) = Unit {0}
EntersNone m (line.Alloca a) = Unit {0}
EntersNone m (line.Store s) = Unit {0}

-- On fitting input a function of one block, without a phi and with `ret` at its end, that calls the outside alone, ends some run.
abbrev pub OneBlockRunsEnd : Type 0
OneBlockRunsEnd = (m : Module) (x : Name) (f : Function) (b : Block) (input : Input)
    → function_named x m.functions ≡ Some f → f.blocks ≡ b ∷ [] → b.phis ≡ [] → EndsByReturn b.term → AllByRecursion (EntersNone m) b.body
    → misfit (scope_of m) f.params input ≡ None
    → (n : ℕ) × (items : List Item) × Shows m x input n items × EndTheRun items

-- what may be shown begins as some run does, or some run begins with undefined behaviour
abbrev pub FirstsAreShown : Type 0
FirstsAreShown = (m : Module) (s : State) (x : Item) (items : List Item) → MayShowFrom m s (x ∷ items)
    → (n : ℕ) × (first : Item) × (rest : List Item) × ShowsFrom m n s (first ∷ rest) × ((first ≡ x) ⊎ (first ≡ Wrong))

-- where the target starts, so does the source
abbrev pub StartsAreKept : Type 0
StartsAreKept = (source target : Module) → Refines source target
    → (f : Name) (input : Input) (s : State) → start target f input ≡ Some s → start source f input ≡ None → ⊥

-- the source runs as the target does, or to undefined behaviour after a first part of what the target shows
abbrev pub RefinedRunsAreShown : Type 0
RefinedRunsAreShown = (source target : Module) → Refines source target
    → (f : Name) (input : Input) (n : ℕ) (items : List Item) → Shows target f input n items
    → ((k : ℕ) × Shows source f input k items)
    ⊎ ((k : ℕ) × (seen : List Item) × (rest : List Item) × (items ≡ seen ++ rest) × Shows source f input k (seen ++ Wrong ∷ []))
