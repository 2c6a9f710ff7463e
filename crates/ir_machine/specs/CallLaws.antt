-- Runs with calls, of modules that are written out: an example of each case, worked out by hand from the LangRef.
use Rattle.std.specs.Prelude.{◌≡◌, ℕ, pos, false, List, [], ◌∷◌, None, Some}
use Rattle.ir_types.specs.declared.names.Name.{Name}
use Rattle.ir_types.specs.declared.names.Name.TheVariants.{Number}
use Rattle.ir_types.specs.declared.ty.Ty.{Ty}
use Rattle.ir_types.specs.declared.ty.Ty.TheVariants.{Int, Void}
use Rattle.ir_core.specs.declared.functions.Argument.{Argument}
use Rattle.ir_core.specs.declared.functions.Function.{Function}
use Rattle.ir_core.specs.declared.functions.Instr.{Instr}
use Rattle.ir_core.specs.declared.functions.Term.TheVariants.{CondBr, RetVoid}
use Rattle.ir_core.specs.declared.modules.Linkage.TheVariants as linkage
use Rattle.ir_core.specs.declared.modules.Module.{Module}
use Rattle.ir_core.specs.declared.operands.Atom.{Atom}
use Rattle.ir_core.specs.Modules.{plain_function}
use Rattle.block_memory.specs.declared.items.Choice.{Choice}
use Rattle.block_memory.specs.declared.items.Choice.TheVariants.{Fresh, New, Pick, PickByte, Read, Reply, Write}
use Rattle.block_memory.specs.declared.items.Choice.TheVariants as choice
use Rattle.block_memory.specs.declared.items.Shown.{Shown}
use Rattle.block_memory.specs.declared.items.Shown.TheVariants as shown
use Rattle.block_memory.specs.declared.items.ShownByte.TheVariants as part
use Rattle.ir_machine.specs.declared.items.Item.{Item}
use Rattle.ir_machine.specs.declared.items.Item.TheVariants.{Called, EnvNew, EnvRead, EnvWrite, Replied, Returned, Turn, Wrong}
use Rattle.ir_machine.specs.CallExamples.{argument, beside_outside, calling, declared, defined, entering_with, giving, holding_number, param, pointer, register, run_of, run_on}
use Rattle.ir_machine.specs.Examples.{number, undef}
use Rattle.ir_machine.specs.FlowExamples.{block}
use Rattle.ir_machine.specs.SlotLaws.{Ran, loading, slot, storing}
use Rattle.ir_machine.specs.Refinement.{Refines, Shows}
use Rattle.ir_machine.specs.Starting.{given}
use Rattle.ir_machine.specs.State.{State, Over}

-- the run has shown these items, and is over
abbrev pub shows : List Item → Ran
shows items = Some (items, Over)

-- ---- calls of what the module defines

-- what so many steps show: define ty @0() { 1: LINES  ret ty ATOM }  CALLEES
abbrev pub ran_with : List Function → Ty → List Instr → Atom Name → ℕ → Ran
ran_with callees ty lines result steps = run_of (entering_with callees ty lines (giving ty result)) steps []

-- define i32 @10(i32 %5) { 1: ret i32 %5 }
abbrev pub echo : Function
echo = defined 10 (Int 32) (param (Int 32) 5 ∷ []) [] (giving (Int 32) (register 5))

-- define i32 @10() { 1: ret i32 k }
abbrev pub constant : ℕ → Function
constant k = defined 10 (Int 32) [] [] (giving (Int 32) (number k))

-- define void @10() { 1: LINES  ret void }
abbrev pub doing : List Instr → Function
doing lines = defined 10 Void [] lines RetVoid

-- the turns of a call, of its return and of the last return, and then the result
abbrev pub called_and_gave : ℕ → Ran
called_and_gave k = shows (Turn ∷ Turn ∷ Turn ∷ Returned (Some (shown.Num k)) ∷ [])

-- the same of poison
abbrev pub called_and_went_wrong : Ran
called_and_went_wrong = shows (Turn ∷ Turn ∷ Turn ∷ Wrong ∷ [])

abbrev pub went_wrong : Ran
went_wrong = shows (Wrong ∷ [])

-- %2 = call i32 @10(ARGUMENTS)  ret i32 %2
abbrev pub gives_back : List Function → List Argument → Ran
gives_back callees arguments = ran_with callees (Int 32) (calling (Some 2) (Int 32) 10 arguments ∷ []) (register 2) 3

-- A call shows its turn, and its return another. A parameter without an argument isn't set. An argument is read at its parameter's kind, and
-- what is returned at the call's.
pub record CallsGiveTheirValues : Type 0 where
  pub value : gives_back (echo ∷ []) (argument (Int 32) (number 7) ∷ []) ≡ called_and_gave 7
  pub nothing : run_of (entering_with (doing [] ∷ []) Void (calling None Void 10 [] ∷ []) RetVoid) 3 [] ≡ shows (Turn ∷ Turn ∷ Turn ∷ Returned None ∷ [])
  pub unused : run_of (entering_with (constant 7 ∷ []) Void (calling None (Int 32) 10 [] ∷ []) RetVoid) 3 [] ≡ shows (Turn ∷ Turn ∷ Turn ∷ Returned None ∷ [])
  pub too_few : gives_back (echo ∷ []) [] ≡ called_and_went_wrong
  pub too_many : gives_back (echo ∷ []) (argument (Int 32) (number 7) ∷ argument (Int 32) (number 8) ∷ []) ≡ called_and_gave 7
  pub of_another_kind : gives_back (echo ∷ []) (argument (Int 8) (number 7) ∷ []) ≡ called_and_went_wrong
  pub given_at_another_kind : ran_with (constant 7 ∷ []) (Int 8) (calling (Some 2) (Int 8) 10 [] ∷ []) (register 2) 3 ≡ called_and_went_wrong
  pub read_as_it_was_passed : ran_with (defined 10 (Int 8) (param (Int 32) 5 ∷ []) [] (giving (Int 8) (register 5)) ∷ []) (Int 8)
      (calling (Some 2) (Int 8) 10 (argument (Int 8) (number 7) ∷ []) ∷ []) (register 2) 3 ≡ called_and_went_wrong
  pub read_as_it_was_returned : ran_with (constant 7 ∷ []) (Int 32) (calling (Some 2) (Int 8) 10 [] ∷ []) (register 2) 3 ≡ called_and_went_wrong
  pub of_nothing : gives_back (doing [] ∷ []) [] ≡ called_and_went_wrong

-- The first definition is called, also where the module declares the function too. Without one that has a block, and without a declaration, a
-- call is undefined behaviour.
pub record CalleesAreFound : Type 0 where
  pub first : gives_back (constant 7 ∷ constant 8 ∷ []) [] ≡ called_and_gave 7
  pub declared_too : run_of (record (entering_with (constant 7 ∷ []) (Int 32) (calling (Some 2) (Int 32) 10 [] ∷ []) (giving (Int 32) (register 2)))
      { declarations = declared 10 ∷ [] }) 3 [] ≡ called_and_gave 7
  pub without_block : run_of (entering_with (plain_function Void (Number 10) [] [] ∷ []) Void (calling None Void 10 [] ∷ []) RetVoid) 1 [] ≡ went_wrong
  pub nowhere : run_of (entering_with [] Void (calling None Void 10 [] ∷ []) RetVoid) 1 [] ≡ went_wrong
  pub of_a_global : run_of (record (entering_with [] Void (calling None Void 10 [] ∷ []) RetVoid)
      { globals = record { name = Number 10; linkage = linkage.External; constant = false; ty = Int 8; init = None; align = None } ∷ [] }) 1 [] ≡ went_wrong

-- define i32 @0(i1 %9) { 1: br i1 %9, label %2, label %3  2: %4 = call i32 @0(i1 0)  ret i32 %4  3: ret i32 7 }
abbrev pub recursive : Module
recursive = beside_outside (plain_function (Int 32) (Number 0) (param (Int 1) 9 ∷ []) (
    block 1 [] (CondBr (record { condition = record { ty = Int 1; atom = register 9 }; on_true = Number 2; on_false = Number 3 }))
    ∷ record (block 2 [] (giving (Int 32) (register 4))) { body = calling (Some 4) (Int 32) 0 (argument (Int 1) (number 0) ∷ []) ∷ [] }
    ∷ block 3 [] (giving (Int 32) (number 7))
    ∷ []) ∷ [])

-- The last return alone shows a result, also where the function has called itself.
pub record RecursionShowsOneResult : Type 0 where
  pub once : run_on (shown.Num 1 ∷ []) recursive 5 [] ≡ shows (Turn ∷ Turn ∷ Turn ∷ Turn ∷ Turn ∷ Returned (Some (shown.Num 7)) ∷ [])
  pub never : run_on (shown.Num 0 ∷ []) recursive 2 [] ≡ shows (Turn ∷ Turn ∷ Returned (Some (shown.Num 7)) ∷ [])

-- define i8* @10() { 1: %2 = alloca i8  store i8 7, i8* %2  ret i8* %2 }
abbrev pub leaving_slot : Function
leaving_slot = defined 10 pointer [] (slot 2 (Int 8) ∷ storing (Int 8) 7 2 ∷ []) (giving pointer (register 2))

-- define void @10(i8* %5) { 1: %2 = alloca i8  store i8 k, i8* %5  ret void }
abbrev pub storing_through : ℕ → Function
storing_through k = defined 10 Void (param pointer 5 ∷ []) (slot 2 (Int 8) ∷ storing (Int 8) k 5 ∷ []) RetVoid

-- A callee has registers of its own. Its slots end with it, and its caller's stay.
pub record FramesAreApart : Type 0 where
  pub callee_slot : ran_with (leaving_slot ∷ []) (Int 8) (calling (Some 2) pointer 10 [] ∷ loading 3 (Int 8) 2 ∷ []) (register 3) 5 ≡ shows (Turn ∷ Turn ∷ Wrong ∷ [])
  pub caller_slot : ran_with (doing (slot 2 (Int 8) ∷ storing (Int 8) 9 2 ∷ []) ∷ []) (Int 8)
      (slot 2 (Int 8) ∷ storing (Int 8) 7 2 ∷ calling None Void 10 [] ∷ loading 3 (Int 8) 2 ∷ []) (register 3) 8 ≡ called_and_gave 7
  pub through : ran_with (storing_through 9 ∷ []) (Int 8)
      (slot 2 (Int 8) ∷ storing (Int 8) 7 2 ∷ calling None Void 10 (argument pointer (register 2) ∷ []) ∷ loading 3 (Int 8) 2 ∷ []) (register 3) 8 ≡ called_and_gave 9
  pub callers_registers : ran_with (defined 10 (Int 32) [] [] (giving (Int 32) (register 5)) ∷ []) (Int 32)
      (holding_number 5 (Int 32) 7 ∷ calling (Some 2) (Int 32) 10 [] ∷ []) (register 2) 4 ≡ called_and_went_wrong
  pub callees_registers : ran_with (doing (holding_number 5 (Int 32) 8 ∷ []) ∷ []) (Int 32)
      (holding_number 5 (Int 32) 7 ∷ calling None Void 10 [] ∷ []) (register 5) 5 ≡ called_and_gave 7

-- ---- calls of the outside

-- @20 is called with these
abbrev pub outside : List Shown → Item
outside arguments = Called (Number 20) arguments

-- name x, at its first byte
abbrev pub name : ℕ → Shown
name x = shown.Name x (pos 0)

-- what so many steps show: define void @0() { 1: call void @20(ARGUMENTS)  ret void }
abbrev pub ran_out : List Argument → ℕ → List Choice → Ran
ran_out arguments steps choices = run_of (entering_with [] Void (calling None Void 20 arguments ∷ []) RetVoid) steps choices

-- it is answered by nothing, and the run ends
abbrev pub shown_out : List Shown → Ran
shown_out arguments = shows (outside arguments ∷ Replied None ∷ Turn ∷ Returned None ∷ [])

-- Arguments are shown from the left, each asking for its choice when it is reached, and the first poison is undefined behaviour: 256 of i8 is
-- poison. A name that one of them is shown by is there for the next.
pub record ArgumentsAreShownInOrder : Type 0 where
  pub numbers : ran_out (argument (Int 32) (number 7) ∷ argument (Int 8) (number 8) ∷ []) 3 (Reply None ∷ []) ≡ shown_out (shown.Num 7 ∷ shown.Num 8 ∷ [])
  pub poison : ran_out (argument (Int 32) (number 7) ∷ argument (Int 8) (number 256) ∷ []) 1 [] ≡ went_wrong
  pub poison_first : ran_out (argument (Int 8) (number 256) ∷ argument (Int 8) undef ∷ []) 1 [] ≡ went_wrong
  pub undef_first : ran_out (argument (Int 8) undef ∷ argument (Int 8) (number 256) ∷ []) 1 [] ≡ None
  pub undef_told : ran_out (argument (Int 8) undef ∷ argument (Int 8) (number 256) ∷ []) 1 (Pick (shown.Num 3) ∷ []) ≡ went_wrong
  pub undef_mistold : ran_out (argument (Int 8) undef ∷ argument (Int 8) (number 256) ∷ []) 1 (Pick (shown.Num 256) ∷ []) ≡ None
  pub answered_early : ran_out (argument (Int 8) undef ∷ []) 1 (Reply None ∷ []) ≡ None
  pub two_undefs : ran_out (argument (Int 8) undef ∷ argument (Int 8) undef ∷ []) 3 (Pick (shown.Num 3) ∷ Pick (shown.Num 4) ∷ Reply None ∷ [])
      ≡ shown_out (shown.Num 3 ∷ shown.Num 4 ∷ [])
  pub second_lacks : ran_out (argument (Int 8) undef ∷ argument (Int 8) undef ∷ []) 1 (Pick (shown.Num 3) ∷ []) ≡ None
  pub one_name : ran_out (argument pointer undef ∷ argument pointer undef ∷ []) 3 (Fresh None (pos 0) ∷ Pick (name 0) ∷ Reply None ∷ []) ≡ shown_out (name 0 ∷ name 0 ∷ [])
  pub two_names : ran_out (argument pointer undef ∷ argument pointer undef ∷ []) 3 (Fresh None (pos 0) ∷ Fresh None (pos 0) ∷ Reply None ∷ [])
      ≡ shown_out (name 0 ∷ name 1 ∷ [])
  pub no_name_yet : ran_out (argument pointer undef ∷ argument pointer undef ∷ []) 1 (Pick (name 0) ∷ Fresh None (pos 0) ∷ []) ≡ None

-- what so many steps show: define ty @0() { 1: %2 = alloca i8  store i8 7, i8* %2  LINES  ret ty %result }
abbrev pub ran_slot : List Instr → Ty → ℕ → ℕ → List Choice → Ran
ran_slot lines ty result steps choices =
    run_of (entering_with [] ty (slot 2 (Int 8) ∷ storing (Int 8) 7 2 ∷ lines) (giving ty (register result))) steps choices

-- call void @20(i8* %2)
abbrev pub lending : Instr
lending = calling None Void 20 (argument pointer (register 2) ∷ [])

abbrev pub gave : ℕ → List Item
gave k = Turn ∷ Returned (Some (shown.Num k)) ∷ []

-- An address is shown by a name, by which the outside reaches its block while calls wait, and no other block. What it writes is loaded behind
-- the call.
pub record TheOutsideReachesWhatItIsShown : Type 0 where
  pub unwritten : ran_slot (lending ∷ loading 3 (Int 8) 2 ∷ []) (Int 8) 3 6 (Reply None ∷ []) ≡ shows (outside (name 0 ∷ []) ∷ Replied None ∷ gave 7)
  pub written : ran_slot (lending ∷ loading 3 (Int 8) 2 ∷ []) (Int 8) 3 7 (Write 0 (pos 0) (part.Num 9) ∷ Reply None ∷ [])
      ≡ shows (outside (name 0 ∷ []) ∷ EnvWrite 0 (pos 0) (part.Num 9) ∷ Replied None ∷ gave 9)
  pub written_past : ran_slot (lending ∷ loading 3 (Int 8) 2 ∷ []) (Int 8) 3 7 (Write 0 (pos 1) (part.Num 9) ∷ Reply None ∷ []) ≡ None
  pub not_lent : ran_slot (calling None Void 20 [] ∷ loading 3 (Int 8) 2 ∷ []) (Int 8) 3 7 (Write 0 (pos 0) (part.Num 9) ∷ Reply None ∷ []) ≡ None
  pub lent_before : ran_slot (lending ∷ calling None Void 21 [] ∷ loading 3 (Int 8) 2 ∷ []) (Int 8) 3 9 (Reply None ∷ Write 0 (pos 0) (part.Num 9) ∷ Reply None ∷ [])
      ≡ shows (outside (name 0 ∷ []) ∷ Replied None ∷ Called (Number 21) [] ∷ EnvWrite 0 (pos 0) (part.Num 9) ∷ Replied None ∷ gave 9)
  pub same_name : ran_slot (lending ∷ lending ∷ loading 3 (Int 8) 2 ∷ []) (Int 8) 3 8 (Reply None ∷ Reply None ∷ [])
      ≡ shows (outside (name 0 ∷ []) ∷ Replied None ∷ outside (name 0 ∷ []) ∷ Replied None ∷ gave 7)
  pub two_slots : ran_slot (slot 3 (Int 8) ∷ calling None Void 20 (argument pointer (register 3) ∷ argument pointer (register 2) ∷ []) ∷ loading 4 (Int 8) 2 ∷ []) (Int 8) 4 8
      (Write 1 (pos 0) (part.Num 9) ∷ Reply None ∷ []) ≡ shows (outside (name 0 ∷ name 1 ∷ []) ∷ EnvWrite 1 (pos 0) (part.Num 9) ∷ Replied None ∷ gave 9)
  pub made : run_of (entering_with [] (Int 8) (calling (Some 2) pointer 20 [] ∷ loading 3 (Int 8) 2 ∷ []) (giving (Int 8) (register 3))) 5
      (New 1 (part.Num 4 ∷ []) ∷ Reply (Some (name 0)) ∷ []) ≡ shows (outside [] ∷ EnvNew 1 (part.Num 4 ∷ []) ∷ Replied (Some (name 0)) ∷ gave 4)
  pub nothing_reached : ran_out (argument pointer undef ∷ []) 4 (Fresh None (pos 0) ∷ Read 0 (pos 0) ∷ Reply None ∷ []) ≡ None
  pub gone_wrong : ran_out (argument pointer undef ∷ []) 2 (Fresh None (pos 0) ∷ choice.Wrong ∷ []) ≡ shows (outside (name 0 ∷ []) ∷ Wrong ∷ [])
  pub not_gone_wrong : ran_out (argument pointer undef ∷ []) 2 (Pick (shown.Bare 0) ∷ choice.Wrong ∷ []) ≡ None

-- what so many steps show: define ty @0() { 1: %2 = call ty @20()  ret ty %2 }
abbrev pub ran_answered : Ty → ℕ → List Choice → Ran
ran_answered ty steps choices = run_of (entering_with [] ty (calling (Some 2) ty 20 [] ∷ []) (giving ty (register 2))) steps choices

-- A reply is of the call's kind, whatever is declared, and sets the call's register; a call that names none takes its reply too. A name that
-- is bound to nothing is undef, and an undef byte that is read stays what it is.
pub record RepliesAreTaken : Type 0 where
  pub number : ran_answered (Int 32) 3 (Reply (Some (shown.Num 5)) ∷ []) ≡ shows (outside [] ∷ Replied (Some (shown.Num 5)) ∷ gave 5)
  pub calls_kind : ran_answered (Int 8) 3 (Reply (Some (shown.Num 256)) ∷ []) ≡ None
  pub nothing : ran_answered (Int 32) 3 (Reply None ∷ []) ≡ None
  pub unused : run_of (entering_with [] Void (calling None (Int 32) 20 [] ∷ []) RetVoid) 3 (Reply (Some (shown.Num 5)) ∷ [])
      ≡ shows (outside [] ∷ Replied (Some (shown.Num 5)) ∷ Turn ∷ Returned None ∷ [])
  pub unused_by_nothing : run_of (entering_with [] Void (calling None (Int 32) 20 [] ∷ []) RetVoid) 3 (Reply None ∷ []) ≡ None
  pub void_by_a_number : ran_out [] 3 (Reply (Some (shown.Num 5)) ∷ []) ≡ None
  pub loose : run_of (entering_with [] pointer (calling (Some 2) pointer 20 (argument pointer undef ∷ []) ∷ []) (giving pointer (register 2))) 3
      (Fresh None (pos 0) ∷ Reply (Some (name 0)) ∷ Pick (shown.Bare 16) ∷ [])
      ≡ shows (outside (name 0 ∷ []) ∷ Replied (Some (name 0)) ∷ Turn ∷ Returned (Some (shown.Bare 16)) ∷ [])
  pub by_name : ran_slot (slot 3 (Int 8) ∷ calling (Some 4) pointer 20 (argument pointer (register 3) ∷ argument pointer (register 2) ∷ []) ∷ loading 5 (Int 8) 4 ∷ []) (Int 8) 5 7
      (Reply (Some (name 1)) ∷ []) ≡ shows (outside (name 0 ∷ name 1 ∷ []) ∷ Replied (Some (name 1)) ∷ gave 7)
  pub undef_byte : run_of (entering_with [] Void (slot 2 (Int 8) ∷ lending ∷ []) RetVoid) 6 (Read 0 (pos 0) ∷ PickByte (part.Num 5) ∷ Read 0 (pos 0) ∷ PickByte (part.Num 6) ∷ Reply None ∷ [])
      ≡ shows (outside (name 0 ∷ []) ∷ EnvRead 0 (pos 0) (part.Num 5) ∷ EnvRead 0 (pos 0) (part.Num 6) ∷ Replied None ∷ Turn ∷ Returned None ∷ [])

-- define void @0() { 1: call void @10()  call void @20()  ret void }
-- define void @10() { 1: %2 = alloca i8  store i8 7, i8* %2  call void @20(i8* %2)  ret void }
abbrev pub early : Module
early = entering_with (doing (slot 2 (Int 8) ∷ storing (Int 8) 7 2 ∷ lending ∷ []) ∷ []) Void (calling None Void 10 [] ∷ calling None Void 20 [] ∷ []) RetVoid

-- define void @0() { 1: %2 = alloca i8  store i8 7, i8* %2  call void @10(i8* %2)  call void @20()  ret void }
-- define void @10(i8* %2) { 1: call void @20(i8* %2)  ret void }
abbrev pub late : Module
late = entering_with (defined 10 Void (param pointer 2 ∷ []) (lending ∷ []) RetVoid ∷ []) Void
    (slot 2 (Int 8) ∷ storing (Int 8) 7 2 ∷ calling None Void 10 (argument pointer (register 2) ∷ []) ∷ calling None Void 20 [] ∷ []) RetVoid

-- the slot is read in the second call
abbrev pub read_later : List Item
read_later = Turn ∷ outside (name 0 ∷ []) ∷ Replied None ∷ Turn ∷ outside [] ∷ EnvRead 0 (pos 0) (part.Num 7) ∷ Replied None ∷ Turn ∷ Returned None ∷ []

-- A slot that has ended with its frame is reached no more, though its name stays.
pub record EndedSlotsAreNotReached : Type 0 where
  pub while_it_lasts : run_of early 10 (Read 0 (pos 0) ∷ Reply None ∷ Reply None ∷ [])
      ≡ shows (Turn ∷ outside (name 0 ∷ []) ∷ EnvRead 0 (pos 0) (part.Num 7) ∷ Replied None ∷ Turn ∷ outside [] ∷ Replied None ∷ Turn ∷ Returned None ∷ [])
  pub later : run_of early 10 (Reply None ∷ Read 0 (pos 0) ∷ Reply None ∷ []) ≡ None
  pub of_the_caller : run_of late 10 (Reply None ∷ Read 0 (pos 0) ∷ Reply None ∷ []) ≡ shows read_later

-- ---- what is shown, and what refines what

-- What a run shows that is told its choices the module shows.
abbrev pub ToldRunsAreShown : Type 0
ToldRunsAreShown = (m : Module) (steps : ℕ) (choices : List Choice) (items : List Item) (after : State)
    → run_of m steps choices ≡ Some (items, after) → Shows m (Number 0) (given []) steps items

-- define void @0() { 1: call void @callee(i32 ATOM)  ret void }
abbrev pub calling_out : ℕ → Atom Name → Module
calling_out callee v = entering_with [] Void (calling None Void callee (argument (Int 32) v ∷ []) ∷ []) RetVoid

-- define void @0() { 1: ret void }
abbrev pub quiet : Module
quiet = entering_with [] Void [] RetVoid

-- A module isn't refined by one that calls with another argument, or another callee, or not at all, or for the first time; nor by one that
-- ends a slot late.
pub record CallsAreToldApart : Type 0 where
  pub arguments : Refines (calling_out 20 (number 1)) (calling_out 20 (number 2)) → ⊥
  pub undef_for_a_number : Refines (calling_out 20 (number 7)) (calling_out 20 undef) → ⊥
  pub callees : Refines (calling_out 20 (number 1)) (calling_out 21 (number 1)) → ⊥
  pub left_out : Refines (calling_out 20 (number 1)) quiet → ⊥
  pub added : Refines quiet (calling_out 20 (number 1)) → ⊥
  pub late_slot : Refines early late → ⊥

-- an argument of undef may be any number
abbrev pub UndefIsAnyArgument : Type 0
UndefIsAnyArgument = Refines (calling_out 20 undef) (calling_out 20 (number 7))
