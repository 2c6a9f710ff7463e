-- Runs over memory, of functions that are written out with numbers for names: an example of each case, worked out by hand from the LangRef.
use Rattle.std.specs.Prelude.{◌≡◌, ℕ, zero, suc, pos, false, true, List, [], ◌∷◌, ◌++◌, Option, None, Some}
use Rattle.std.specs.Option.{option_and_then}
use Rattle.ir_types.specs.declared.names.Name.{Name}
use Rattle.ir_types.specs.declared.names.Name.TheVariants.{Number}
use Rattle.ir_types.specs.declared.ty.Ty.{Ty, Ptr, Named}
use Rattle.ir_types.specs.declared.ty.Ty.TheVariants.{Int, Void}
use Rattle.ir_core.specs.declared.expressions.Expr.TheVariants as expr
use Rattle.ir_core.specs.declared.functions.Instr.{Instr}
use Rattle.ir_core.specs.declared.functions.Instr.TheVariants as line
use Rattle.ir_core.specs.declared.functions.Term.TheVariants.{Ret, RetVoid}
use Rattle.ir_core.specs.declared.modules.Module.{Module}
use Rattle.ir_core.specs.declared.operands.Atom.TheVariants.{Register}
use Rattle.ir_core.specs.declared.operands.CastOp.TheVariants.{BitCast}
use Rattle.ir_core.specs.declared.operands.Operand.{Operand}
use Rattle.ir_core.specs.declared.values.Byte.TheVariants as byte
use Rattle.ir_core.specs.declared.values.Kind.TheVariants as kind
use Rattle.ir_core.specs.declared.values.Value.TheVariants as value
use Rattle.block_memory.specs.declared.items.Shown.TheVariants as shown
use Rattle.ir_machine.specs.declared.items.Item.{Item}
use Rattle.ir_machine.specs.declared.items.Item.TheVariants.{Turn, Returned, Wrong}
use Rattle.ir_machine.specs.Examples.{index, number}
use Rattle.ir_machine.specs.FlowExamples.{alone, block, function}
use Rattle.ir_machine.specs.Machine.{Asks, Does, Ask, Never, asks, at_block}
use Rattle.ir_machine.specs.Starting.{given, start}
use Rattle.ir_machine.specs.Registers.{no_registers, set}
use Rattle.ir_machine.specs.State.{Frame, State, Over, Running}

-- ---- runs that ask for nothing

-- what some steps show, and where they lead
abbrev pub Ran : Type 0
Ran = Option (List Item × State)

abbrev pub after_items : List Item → Ran → Ran
after_items items None = None
after_items items (Some more) = Some (items ++ more.0, more.1)

abbrev pub going_on : Asks → (State → Ran) → Ran
going_on (Does items after) next = after_items items (next after)
going_on (Ask fits choices) next = None
going_on Never next = None

abbrev pub ran : Module → ℕ → State → Ran
ran m zero s = Some ([], s)
ran m (suc n) s = going_on (asks m s) (ran m n)

-- ---- lines

-- %n = alloca of, i8 count, align 4
abbrev pub slots : ℕ → Ty → ℕ → Instr
slots n of count = line.Alloca (record { name = Number n; of = of; to = Ptr of; count = Some (Int 8, count); align = Some 4 })

-- %n = alloca of
abbrev pub slot : ℕ → Ty → Instr
slot n of = line.Alloca (record { name = Number n; of = of; to = Ptr of; count = None; align = None })

-- of* %n
abbrev pub into : Ty → ℕ → Operand Name
into of n = record { ty = Ptr of; atom = Register (Number n) }

-- store of v, of* %to, align N
abbrev pub storing_at : Option ℕ → Ty → ℕ → ℕ → Instr
storing_at align of v to = line.Store (record { value = record { ty = of; atom = number v }; pointer = into of to; align = align })

abbrev pub storing : Ty → ℕ → ℕ → Instr
storing of v to = storing_at None of v to

-- %n = load of, of* %from
abbrev pub loading : ℕ → Ty → ℕ → Instr
loading n of from = line.Calm (record { name = Number n; right = expr.Load (record { of = of; pointer = into of from; align = None }) })

-- %n = bitcast from* %pointer to to*
abbrev pub recast : ℕ → Ty → ℕ → Ty → Instr
recast n from pointer to = line.Calm (record { name = Number n; right = expr.Cast (record { op = BitCast; operand = into from pointer; to = Ptr to }) })

-- %n = getelementptr of, of* %from, i64 k
abbrev pub behind : ℕ → Ty → ℕ → ℕ → Instr
behind n of from k = line.Calm (record {
  name = Number n;
  right = expr.Element (record { inbounds = false; of = of; base = into of from; indices = index 64 k ∷ []; to = Ptr of });
})

-- what so many steps of it show: define i32 @0() { 1: LINES  ret of %result }
abbrev pub ran_over : List Instr → Ty → ℕ → ℕ → Ran
ran_over lines of result steps =
    let m = alone (function (Int 32) (record (block 1 [] (Ret (record { ty = of; atom = Register (Number result) }))) { body = lines } ∷ [])) in
    option_and_then (ran m steps) (start m (Number 0) (given []))

-- the run has returned this number
abbrev pub returned : ℕ → Ran
returned n = Some (Turn ∷ Returned (Some (shown.Num n)) ∷ [], Over)

abbrev pub went_wrong : Ran
went_wrong = Some (Wrong ∷ [], Over)

-- ---- the laws

-- 258 is 1 * 256 + 2, and its least byte comes first.
pub record SlotsAreMemory : Type 0 where
  pub stored : ran_over (slot 2 (Int 32) ∷ storing (Int 32) 7 2 ∷ loading 3 (Int 32) 2 ∷ []) (Int 32) 3 4 ≡ returned 7
  pub stored_again : ran_over (slot 2 (Int 32) ∷ storing (Int 32) 7 2 ∷ storing (Int 32) 8 2 ∷ loading 3 (Int 32) 2 ∷ []) (Int 32) 3 5 ≡ returned 8
  pub low_byte : ran_over (slot 2 (Int 32) ∷ storing (Int 32) 258 2 ∷ recast 3 (Int 32) 2 (Int 8) ∷ loading 4 (Int 8) 3 ∷ []) (Int 8) 4 5 ≡ returned 2
  pub second_byte : ran_over (slot 2 (Int 32) ∷ storing (Int 32) 258 2 ∷ recast 3 (Int 32) 2 (Int 8) ∷ behind 4 (Int 8) 3 1 ∷ loading 5 (Int 8) 4 ∷ []) (Int 8) 5 6
      ≡ returned 1
  pub two_slots : ran_over (slot 2 (Int 32) ∷ slot 3 (Int 32) ∷ storing (Int 32) 7 2 ∷ storing (Int 32) 8 3 ∷ loading 4 (Int 32) 2 ∷ []) (Int 32) 4 6 ≡ returned 7
  pub last_of_three : ran_over (slots 2 (Int 16) 3 ∷ behind 3 (Int 16) 2 2 ∷ storing (Int 16) 9 3 ∷ loading 4 (Int 16) 3 ∷ []) (Int 16) 4 5 ≡ returned 9

-- Undefined behaviour. 259 of i8 is 3.
pub record AccessesMayTrap : Type 0 where
  pub past_the_end : ran_over (slot 2 (Int 32) ∷ recast 3 (Int 32) 2 (Int 64) ∷ storing (Int 64) 7 3 ∷ []) (Int 32) 3 3 ≡ went_wrong
  pub past_three : ran_over (slots 2 (Int 16) 3 ∷ behind 3 (Int 16) 2 3 ∷ storing (Int 16) 9 3 ∷ []) (Int 16) 3 3 ≡ went_wrong
  pub count_modulo : ran_over (slots 2 (Int 16) 259 ∷ behind 3 (Int 16) 2 3 ∷ storing (Int 16) 9 3 ∷ []) (Int 16) 3 3 ≡ went_wrong
  pub of_none : ran_over (slots 2 (Int 16) 0 ∷ storing (Int 16) 9 2 ∷ []) (Int 16) 2 2 ≡ went_wrong
  pub of_no_size : ran_over (slot 2 (Named (Number 9)) ∷ recast 3 (Named (Number 9)) 2 (Int 8) ∷ storing (Int 8) 9 3 ∷ []) (Int 8) 3 3 ≡ went_wrong
  pub unaligned : ran_over (slot 2 (Int 32) ∷ storing_at (Some 8) (Int 32) 7 2 ∷ []) (Int 32) 2 2 ≡ went_wrong
  pub no_pointer : ran_over (storing (Int 32) 7 2 ∷ []) (Int 32) 2 1 ≡ went_wrong

-- the caller reads a byte of block 0
abbrev pub caller : Frame
caller = record {
  function = function Void [];
  block = Number 1;
  lines = loading 3 (Int 8) 2 ∷ [];
  term = RetVoid;
  registers = set no_registers (Number 2) (Some kind.Ptr) (value.Ptr 0 (pos 0));
  own = [];
}

-- the callee is about to return, and made these blocks
abbrev pub callee : List ℕ → Frame
callee own = at_block (function Void []) (block 1 [] RetVoid) no_registers own

abbrev pub calling : List ℕ → State
calling own = Running (callee own) (record { into = None; kind = None; frame = caller } ∷ [])
    (record { memory = record { align = 1; live = true; bytes = byte.Num 7 ∷ [] } ∷ []; names = [] })

-- A slot can't be read once its frame has returned; a block of another frame can.
pub record SlotsEndWithTheirFrames : Type 0 where
  pub own : ran (alone (function Void [])) 2 (calling (0 ∷ [])) ≡ Some (Turn ∷ Wrong ∷ [], Over)
  pub anothers : ran (alone (function Void [])) 3 (calling []) ≡ Some (Turn ∷ Turn ∷ Returned None ∷ [], Over)
