-- What definedness is worth to the runs of a module: no register is read that isn't set.
use Rattle.std.specs.Prelude.{◌≡◌, List, [], ◌∷◌, Option, Some, IsSome}
use Rattle.std.specs.List.{AllByRecursion}
use Rattle.ir_core.specs.declared.functions.Block.{Block}
use Rattle.ir_core.specs.declared.functions.Entry.{Entry}
use Rattle.ir_core.specs.declared.functions.Instr.{Instr}
use Rattle.ir_core.specs.declared.modules.Module.{Module}
use Rattle.ir_core.specs.declared.functions.Phi.{Phi}
use Rattle.ir_types.specs.declared.names.Name.{Name}
use Rattle.ir_core.specs.declared.values.Kind.{Kind}
use Rattle.ir_core.specs.declared.values.Value.{Value}
use Rattle.ir_core.specs.declared.operands.Atom.{Atom}
use Rattle.ir_core.specs.declared.operands.Atom.TheVariants.{Constant, Register}
use Rattle.ir_core.specs.declared.operands.Operand.{Operand}
use Rattle.ir_core.specs.Functions.{operands_at_end, operands_of, successors_of}
use Rattle.ir_core.specs.WellFormed.{IsWellFormed}
use Rattle.ir_machine.specs.Machine.{block_named, entry_from, resumed}
use Rattle.ir_machine.specs.Reached.{IsReached}
use Rattle.ir_machine.specs.Registers.{Registers}
use Rattle.ir_machine.specs.State.{Frame, Pending, State, Running, Waiting, Over}

-- a register is set; a constant needs none
abbrev pub IsSet : Registers → Atom Name → Type 0
IsSet registers (Constant c) = Unit {0}
IsSet registers (Register x) = IsSome (registers x)

abbrev pub AreSet : Registers → List (Operand Name) → Type 0
AreSet registers = AllByRecursion (λ (o : Operand Name). IsSet registers o.atom)

-- on the edge to that label, what each phi takes is set
abbrev pub PhisReadSet : Frame → Name → Type 0
PhisReadSet frame to = (c : Block) → block_named to frame.function.blocks ≡ Some c
    → AllByRecursion (λ (p : Phi). (e : Entry) → entry_from frame.block p.entries ≡ Some e → IsSet frame.registers e.value) c.phis

-- what the next line reads, or else the terminator, and the phis on each edge from it
abbrev pub NextReadsSet : List Instr → Frame → Type 0
NextReadsSet (l ∷ left) frame = AreSet frame.registers (operands_of l)
NextReadsSet [] frame = AreSet frame.registers (operands_at_end frame.term) × AllByRecursion (PhisReadSet frame) (successors_of frame.term)

-- where a call that waits goes on, whatever it is answered
abbrev pub ReadsSetBehind : Pending → Type 0
ReadsSetBehind p = (k : Option Kind) (v : Value) → NextReadsSet p.frame.lines (resumed p k v)

abbrev pub ReadsSet : State → Type 0
ReadsSet (Running frame rest world) = NextReadsSet frame.lines frame × AllByRecursion ReadsSetBehind rest
ReadsSet (Waiting p rest world) = ReadsSetBehind p × AllByRecursion ReadsSetBehind rest
ReadsSet Over = Unit {0}

-- In each state that a run of a well-formed module comes to, the registers are set that the next step of a frame reads, also of one that
-- waits, once it goes on.
abbrev pub ReadsAreSet : Type 0
ReadsAreSet = (m : Module) (s : State) → IsWellFormed m → IsReached m s → ReadsSet s
