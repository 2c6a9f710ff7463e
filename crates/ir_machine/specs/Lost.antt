-- States that no run of a well-formed module comes to: what `AllFindNamed` and `ReadsSet` refuse.
use Rattle.std.specs.Prelude.{◌≡◌, ℕ, List, [], ◌∷◌, None, Some}
use Rattle.ir_core.specs.declared.expressions.Expr.TheVariants.{Plain}
use Rattle.ir_core.specs.declared.functions.Block.{Block}
use Rattle.ir_core.specs.declared.functions.Instr.{Instr}
use Rattle.ir_core.specs.declared.functions.Instr.TheVariants.{Calm, Call}
use Rattle.ir_core.specs.declared.functions.Term.TheVariants.{Ret, RetVoid, Br}
use Rattle.ir_core.specs.declared.operands.Atom.{Atom}
use Rattle.ir_core.specs.declared.operands.Atom.TheVariants.{Register}
use Rattle.ir_core.specs.declared.operands.Operand.{Operand}
use Rattle.ir_types.specs.declared.names.Name.{Name}
use Rattle.ir_types.specs.declared.names.Name.TheVariants.{Number}
use Rattle.ir_types.specs.declared.ty.Ty.TheVariants.{Int, Void}
use Rattle.ir_core.specs.declared.modules.Module.{Module}
use Rattle.ir_core.specs.declared.values.Kind.TheVariants as kind
use Rattle.ir_core.specs.Modules.{not_extended, plain_module}
use Rattle.ir_machine.specs.Examples.{number}
use Rattle.ir_machine.specs.FlowExamples.{alone, block, branching, entry, function, phi}
use Rattle.ir_machine.specs.Machine.{at_block}
use Rattle.ir_machine.specs.Reached.{AllFindNamed}
use Rattle.ir_machine.specs.Reads.{ReadsSet}
use Rattle.ir_machine.specs.Registers.{Registers, no_registers}
use Rattle.ir_machine.specs.State.{Frame, Pending, State, Running, Waiting, no_world}

-- define void @0() { FIRST  OTHERS }, at the start of the first block
abbrev pub starting : Registers → Block → List Block → Frame
starting registers first others = at_block (function Void (first ∷ others)) first registers []

-- a run stands there
abbrev pub standing : Registers → Block → List Block → State
standing registers first others = Running (starting registers first others) [] no_world

-- a call that sets no register has been made there
abbrev pub pending : Registers → Block → Pending
pending registers first = record { into = None; kind = None; frame = starting registers first [] }

-- the outside was called
abbrev pub calling_out : Pending → State
calling_out p = Waiting p [] no_world

-- a function was called that does nothing but return
abbrev pub calling_in : Pending → State
calling_in p = Running (starting no_registers (block 1 [] RetVoid) []) (p ∷ []) no_world

-- i32 %9
abbrev pub nine : Operand Name
nine = record { ty = Int 32; atom = Register (Number 9) }

-- 1: %3 = i32 %9  ret void
abbrev pub reading_block : Block
reading_block = record (block 1 [] RetVoid) { body = Calm (record { name = Number 3; right = Plain nine }) ∷ [] }

-- 2: %3 = phi i32 [ VALUE, %from ]  ret void
abbrev pub joining_block : Atom Name → ℕ → Block
joining_block value from = block 2 (phi 3 (entry value from ∷ []) ∷ []) RetVoid

-- call void @0(i32 %9)
abbrev pub call_line : Instr
call_line = Call (record {
  name = None;
  result = Void;
  result_extensions = not_extended;
  callee = Number 0;
  arguments = record { operand = nine; extensions = not_extended } ∷ [];
})

-- 1: call void @0(i32 %9)  ret void
abbrev pub calling_block : Block
calling_block = record (block 1 [] RetVoid) { body = call_line ∷ [] }

-- 1: br label %2
abbrev pub leaving_block : Block
leaving_block = block 1 [] (Br (Number 2))

-- A jump to no block isn't found, though the branch's other label is there; nor is a jump to a block whose phi has no entry for the block that
-- is left; nor one of a frame that waits.
pub record JumpsAreLost (m : Module) : Type 0 where
  pub no_block : AllFindNamed m (standing no_registers leaving_block []) → ⊥
  pub no_second : AllFindNamed m (standing no_registers (block 1 [] (branching (number 1))) []) → ⊥
  pub no_entry : AllFindNamed m (standing no_registers leaving_block (joining_block (number 7) 2 ∷ [])) → ⊥
  pub called_outside : AllFindNamed m (calling_out (pending no_registers leaving_block)) → ⊥
  pub called : AllFindNamed m (calling_in (pending no_registers leaving_block)) → ⊥

-- whatever the module
abbrev pub LostJumpsAreTold : Type 0
LostJumpsAreTold = (m : Module) → JumpsAreLost m

-- A call isn't found of what the module neither defines nor declares, nor of a function without a block; nor is a call of a frame that waits.
pub record LostCallsAreTold : Type 0 where
  pub no_function : AllFindNamed (plain_module [] []) (standing no_registers calling_block []) → ⊥
  pub no_block : AllFindNamed (alone (function Void [])) (standing no_registers calling_block []) → ⊥
  pub called_outside : AllFindNamed (plain_module [] []) (calling_out (pending no_registers calling_block)) → ⊥
  pub called : AllFindNamed (plain_module [] []) (calling_in (pending no_registers calling_block)) → ⊥

-- A register that isn't set isn't read: by the next line, by the terminator, or by a phi of the block that is entered; nor by the line behind a
-- call that waits, unless the call sets it.
pub record UnsetReadsAreTold (registers : Registers) : Type 0 where
  pub line : ReadsSet (standing registers reading_block []) → ⊥
  pub returned : ReadsSet (standing registers (block 1 [] (Ret nine)) []) → ⊥
  pub condition : ReadsSet (standing registers (block 1 [] (branching (Register (Number 9)))) []) → ⊥
  pub phi : ReadsSet (standing registers leaving_block (joining_block (Register (Number 9)) 1 ∷ [])) → ⊥
  pub argument : ReadsSet (standing registers calling_block []) → ⊥
  pub called_outside : ReadsSet (calling_out (pending registers reading_block)) → ⊥
  pub called : ReadsSet (calling_in (pending registers reading_block)) → ⊥
  pub answered : ReadsSet (calling_out (record (pending registers reading_block) { into = Some (Number 9); kind = Some (kind.Int 32) }))

-- whatever else is set
abbrev pub UnsetIsTold : Type 0
UnsetIsTold = (registers : Registers) → registers (Number 9) ≡ None → UnsetReadsAreTold registers
