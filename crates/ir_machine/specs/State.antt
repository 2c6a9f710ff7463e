-- The state of a run, as data.
use Rattle.std.specs.Prelude.{ℕ, List, [], Option}
use Rattle.ir_types.specs.declared.names.Name.{Name}
use Rattle.ir_core.specs.declared.values.Kind.{Kind}
use Rattle.ir_core.specs.declared.functions.Instr.{Instr}
use Rattle.ir_core.specs.declared.functions.Term.{Term}
use Rattle.ir_core.specs.declared.functions.Function.{Function}
use Rattle.ir_values.specs.Constants.{Scope}
pub use Rattle.ir_values.specs.Constants.{scope_of}
use Rattle.block_memory.specs.Memory.{Memory}
use Rattle.block_memory.specs.Names.{Names}
use Rattle.ir_machine.specs.Registers.{Registers}

-- no types are named, and no globals
abbrev pub no_scope : Scope
no_scope = record { types = []; globals = [] }

-- An activation of a function, at a place of one of its blocks: the lines that are left there, the terminator, the registers, and the
-- numbers of the blocks of memory that its allocas made, which end when it returns.
pub record Frame : Type 0 where
  pub function : Function
  pub block : Name
  pub lines : List Instr
  pub term : Term
  pub registers : Registers
  pub own : List ℕ

-- A frame that waits for a call to return: the register that the call sets, if it names one, the kind of what it returns, if that has
-- one, and the frame with the lines after the call.
pub record Pending : Type 0 where
  pub into : Option Name
  pub kind : Option Kind
  pub frame : Frame

-- What all frames share: memory, and the names that the outside knows its blocks by.
pub record World : Type 0 where
  pub memory : Memory
  pub names : Names

abbrev pub no_world : World
no_world = record { memory = []; names = [] }

pub data State : Type 0 where
  Running : Frame → List Pending → World → State
  -- The first frame waits for the outside, which was called.
  Waiting : Pending → List Pending → World → State
  Over : State
