-- A state that is as what is kept asks, and for each part of what is asked states that fail in it alone.
use Rattle.std.specs.Prelude.{ℕ, pos, Bool, true, false, List, [], ◌∷◌, None, Some}
use Rattle.ir_types.specs.declared.names.Name.TheVariants.{Number}
use Rattle.ir_types.specs.declared.ty.Ty.TheVariants.{Int, Void}
use Rattle.ir_core.specs.declared.functions.Term.TheVariants.{RetVoid}
use Rattle.ir_core.specs.declared.modules.GlobalVar.{GlobalVar}
use Rattle.ir_core.specs.declared.modules.Linkage.TheVariants.{External}
use Rattle.ir_core.specs.declared.values.Byte.{Byte}
use Rattle.ir_core.specs.declared.values.Byte.TheVariants as byte
use Rattle.ir_core.specs.declared.values.Kind.TheVariants as kind
use Rattle.ir_core.specs.declared.values.Value.TheVariants as value
use Rattle.ir_values.specs.Constants.{Scope}
use Rattle.block_memory.specs.declared.items.ShownByte.TheVariants as part
use Rattle.block_memory.specs.Memory.{Cell, Memory}
use Rattle.block_memory.specs.Names.{Names}
use Rattle.ir_machine.specs.declared.inputs.Input.{Input}
use Rattle.ir_machine.specs.declared.inputs.InputBlock.{InputBlock}
use Rattle.ir_machine.specs.FlowExamples.{block, function}
use Rattle.ir_machine.specs.Keeps.{IsKept}
use Rattle.ir_machine.specs.Machine.{at_block}
use Rattle.ir_machine.specs.Registers.{Registers, no_registers, set}
use Rattle.ir_machine.specs.State.{Frame, Running, State}

-- @0 = external global i8
abbrev pub the_global : GlobalVar
the_global = record { name = Number 0; linkage = External; constant = false; ty = Int 8; init = None; align = None }

abbrev pub beside_byte : Scope
beside_byte = record { types = []; globals = the_global ∷ [] }

-- a block of one byte, which the input makes
abbrev pub the_block : InputBlock
the_block = record { align = 1; bytes = part.Num 0 ∷ [] }

abbrev pub one_block : Input
one_block = record { args = []; blocks = the_block ∷ []; externals = [] }

-- define void @0() { 1: ret void }
abbrev pub owning : Registers → List ℕ → Frame
owning registers own = at_block (function Void (block 1 [] RetVoid ∷ [])) (block 1 [] RetVoid) registers own

-- one such frame above another that waits
abbrev pub standing_on : Registers → Registers → List ℕ → List ℕ → Memory → Names → State
standing_on top below own others memory names =
    Running (owning top own) (record { into = None; kind = None; frame = owning below others } ∷ []) (record { memory = memory; names = names })

abbrev pub zero_byte : Byte
zero_byte = byte.Num 0

abbrev pub cell : ℕ → Bool → List Byte → Cell
cell align live bytes = record { align = align; live = live; bytes = bytes }

-- a live block of that byte
abbrev pub holding_byte : Byte → Cell
holding_byte b = cell 1 true (b ∷ [])

-- the global's block, the input's, and one that the frame on top owns
abbrev pub three_blocks : Memory
three_blocks = holding_byte zero_byte ∷ holding_byte zero_byte ∷ holding_byte zero_byte ∷ []

abbrev pub two_names : Names
two_names = Some 0 ∷ Some 1 ∷ []

abbrev pub IsKeptThere : State → Type 0
IsKeptThere = IsKept beside_byte one_block

abbrev pub with_registers : Registers → Registers → State
with_registers top below = standing_on top below (2 ∷ []) [] three_blocks two_names

abbrev pub with_own : List ℕ → List ℕ → State
with_own own others = standing_on no_registers no_registers own others three_blocks two_names

-- the global's block is that, or the input's, or the frame's
abbrev pub with_global : Cell → State
with_global c = standing_on no_registers no_registers (2 ∷ []) [] (c ∷ holding_byte zero_byte ∷ holding_byte zero_byte ∷ []) two_names

abbrev pub with_input : Cell → State
with_input c = standing_on no_registers no_registers (2 ∷ []) [] (holding_byte zero_byte ∷ c ∷ holding_byte zero_byte ∷ []) two_names

abbrev pub with_byte : Byte → State
with_byte b = standing_on no_registers no_registers (2 ∷ []) [] (holding_byte zero_byte ∷ holding_byte zero_byte ∷ holding_byte b ∷ []) two_names

abbrev pub with_names : Names → State
with_names names = standing_on no_registers no_registers (2 ∷ []) [] three_blocks names

-- %1 holds that i8, or that address
abbrev pub of_number : ℕ → Registers
of_number n = set no_registers (Number 1) (Some (kind.Int 8)) (value.Num n)

abbrev pub of_block : ℕ → Registers
of_block b = set no_registers (Number 1) (Some kind.Ptr) (value.Ptr b (pos 0))

-- THE examples
pub record LostKeepsAreTold : Type 0 where
  pub kept : IsKeptThere (with_own (2 ∷ []) [])
  pub kept_pointers : IsKeptThere (with_registers (of_block 2) (of_block 1))
  -- a value out of its kind, of each frame
  pub value_kind : IsKeptThere (with_registers (of_number 256) no_registers) → ⊥
  pub value_kind_below : IsKeptThere (with_registers no_registers (of_number 256)) → ⊥
  pub byte_range : IsKeptThere (with_byte (byte.Num 256)) → ⊥
  -- what isn't made, held by a register of each frame, a byte and a name
  pub register : IsKeptThere (with_registers (of_block 3) no_registers) → ⊥
  pub register_below : IsKeptThere (with_registers no_registers (of_block 3)) → ⊥
  pub part : IsKeptThere (with_byte (byte.Frag 3 (pos 0) 0)) → ⊥
  pub name : IsKeptThere (with_names (Some 0 ∷ Some 1 ∷ Some 3 ∷ [])) → ⊥
  -- what isn't made, a global and a block of the input, owned; and one block, owned by both
  pub own_unmade : IsKeptThere (with_own (3 ∷ []) []) → ⊥
  pub own_global : IsKeptThere (with_own (0 ∷ []) []) → ⊥
  pub own_input : IsKeptThere (with_own [] (1 ∷ [])) → ⊥
  pub own_twice : IsKeptThere (with_own (2 ∷ []) (2 ∷ [])) → ⊥
  -- a block of the start that has ended, of another alignment, or of another size
  pub global_ended : IsKeptThere (with_global (cell 1 false (zero_byte ∷ []))) → ⊥
  pub global_aligned : IsKeptThere (with_global (cell 2 true (zero_byte ∷ []))) → ⊥
  pub global_sized : IsKeptThere (with_global (cell 1 true (zero_byte ∷ zero_byte ∷ []))) → ⊥
  pub input_ended : IsKeptThere (with_input (cell 1 false (zero_byte ∷ []))) → ⊥
  pub input_aligned : IsKeptThere (with_input (cell 2 true (zero_byte ∷ []))) → ⊥
  pub input_sized : IsKeptThere (with_input (cell 1 true (zero_byte ∷ zero_byte ∷ []))) → ⊥
  -- names of the start for each other's blocks, or none; and a block with two names
  pub names_changed : IsKeptThere (with_names (Some 1 ∷ Some 0 ∷ [])) → ⊥
  pub no_name : IsKeptThere (with_names (Some 0 ∷ [])) → ⊥
  pub named_twice : IsKeptThere (with_names (Some 0 ∷ Some 1 ∷ Some 2 ∷ Some 2 ∷ [])) → ⊥
