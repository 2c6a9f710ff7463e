-- Where a line leads one side.
use Rattle.std.proofs.Common.{ℕ, Bool, cond, not, nat_eq, length, Option, None, Some}
use Rattle.ir_core.specs.declared.functions.Calm.{Calm}
use Rattle.ir_core.specs.declared.functions.Instr.{Instr}
use Rattle.ir_core.specs.declared.functions.Instr.TheVariants as line
use Rattle.ir_values.specs.declared.operations.Outcome.{Outcome}
use Rattle.ir_values.specs.declared.operations.Outcome.TheVariants.{Gives, Trap}
use Rattle.block_memory.specs.Memory.{Memory}
use Rattle.ir_machine.specs.Machine.{stored_by}
use Rattle.ir_machine.specs.Registers.{outcome, read}
use Rattle.erhl_assert.specs.Sides.{SideState}
use Rattle.erhl_soundness.specs.MemoryLaws.{side_made, side_set, side_stored}

abbrev pub set_by : Calm → Outcome → SideState → Option SideState
set_by l (Gives v) side = Some (side_set l v side)
set_by l Trap side = None

abbrev pub stored_in : Option Memory → SideState → Option SideState
stored_in None side = None
stored_in (Some memory) side = Some (side_stored memory side)

-- A new block is in a pair where the line is of both sides.
abbrev pub paired_after : Bool → SideState → ℕ → Bool
paired_after one_sided side b = cond (nat_eq b (length side.world.memory)) (not one_sided) (side.paired b)

-- No call is allowed.
abbrev pub line_after : Bool → Instr → SideState → Option SideState
line_after one_sided (line.Calm l) side = set_by l (outcome side.scope (read side.files.now) side.world.memory l.right) side
line_after one_sided (line.Alloca a) side = Some (side_made a (paired_after one_sided side) side)
line_after one_sided (line.Store s) side = stored_in (stored_by side.scope s side.files.now side.world.memory) side
line_after one_sided (line.Call c) side = None

-- the side after a line, one of one side alone or of both, or after a no-op
abbrev pub side_led : Bool → Option Instr → SideState → Option SideState
side_led one_sided None side = Some side
side_led one_sided (Some i) side = line_after one_sided i side
