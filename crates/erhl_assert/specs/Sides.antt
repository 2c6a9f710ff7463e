-- What a fact speaks of: one side's state. And when the states of two sides are related.
use Rattle.std.specs.Prelude.{◌≡◌, ◌<◌, ℕ, pos, Bool, true, false, List, [], length, slice_get, Some}
use Rattle.std.specs.List.{list_any}
use Rattle.ir_core.specs.declared.values.Value.{Value}
use Rattle.ir_core.specs.declared.values.Value.TheVariants.{Ptr}
use Rattle.ir_core.specs.declared.values.Kind.{Kind}
use Rattle.ir_types.specs.declared.names.Name.{Name}
use Rattle.ir_types.specs.Named.{size_of}
use Rattle.ir_core.specs.declared.modules.GlobalVar.{GlobalVar}
use Rattle.ir_core.specs.declared.expressions.Reg.{Reg}
use Rattle.ir_core.specs.declared.expressions.Reg.TheVariants.{Now, Old, Ghost}
use Rattle.ir_core.specs.Same.{same_reg}
use Rattle.ir_core.specs.Expressions.{Expr0}
use Rattle.ir_values.specs.declared.operations.Outcome.{Outcome}
use Rattle.ir_values.specs.Constants.{Scope, global_at}
use Rattle.ir_values.specs.Related.{IsRelated, Pairing}
use Rattle.block_memory.specs.Laws.{IsOfBytes}
use Rattle.block_memory.specs.NameLaws.{AreApart}
use Rattle.ir_machine.specs.Keeps.{IsLive}
use Rattle.ir_machine.specs.Registers.{Registers, AreInKind, align_or, no_registers, read, outcome}
use Rattle.ir_machine.specs.State.{World}

-- the registers of the frame that runs, their values before the edge that is being crossed, and those that the proof alone has
pub record RegisterFiles : Type 0 where
  pub now : Registers
  pub old : Registers
  pub ghost : Registers

-- One side: the types and globals of its module, its registers, the blocks that the running frame's allocas made, the registers of the frames
-- below it, the world, and whether a block of it is in a pair with one of the other side.
pub record SideState : Type 0 where
  pub scope : Scope
  pub files : RegisterFiles
  pub own : List ℕ
  pub others : List Registers
  pub world : World
  pub paired : ℕ → Bool

-- each block is in a pair, as it is where both sides have one memory
abbrev pub all_paired : ℕ → Bool
all_paired b = true

-- the side of the only frame, with these registers and own blocks, between edges, where no ghost was chosen and each block is in a pair
abbrev pub side_of : Scope → Registers → List ℕ → World → SideState
side_of scope registers own world = record {
  scope = scope;
  files = record { now = registers; old = no_registers; ghost = no_registers };
  own = own;
  others = [];
  world = world;
  paired = all_paired;
}

-- The side is as it should be, however it was come to: each value lies in its kind, and each byte of memory in its range; block k is of global k,
-- and has the name k; it is live, of the global's size and alignment, where the global's name leads to it, as in a well-formed module each does;
-- and no block has two names.
pub record IsFine (side : SideState) : Type 0 where
  pub now : AreInKind side.files.now
  pub old : AreInKind side.files.old
  pub ghost : AreInKind side.files.ghost
  pub bytes : IsOfBytes side.world.memory
  pub globals : (k : ℕ) (g : GlobalVar) → slice_get side.scope.globals k ≡ Some g → global_at 0 side.scope.globals g.name ≡ Ptr k (pos 0)
      → IsLive side.world.memory k (align_or side.scope.types g.ty g.align) (size_of side.scope.types g.ty)
  pub named : (k : ℕ) → k < length side.scope.globals → slice_get side.world.names k ≡ Some (Some k)
  pub once : AreApart side.world.names

abbrev pub read_reg : SideState → Kind → Reg → Value
read_reg side k (Now x) = read side.files.now k x
read_reg side k (Old x) = read side.files.old k x
read_reg side k (Ghost x) = read side.files.ghost k x

-- what an expression is worth on a side
abbrev pub worth : SideState → Expr0 → Outcome
worth side e = outcome side.scope (read_reg side) side.world.memory e

abbrev pub has_reg : Reg → List Reg → Bool
has_reg r rs = list_any (same_reg r) rs

-- no ghost register is one side's alone
abbrev pub no_ghost : Name → Bool
no_ghost g = false

-- Each register outside of those that may differ, read at any kind, is related on the source and the target, by pairs of their blocks; and so
-- is each ghost register that isn't one side's alone, whether it may differ or not, as one is chosen by an expression whose registers don't
-- differ.
pub record AreRelated (ps : Pairing) (lone : Name → Bool) (diff : List Reg) (source target : SideState) : Type 0 where
  pub outside : (r : Reg) (k : Kind) → has_reg r diff ≡ false → IsRelated ps (read_reg source k r) (read_reg target k r)
  pub ghosts : (g : Name) (k : Kind) → lone g ≡ false → IsRelated ps (read source.files.ghost k g) (read target.files.ghost k g)
