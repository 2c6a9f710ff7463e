-- Laws of one side: what it knows over a calm line, an alloca and a store that don't trap, and over an edge.
use Rattle.std.specs.Prelude.{◌≡◌, ◌<◌, ◌*◌, ℕ, pos, Bool, true, false, List, [], ◌∷◌, ◌++◌, length, slice_get, Some}
use Rattle.std.specs.List.{AllByRecursion}
use Rattle.ir_types.specs.declared.names.Name.{Name}
use Rattle.ir_types.specs.Named.{size_of}
use Rattle.ir_core.specs.declared.functions.Alloca.{Alloca}
use Rattle.ir_core.specs.declared.functions.Calm.{Calm}
use Rattle.ir_core.specs.declared.functions.Instr.{Instr}
use Rattle.ir_core.specs.declared.functions.Instr.TheVariants as line
use Rattle.ir_core.specs.declared.functions.Phi.{Phi}
use Rattle.ir_core.specs.declared.functions.Store.{Store}
use Rattle.ir_core.specs.declared.modules.GlobalVar.{GlobalVar}
use Rattle.ir_core.specs.declared.modules.Module.{Module}
use Rattle.ir_core.specs.declared.values.Kind.TheVariants as kind
use Rattle.ir_core.specs.declared.values.Value.{Value}
use Rattle.ir_core.specs.declared.values.Value.TheVariants as value
use Rattle.ir_core.specs.Expressions.{type_of}
use Rattle.ir_core.specs.Types.{kind_of}
use Rattle.ir_core.specs.WellFormed.{HasShape}
use Rattle.ir_values.specs.Constants.{Scope, global_at}
use Rattle.ir_values.specs.declared.operations.Outcome.TheVariants.{Gives}
use Rattle.block_memory.specs.Memory.{Memory, new_cell}
use Rattle.ir_machine.specs.declared.inputs.Input.{Input}
use Rattle.ir_machine.specs.Keeps.{IsMade}
use Rattle.ir_machine.specs.Machine.{count_made, stored_by}
use Rattle.ir_machine.specs.Registers.{align_or, outcome, read, set}
use Rattle.ir_machine.specs.Starting.{start}
use Rattle.ir_machine.specs.State.{Frame, Pending, Running, World, scope_of}
use Rattle.erhl_assert.specs.declared.facts.Fact.{Fact}
use Rattle.erhl_assert.specs.Edges.{facts_over}
use Rattle.erhl_assert.specs.Facts.{Holds}
use Rattle.erhl_assert.specs.Kills.{all_killed}
use Rattle.erhl_assert.specs.Postcondition.{line_adds, line_kills}
use Rattle.erhl_assert.specs.Sides.{IsFine, SideState, side_of}
use Rattle.erhl_soundness.specs.Laws.{AreApart, crossed}
use Rattle.erhl_soundness.specs.TwoSides.{HoldsMade, LeadsTo}

-- The line leads to that side, which is fine again, and holds what is made alone where the one before did. Of what is known before it, all that its
-- kills leave holds there, and so does all that it adds.
pub record LineKeeps (side after : SideState) (i : Instr) (one_sided : Bool) : Type 0 where
  pub leads : LeadsTo side i after
  pub fine : IsFine after
  pub made : HoldsMade side → HoldsMade after
  pub left : (known : List Fact) → AllByRecursion (Holds side) known → AllByRecursion (Holds after) (all_killed (line_kills i) known)
  pub added : AllByRecursion (Holds after) (line_adds side.scope.types one_sided i)

-- a side after a calm line that gave this
abbrev pub side_set : Calm → Value → SideState → SideState
side_set l v side = record side { files = record side.files { now = set side.files.now l.name (kind_of (type_of l.right)) v } }

-- a calm line that doesn't trap, a load among them, of both sides or of one
abbrev pub CalmLinesKeepWhatHolds : Type 0
CalmLinesKeepWhatHolds = (side : SideState) (l : Calm) (v : Value) (one_sided : Bool) → IsFine side
    → outcome side.scope (read side.files.now) side.world.memory l.right ≡ Gives v → LineKeeps side (side_set l v side) (line.Calm l) one_sided

-- a side after an alloca, with these blocks in pairs
abbrev pub side_made : Alloca → (ℕ → Bool) → SideState → SideState
side_made a paired side =
    let b : ℕ = length side.world.memory in record side {
      files = record side.files { now = set side.files.now a.name (Some kind.Ptr) (value.Ptr b (pos 0)) };
      own = side.own ++ b ∷ [];
      world = record side.world {
        memory = side.world.memory ++ new_cell (size_of side.scope.types a.of * count_made a.count) (align_or side.scope.types a.of a.align) [] ∷ [];
      };
      paired = paired;
    }

-- An alloca whose block may be in a pair, unless the line is of one side alone; all others are in pairs as before.
abbrev pub AllocasKeepWhatHolds : Type 0
AllocasKeepWhatHolds = (side : SideState) (a : Alloca) (paired : ℕ → Bool) (one_sided : Bool) → IsFine side → HoldsMade side
    → ((b : ℕ) → IsMade side.world.memory b → paired b ≡ side.paired b) → (one_sided ≡ true → paired (length side.world.memory) ≡ false)
    → LineKeeps side (side_made a paired side) (line.Alloca a) one_sided

abbrev pub side_stored : Memory → SideState → SideState
side_stored memory side = record side { world = record side.world { memory = memory } }

-- a store that doesn't trap, of both sides or of one
abbrev pub StoresKeepWhatHolds : Type 0
StoresKeepWhatHolds = (side : SideState) (s : Store) (memory : Memory) (one_sided : Bool) → IsFine side
    → stored_by side.scope s side.files.now side.world.memory ≡ Some memory → LineKeeps side (side_stored memory side) (line.Store s) one_sided

-- The side behind the phis of an edge is fine again, and holds what is made alone where the one before did; and what is known over the edge holds
-- there.
pub record EdgeKeeps (side : SideState) (from : Name) (phis : List Phi) : Type 0 where
  pub fine : IsFine (crossed from phis side)
  pub made : HoldsMade side → HoldsMade (crossed from phis side)
  pub facts : (known : List Fact) → AllByRecursion (Holds side) known → AllByRecursion (Holds (crossed from phis side)) (facts_over from phis known)

abbrev pub EdgesKeepWhatHolds : Type 0
EdgesKeepWhatHolds = (side : SideState) (from : Name) (phis : List Phi) → IsFine side → AreApart phis → EdgeKeeps side from phis

-- ---- fine sides

-- There is a fine side beside whatever types and globals, so that no schema is sound for want of one. Where a run starts, of whatever module, the
-- side is fine, and what isn't made nothing holds. And in a module of well-formed shape the name of each global leads to it: on a fine side they
-- are all live, of their sizes and alignments.
pub record FineSidesAreThere : Type 0 where
  pub of_each_scope : (scope : Scope) → (side : SideState) × (side.scope ≡ scope) × IsFine side
  pub of_each_start : (m : Module) (f : Name) (input : Input) (frame : Frame) (rest : List Pending) (world : World) → start m f input ≡ Some (Running frame rest world)
      → IsFine (side_of (scope_of m) frame.registers frame.own world) × HoldsMade (side_of (scope_of m) frame.registers frame.own world)
  pub of_each_global : (m : Module) → HasShape m → (k : ℕ) (g : GlobalVar) → slice_get m.globals k ≡ Some g → global_at 0 m.globals g.name ≡ value.Ptr k (pos 0)
