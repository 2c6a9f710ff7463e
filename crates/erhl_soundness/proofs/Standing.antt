-- THE INVARIANT of two sides, and what changes of ghost registers do to what is read.
use Rattle.std.proofs.Common.{◌≡◌, Bool, false, Option, None, Some, refl, ap, ◌∙◌, ℕ, List}
use Rattle.ir_types.specs.declared.names.Name.{Name}
use Rattle.ir_types.specs.declared.ty.Ty.{Ty}
use Rattle.ir_core.specs.declared.values.Value.{Value}
use Rattle.ir_core.specs.declared.values.Value.TheVariants.{Poison}
use Rattle.ir_core.specs.declared.values.Kind.{Kind}
use Rattle.ir_core.specs.declared.expressions.Reg.{Reg}
use Rattle.ir_core.specs.declared.expressions.Reg.TheVariants.{Now, Old, Ghost}
use Rattle.ir_core.specs.declared.expressions.Expr.{Expr}
use Rattle.ir_core.specs.Expressions.{type_of}
use Rattle.ir_core.specs.Same.{same_reg}
use Rattle.ir_core.specs.Types.{kind_of}
use Rattle.ir_types.specs.NameLaws.{same_name_refl}
use Rattle.ir_values.specs.declared.operations.Outcome.TheVariants.{Gives}
use Rattle.ir_values.specs.Constants.{Scope}
use Rattle.ir_values.specs.Related.{Pairing}
use Rattle.ir_values.specs.Values.{IsInKind}
use Rattle.ir_values.proofs.KindLaws.{same_kind_refl}
use Rattle.block_memory.specs.Memory.{Memory}
use Rattle.ir_machine.specs.Keeps.{AreRegistersAmong, IsMade}
use Rattle.ir_machine.specs.Registers.{AreInKind, Registers, held_at, holding, set, register_value, outcome}
use Rattle.ir_machine.specs.State.{World}
use Rattle.ir_machine.proofs.Runs.{read_set_at, read_set_other}
use Rattle.erhl_assert.specs.declared.facts.Assertion.{Assertion}
use Rattle.erhl_assert.specs.Sides.{SideState, IsFine, read_reg, RegisterFiles, no_ghost}
use Rattle.erhl_assert.specs.Facts.{AssertionHolds}
use Rattle.erhl_assert.specs.Edges.{register_at}
use Rattle.erhl_assert.specs.Steps.{Beside}
use Rattle.erhl_soundness.specs.TwoSides.{AreCommon, AreSides, HoldsMade}
use Rattle.erhl_soundness.proofs.Readings.{poison_without_kind}
use Rattle.erhl_soundness.proofs.Definitions.{AreDefined}

-- One side's run, beside the types and globals of its module: its registers, the blocks that its frame made, the registers of the frames below
-- it, its world, and which of its blocks are in pairs.
pub record Run : Type 0 where
  pub files : RegisterFiles
  pub own : List ℕ
  pub others : List Registers
  pub world : World
  pub paired : ℕ → Bool

abbrev pub side : Scope → Run → SideState
side scope r = record {
  scope = scope;
  files = r.files;
  own = r.own;
  others = r.others;
  world = r.world;
  paired = r.paired;
}

abbrev pub run_of : SideState → Run
run_of s = record {
  files = s.files;
  own = s.own;
  others = s.others;
  world = s.world;
  paired = s.paired;
}

-- By pairs of their blocks both are sides, as they should be; a register of the source that is set, or was before the edge, holds a kind of one of
-- its definitions; and what is known holds.
pub record Stand (w : Beside) (ps : Pairing) (known : Assertion) (a b : Run) : Type 0 where
  pub sides : AreSides ps (side w.scope a) (side w.scope b)
  pub now_defined : AreDefined w.source a.files.now
  pub old_defined : AreDefined w.source a.files.old
  pub holds : AssertionHolds ps no_ghost known (side w.scope a) (side w.scope b)

-- of the same registers something else is known
pub knowing : (w : Beside) (ps : Pairing) (known known' : Assertion) (a b : Run) → Stand w ps known a b
    → AssertionHolds ps no_ghost known' (side w.scope a) (side w.scope b) → Stand w ps known' a b
knowing w ps known known' a b stand holds = record {
  sides = stand.sides;
  now_defined = stand.now_defined;
  old_defined = stand.old_defined;
  holds = holds;
}

abbrev pub with_now : Run → Registers → Run
with_now r now = record r { files = record r.files { now = now } }

abbrev pub with_ghost : Run → Registers → Run
with_ghost r ghost = record r { files = record r.files { ghost = ghost } }

-- ---- other registers

-- with others, each in kind, a side is as it should be still
pub fine_with : (s : SideState) (files : RegisterFiles) → IsFine s → AreInKind files.now → AreInKind files.old → AreInKind files.ghost
    → IsFine (record s { files = files })
fine_with s files h now old ghost = record {
  now = now;
  old = old;
  ghost = ghost;
  bytes = h.bytes;
  globals = h.globals;
  named = h.named;
  once = h.once;
}

-- with others that hold what is made alone, so does the side
pub made_with : (s : SideState) (files : RegisterFiles) → HoldsMade s → AreRegistersAmong (IsMade s.world.memory) files.now
    → AreRegistersAmong (IsMade s.world.memory) files.old → AreRegistersAmong (IsMade s.world.memory) files.ghost → HoldsMade (record s { files = files })
made_with s files h now old ghost = record {
  now = now;
  old = old;
  ghost = ghost;
  others = h.others;
  bytes = h.bytes;
  names = h.names;
}

-- what two sides have in common isn't of their registers
pub common_with : (ps : Pairing) (source target : SideState) (a b : RegisterFiles) → AreCommon ps source target
    → AreCommon ps (record source { files = a }) (record target { files = b })
common_with ps source target a b h = record {
  scope = h.scope;
  memories = h.memories;
  names = h.names;
  globals = h.globals;
  source_paired = h.source_paired;
  target_paired = h.target_paired;
}

-- a reading of every register in kind
pub reads_in_kind : (s : SideState) → IsFine s → (k : Kind) (r : Reg) → IsInKind k (read_reg s k r)
reads_in_kind s h k (Now x) = h.now x k
reads_in_kind s h k (Old x) = h.old x k
reads_in_kind s h k (Ghost x) = h.ghost x k

-- a register that holds a value at the kind of a type is worth it at that type
module _ (reading : Kind → Reg → Value) (r : Reg) (v : Value) where
  read_holding : (k : Kind) → held_at k (holding (Some k) v) ≡ v
  read_holding k = rw (same_kind_refl k) refl

  at_kind : (o : Option Kind) → ((k : Kind) → reading k r ≡ held_at k (holding o v)) → (o ≡ None → v ≡ Poison) → register_value reading o r ≡ v
  at_kind None reads none = rw (none refl) refl
  at_kind (Some k) reads none = reads k ∙ read_holding k

  pub register_worth : (scope : Scope) (memory : Memory) (t : Ty) → ((k : Kind) → reading k r ≡ held_at k (holding (kind_of t) v)) → (kind_of t ≡ None → v ≡ Poison)
      → outcome scope reading memory (register_at t r) ≡ Gives v
  register_worth scope memory t reads none = ap Gives (at_kind (kind_of t) reads none)

-- at a type without values all is poison
pub none_is_poison : {R : Type 0} (scope : Scope) (reading : Kind → R → Value) (memory : Memory) (e : Expr R) (v : Value) → outcome scope reading memory e ≡ Gives v
    → kind_of (type_of e) ≡ None → v ≡ Poison
none_is_poison scope reading memory e v h none =
    let p : outcome scope reading memory e ≡ Gives Poison = poison_without_kind scope reading memory e none in cc

-- what setting a ghost register does to what is read
abbrev pub set_ghost : Run → Name → Option Kind → Value → Run
set_ghost a x o v = with_ghost a (set a.files.ghost x o v)

module _ (scope : Scope) (a : Run) (x : Name) (o : Option Kind) (v : Value) where
  pub ghost_other : (k : Kind) (r : Reg) → same_reg (Ghost x) r ≡ false → read_reg (side scope (set_ghost a x o v)) k r ≡ read_reg (side scope a) k r
  ghost_other k (Now y) h = refl
  ghost_other k (Old y) h = refl
  ghost_other k (Ghost y) h = read_set_other a.files.ghost x y o k v h

  pub ghost_at : (k : Kind) → read_reg (side scope (set_ghost a x o v)) k (Ghost x) ≡ held_at k (holding o v)
  ghost_at k = read_set_at a.files.ghost x x o k v (same_name_refl x)
