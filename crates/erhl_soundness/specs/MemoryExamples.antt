-- Sides written out, of which facts of memory are true and false, and what kills and lines make of such facts.
use Rattle.std.specs.Prelude.{◌≡◌, ℕ, ℤ, pos, true, false, List, [], ◌∷◌, length, None, Some}
use Rattle.ir_types.specs.declared.names.Name.TheVariants.{Number}
use Rattle.ir_types.specs.declared.ty.Ty.{Ty}
use Rattle.ir_types.specs.declared.ty.Ty.TheVariants.{Int, Ptr, Void}
use Rattle.ir_core.specs.declared.values.Byte.{Byte}
use Rattle.ir_core.specs.declared.values.Byte.TheVariants as byte
use Rattle.ir_core.specs.declared.values.Kind.TheVariants as kind
use Rattle.ir_core.specs.declared.values.Value.{Value}
use Rattle.ir_core.specs.declared.values.Value.TheVariants as value
use Rattle.ir_core.specs.declared.operands.Atom.TheVariants as atom
use Rattle.ir_core.specs.declared.operands.Const.TheVariants as constant
use Rattle.ir_core.specs.declared.operands.Operand.{Operand}
use Rattle.ir_core.specs.declared.functions.Instr.{Instr}
use Rattle.ir_core.specs.declared.functions.Instr.TheVariants as line
use Rattle.ir_core.specs.declared.functions.Phi.{Phi}
use Rattle.ir_core.specs.declared.expressions.Expr.TheVariants as expr
use Rattle.ir_core.specs.declared.expressions.Reg.{Reg}
use Rattle.ir_core.specs.declared.expressions.Reg.TheVariants.{Now, Old, Ghost}
use Rattle.ir_core.specs.Expressions.{Expr0}
use Rattle.block_memory.specs.Memory.{Cell}
use Rattle.ir_machine.specs.Registers.{Registers, no_registers, set}
use Rattle.ir_machine.specs.State.{no_scope}
use Rattle.erhl_assert.specs.declared.facts.Fact.{Fact}
use Rattle.erhl_assert.specs.declared.facts.Fact.TheVariants.{LessDef, Unique, Private, NoAlias, Ok}
use Rattle.erhl_assert.specs.Edges.{facts_over, register_at}
use Rattle.erhl_assert.specs.Facts.{Holds}
use Rattle.erhl_assert.specs.Kills.{spares}
use Rattle.erhl_assert.specs.Postcondition.{facts_after, line_adds}
use Rattle.erhl_assert.specs.Sides.{SideState}

-- %n holds a value of addresses
abbrev pub holding : ℕ → Value → Registers → Registers
holding n v registers = set registers (Number n) (Some kind.Ptr) v

-- a pointer into block 0
abbrev pub into : ℤ → Value
into offset = value.Ptr 0 offset

-- eight bytes at an alignment of 4, of which the first is this one
abbrev pub slot : Byte → Cell
slot first = record {
  align = 4;
  live = true;
  bytes = first ∷ byte.Undef ∷ byte.Undef ∷ byte.Undef ∷ byte.Undef ∷ byte.Undef ∷ byte.Undef ∷ byte.Undef ∷ [];
}

-- %1 holds a pointer to a slot that the frame made, which is in no pair and which nothing else holds
abbrev pub alone : SideState
alone = record {
  scope = no_scope;
  files = record { now = holding 1 (into (pos 0)) no_registers; old = no_registers; ghost = no_registers };
  own = 0 ∷ [];
  others = [];
  world = record { memory = slot byte.Undef ∷ []; names = [] };
  paired = λ b. false;
}

-- the slot has ended
abbrev pub dead : SideState
dead = record alone { world = record alone.world { memory = record (slot byte.Undef) { live = false } ∷ [] } }

-- %2 holds another value too
abbrev pub beside : Value → SideState
beside v = record alone { files = record alone.files { now = holding 2 v alone.files.now } }

-- a register at a pointer type, as an operand and as an expression
abbrev pub place : Reg → Operand Reg
place r = record { ty = Ptr (Int 32); atom = atom.Register r }

abbrev pub plain : Reg → Expr0
plain r = expr.Plain (place r)

abbrev pub first : Reg
first = Now (Number 1)

abbrev pub second : Reg
second = Now (Number 2)

-- `ok` of %1 at a type and an alignment
abbrev pub ok_at : Ty → ℕ → Fact
ok_at t align = Ok (plain first) t align

-- ---- what kills leave

-- an address, as a load or a store names it; at which type it is stated plays no part
abbrev pub spot : Reg → Operand Reg
spot r = record { ty = Int 64; atom = atom.Register r }

-- not both are pointers into one block
abbrev pub apart : Reg → Reg → Fact
apart r q = NoAlias (expr.Plain (spot r)) (expr.Plain (spot q))

-- load i32, r, align 4
abbrev pub loaded_through : Reg → Expr0
loaded_through r = expr.Load (record { of = Int 32; pointer = spot r; align = Some 4 })

-- i32 7
abbrev pub seven : Expr0
seven = expr.Plain (record { ty = Int 32; atom = atom.Constant (constant.Number 7) })

-- a load from there gives 7, or whatever 7 is less defined than
abbrev pub holds_seven : Reg → Fact
holds_seven r = LessDef seven (loaded_through r)

-- %n = load i32, %1, align 4
abbrev pub loading : ℕ → Instr
loading n = line.Calm (record {
  name = Number n;
  right = expr.Load (record { of = Int 32; pointer = record { ty = Int 64; atom = atom.Register (Number 1) }; align = Some 4 });
})

-- %2 = load void, %1, align 4
abbrev pub loading_nothing : Instr
loading_nothing = line.Calm (record {
  name = Number 2;
  right = expr.Load (record { of = Void; pointer = record { ty = Int 64; atom = atom.Register (Number 1) }; align = Some 4 });
})

-- store i32 7, %1, align 4
abbrev pub storing : Instr
storing = line.Store (record {
  value = record { ty = Int 32; atom = atom.Constant (constant.Number 7) };
  pointer = record { ty = Int 64; atom = atom.Register (Number 1) };
  align = Some 4;
})

-- i32 %2
abbrev pub result : Expr0
result = expr.Plain (record { ty = Int 32; atom = atom.Register second })

-- %1 = alloca i32, align 4
abbrev pub making : Instr
making = line.Alloca (record { name = Number 1; of = Int 32; to = Ptr (Int 32); count = None; align = Some 4 })

-- what its slot holds
abbrev pub of_slot : List Fact
of_slot =
    let held = expr.Load (record { of = Int 32; pointer = place first; align = Some 4 }) in
    let undef = expr.Plain (record { ty = Int 32; atom = atom.Constant constant.Undef }) in
    Ok (plain first) (Int 32) 4 ∷ LessDef held undef ∷ LessDef undef held ∷ []

-- %3 = phi i64 [ %1, %9 ]
abbrev pub copying : Phi
copying = record { name = Number 3; ty = Int 64; entries = record { value = atom.Register (Number 1); from = Number 9 } ∷ [] }

-- ---- what is told

-- `unique` of %1 is exact: one state of each way in which it fails. That an old or a ghost register holds the block is none.
pub record UniqueIsTold : Type 0 where
  pub unshared : Holds alone (Unique first)
  pub of_no_pointer : Holds (beside value.Undef) (Unique second)
  pub old : Holds (record alone { files = record alone.files { old = alone.files.now; ghost = alone.files.now } }) (Unique first)
  pub in_a_register : Holds (beside (into (pos 4))) (Unique first) → ⊥
  pub in_another_frame : Holds (record alone { others = no_registers ∷ holding 1 (into (pos 0)) no_registers ∷ [] }) (Unique first) → ⊥
  pub in_a_byte : Holds (record alone { world = record alone.world { memory = slot (byte.Frag 0 (pos 0) 3) ∷ [] } }) (Unique first) → ⊥
  pub in_a_name : Holds (record alone { world = record alone.world { names = None ∷ Some 0 ∷ [] } }) (Unique first) → ⊥
  pub of_an_old_register : Holds alone (Unique (Old (Number 1))) → ⊥

-- `private`: the frame made the block, and it is in no pair; whoever holds it
pub record PrivateIsTold : Type 0 where
  pub own : Holds alone (Private first)
  pub shared : Holds (beside (into (pos 4))) (Private second)
  pub of_another_frame : Holds (record alone { own = [] }) (Private first) → ⊥
  pub in_a_pair : Holds (record alone { paired = λ b. true }) (Private first) → ⊥
  pub of_a_ghost : Holds alone (Private (Ghost (Number 1))) → ⊥

-- `noalias`: not both are pointers into one block, at whatever offsets
pub record NoAliasIsTold : Type 0 where
  pub of_no_blocks : Holds (beside (value.Bare 8)) (NoAlias (plain second) (plain second))
  pub of_two_blocks : Holds (beside (value.Ptr 1 (pos 0))) (NoAlias (plain first) (plain second))
  pub of_one_block : Holds (beside (into (pos 4))) (NoAlias (plain first) (plain second)) → ⊥

-- `ok`: a kind, an alignment and a size that the block has, while it lives; at a type without values an access traps
pub record OkIsTold : Type 0 where
  pub fits : Holds alone (ok_at (Int 64) 4)
  pub too_many : Holds alone (ok_at (Int 64) 8) → ⊥
  pub behind_the_end : Holds (beside (into (pos 8))) (Ok (plain second) (Int 8) 1) → ⊥
  pub without_alignment : Holds alone (ok_at (Int 8) 0) → ⊥
  pub of_no_type : Holds alone (ok_at Void 1) → ⊥
  pub of_the_dead : Holds dead (ok_at (Int 8) 1) → ⊥
  pub of_no_block : Holds (beside (value.Bare 8)) (Ok (plain second) (Int 8) 1) → ⊥

-- Which loads a store spares, and what a load and a store make of what is known.
pub record KillsAreTold : Type 0 where
  -- by `noalias` either way round, and by `unique` of either address; not by `unique` where the other is as it was before an edge, nor of itself
  pub apart_so : spares (apart second first ∷ []) (spot first) (spot second) ≡ true
  pub turned : spares (apart first second ∷ []) (spot first) (spot second) ≡ true
  pub unique_store : spares (Unique first ∷ []) (spot first) (spot second) ≡ true
  pub unique_load : spares (Unique second ∷ []) (spot first) (spot second) ≡ true
  pub from_old : spares (Unique first ∷ []) (spot first) (spot (Old (Number 2))) ≡ false
  pub from_itself : spares (Unique first ∷ apart first first ∷ []) (spot first) (spot first) ≡ false
  pub by_nothing : spares (Private first ∷ []) (spot first) (spot second) ≡ false
  -- A load makes no copy of its address, and tells that another access there doesn't trap, unless it sets its address. At a type without values it
  -- gives poison wherever that leads, and tells nothing of it.
  pub a_load : facts_after [] false (Some (loading 2)) (Unique first ∷ Unique second ∷ [])
      ≡ Unique first ∷ LessDef result (loaded_through first) ∷ LessDef (loaded_through first) result ∷ Ok (expr.Plain (spot first)) (Int 32) 4 ∷ []
  pub its_own_address : line_adds [] false (loading 1) ≡ []
  pub of_nothing : length (line_adds [] false loading_nothing) ≡ 2
  -- a store takes what is known of loads from there, and leaves what is of those that it spares
  pub a_store : facts_after [] false (Some storing) (holds_seven first ∷ holds_seven second ∷ Unique first ∷ [])
      ≡ holds_seven second ∷ Unique first ∷ Ok (expr.Plain (spot first)) (Int 32) 4 ∷ LessDef (loaded_through first) seven ∷ holds_seven first ∷ []
  -- an alloca's pointer is the only one to its block, and private where the line is of one side alone
  pub an_alloca : line_adds [] false making ≡ Unique first ∷ of_slot
  pub of_one_side : line_adds [] true making ≡ Unique first ∷ Private first ∷ of_slot
  -- over an edge what is known of expressions is known of what they were, and what a phi is given gets a second holder
  pub an_edge : facts_over (Number 9) (copying ∷ []) (Unique first ∷ Unique second ∷ Private first ∷ apart first second ∷ [])
      ≡ Unique second ∷ Private first ∷ apart first second ∷ apart (Old (Number 1)) (Old (Number 2))
      ∷ LessDef (register_at (Int 64) (Now (Number 3))) (register_at (Int 64) (Old (Number 1)))
      ∷ LessDef (register_at (Int 64) (Old (Number 1))) (register_at (Int 64) (Now (Number 3))) ∷ []
