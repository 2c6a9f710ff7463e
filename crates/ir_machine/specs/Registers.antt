-- Registers, and what operands are worth over them.
use Rattle.std.specs.Prelude.{ℕ, Bool, ◌&&◌, cond, List, length, map, Option, None, Some}
use Rattle.ir_types.specs.declared.names.Name.{Name}
use Rattle.ir_core.specs.declared.values.Value.{Value}
use Rattle.ir_core.specs.declared.values.Value.TheVariants.{Num, Ptr, Bare, Undef, Poison}
use Rattle.ir_core.specs.declared.values.Kind.{Kind}
use Rattle.ir_core.specs.declared.values.Kind.TheVariants as kind
use Rattle.ir_core.specs.declared.operands.Const.{Const}
use Rattle.ir_core.specs.declared.operands.Atom.{Atom}
use Rattle.ir_core.specs.declared.operands.Atom.TheVariants as atom
use Rattle.ir_core.specs.declared.operands.Operand.{Operand}
use Rattle.ir_core.specs.declared.operands.BinOp.{BinOp}
use Rattle.ir_core.specs.declared.operands.CastOp.{CastOp}
use Rattle.ir_core.specs.declared.operands.Flags.{Flags}
use Rattle.ir_core.specs.declared.operands.Pred.{Pred}
use Rattle.ir_types.specs.declared.ty.Ty.{Ty}
use Rattle.ir_types.specs.declared.ty.Ty.TheVariants as ty
use Rattle.ir_types.specs.Same.{same_name, same_ty}
use Rattle.ir_core.specs.declared.expressions.Expr.{Expr}
use Rattle.ir_core.specs.declared.expressions.Expr.TheVariants.{Plain, Binary, Icmp, Cast, Select, Element, Load}
use Rattle.ir_core.specs.declared.expressions.Element.{Element as ElementOf}
use Rattle.ir_core.specs.Types.{converts, kind_of}
use Rattle.ir_core.specs.Typing.{element_type, index_of, is_due}
use Rattle.ir_types.specs.declared.named.NamedTy.{NamedTy}
use Rattle.ir_types.specs.Named.{align_of}
use Rattle.ir_values.specs.declared.operations.Outcome.{Outcome}
use Rattle.ir_values.specs.declared.operations.Outcome.TheVariants.{Gives}
use Rattle.ir_values.specs.Values.{IsInKind, same_kind}
use Rattle.ir_values.specs.Comparisons.{icmp_outcome}
use Rattle.ir_values.specs.Addresses.{GivenIndex, gep_outcome}
use Rattle.ir_values.specs.Constants.{Scope, constant_value, width_of}
use Rattle.ir_values.specs.Conversions.{cast_outcome}
use Rattle.ir_values.specs.Operations.{binary_outcome}
use Rattle.ir_values.specs.Selections.{select_outcome}
use Rattle.block_memory.specs.Memory.{Cell, Memory, cell_at, loaded_of}

-- what a register that is set holds: the kind of the line or parameter that set it, and a value
pub record Held : Type 0 where
  pub kind : Kind
  pub value : Value

-- which registers are set, and what they hold
abbrev pub Registers : Type 0
Registers = Name → Option Held

abbrev pub no_registers : Registers
no_registers x = None

abbrev pub held_at : Kind → Option Held → Value
held_at k None = Poison
held_at k (Some held) = cond (same_kind held.kind k) held.value Poison

-- a register that isn't set, or is read at another kind than its own, reads as poison
abbrev pub read : Registers → Kind → Name → Value
read registers k x = held_at k (registers x)

abbrev pub holding : Option Kind → Value → Option Held
holding None v = None
holding (Some k) v = Some (record { kind = k; value = v })

-- a register of no kind isn't set
abbrev pub set : Registers → Name → Option Kind → Value → Registers
set registers x k v = λ y. cond (same_name x y) (holding k v) (registers y)

-- every register holds a value of its kind
abbrev pub AreInKind : Registers → Type 0
AreInKind registers = (x : Name) (k : Kind) → IsInKind k (read registers k x)

-- ---- operands

-- what a register is worth at a kind, where registers are read by the function given: poison without a kind
abbrev pub register_value : {R : Type 0} → (Kind → R → Value) → Option Kind → R → Value
register_value reading None r = Poison
register_value reading (Some k) r = reading k r

-- what a constant is worth at its stated type, of that kind: poison at a type without values
abbrev pub constant_at : Scope → Ty → Option Kind → Const → Value
constant_at scope t None c = Poison
constant_at scope t (Some k) c = constant_value scope t c

-- what an atom is worth at a type
abbrev pub atom_value : {R : Type 0} → Scope → (Kind → R → Value) → Ty → Atom R → Value
atom_value scope reading t (atom.Constant c) = constant_at scope t (kind_of t) c
atom_value scope reading t (atom.Register r) = register_value reading (kind_of t) r

abbrev pub operand_value : {R : Type 0} → Scope → (Kind → R → Value) → Operand R → Value
operand_value scope reading o = atom_value scope reading o.ty o.atom

-- ---- operators

-- the outcome of a binary operator on values of a kind: poison at a type without values
abbrev pub binary_at : BinOp → Flags → Option Kind → Value → Value → Outcome
binary_at op flags None a b = Gives Poison
binary_at op flags (Some (kind.Int width)) a b = binary_outcome op flags width a b
binary_at op flags (Some kind.Ptr) a b = Gives Poison

-- the size of the block that an address is in
abbrev pub size_in : Option Cell → ℕ
size_in None = 0
size_in (Some c) = length c.bytes

abbrev pub size_at : Memory → Value → ℕ
size_at memory (Ptr block offset) = size_in (cell_at memory block)
size_at memory (Num n) = 0
size_at memory (Bare address) = 0
size_at memory Undef = 0
size_at memory Poison = 0

-- the outcome of a comparison of values of a kind
abbrev pub icmp_at : Memory → Pred → Option Kind → Value → Value → Outcome
icmp_at memory pred None a b = Gives Poison
icmp_at memory pred (Some k) a b = icmp_outcome pred k a b (size_at memory a) (size_at memory b)

-- the outcome of a conversion from a kind to a kind
abbrev pub cast_at : CastOp → Option Kind → Option Kind → Value → Outcome
cast_at op None to v = Gives Poison
cast_at op (Some from) None v = Gives Poison
cast_at op (Some from) (Some to) v = cast_outcome op from to v

-- the condition is an i1, and the arms are of one type
abbrev pub selects : Ty → Ty → Ty → Bool
selects condition left right = same_ty condition (ty.Int 1) && same_ty left right

-- the alignment of an access that states none is its type's
abbrev pub align_or : List NamedTy → Ty → Option ℕ → ℕ
align_or types t None = align_of types t
align_or types t (Some align) = align

-- ---- addresses of parts

-- The address is one that a line may state: its base points to what is stated, and its indices lead to what it is said to point to.
abbrev pub is_stated : {R : Type 0} → List NamedTy → ElementOf R → Bool
is_stated types e = same_ty e.base.ty (ty.Ptr e.of) && is_due (element_type types e.of (map index_of e.indices)) e.to

abbrev pub index_value : {R : Type 0} → Scope → (Kind → R → Value) → Operand R → GivenIndex
index_value scope reading o = (width_of o.ty, operand_value scope reading o)

-- what it comes to from a base
abbrev pub element_from : {R : Type 0} → Scope → (Kind → R → Value) → Memory → ElementOf R → Value → Outcome
element_from scope reading memory e base =
    gep_outcome e.inbounds scope.types e.of base (size_at memory base) (map (index_value scope reading) e.indices)

-- The outcome of an expression beside the types and globals of a module, in a memory: an operand is worth its value, and an operator works
-- on the values of its operands. Where its types are none that the operator takes it gives poison; no module that `check` reads has such a
-- line.
abbrev pub outcome : {R : Type 0} → Scope → (Kind → R → Value) → Memory → Expr R → Outcome
outcome scope reading memory (Plain o) = Gives (operand_value scope reading o)
outcome scope reading memory (Binary b) =
    binary_at b.op b.flags (kind_of b.ty) (atom_value scope reading b.ty b.left) (atom_value scope reading b.ty b.right)
outcome scope reading memory (Icmp c) =
    icmp_at memory c.pred (kind_of c.ty) (atom_value scope reading c.ty c.left) (atom_value scope reading c.ty c.right)
outcome scope reading memory (Cast c) =
    cond (converts c.op c.operand.ty c.to) (cast_at c.op (kind_of c.operand.ty) (kind_of c.to) (operand_value scope reading c.operand)) (Gives Poison)
outcome scope reading memory (Select s) =
    cond (selects s.condition.ty s.left.ty s.right.ty)
    (select_outcome (operand_value scope reading s.condition) (operand_value scope reading s.left) (operand_value scope reading s.right)) (Gives Poison)
outcome scope reading memory (Element e) =
    cond (is_stated scope.types e) (element_from scope reading memory e (operand_value scope reading e.base)) (Gives Poison)
outcome scope reading memory (Load l) = loaded_of memory (kind_of l.of) (operand_value scope reading l.pointer) (align_or scope.types l.of l.align)
