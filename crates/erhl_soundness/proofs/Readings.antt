-- One lemma for all changes of registers, and one for all changes of names: what an expression is worth rests on what its
-- registers read.
use Rattle.std.proofs.Common.{◌≡◌, ◌∙◌, ◌&&◌, ◌||◌, Bool, true, false, cond, nat_eq, List, [], ◌∷◌, map, Option, None, Some, refl, sym, ap, ap₂}
use Rattle.std.specs.List.{list_any}
use Rattle.std.proofs.lemmas.Bool.{or_parts}
use Rattle.ir_core.specs.declared.values.Value.{Value}
use Rattle.ir_core.specs.declared.values.Value.TheVariants as value
use Rattle.ir_core.specs.declared.values.Value.TheVariants.{Num, Bare, Undef, Poison}
use Rattle.ir_core.specs.declared.values.Kind.{Kind}
use Rattle.ir_core.specs.declared.values.Kind.TheVariants as kind
use Rattle.ir_core.specs.declared.operands.Atom.{Atom}
use Rattle.ir_core.specs.declared.operands.Atom.TheVariants.{Constant, Register}
use Rattle.ir_core.specs.declared.operands.CastOp.{CastOp}
use Rattle.ir_core.specs.declared.expressions.Element.{Element as ElementOf}
use Rattle.ir_core.specs.declared.expressions.Expr.{Expr}
use Rattle.ir_core.specs.declared.expressions.Expr.TheVariants.{Plain, Binary, Icmp, Cast, Select, Element, Load}
use Rattle.ir_core.specs.declared.operands.Operand.{Operand}
use Rattle.ir_types.specs.declared.ty.Ty.TheVariants.{Int}
use Rattle.ir_types.specs.Same.{same_ty}
use Rattle.ir_types.specs.NameLaws.{right_true}
use Rattle.ir_types.proofs.SameLaws.{same_ty_true}
use Rattle.ir_types.specs.declared.ty.Ty.{Ty, Ptr}
use Rattle.ir_values.specs.Constants.{Scope, width_of}
use Rattle.ir_values.specs.Selections.{select_outcome}
use Rattle.block_memory.specs.Memory.{Memory, loaded_of}
use Rattle.ir_core.specs.Types.{converts, kind_of}
use Rattle.ir_core.specs.Expressions.{type_of, map_atom, map_element, map_expr, map_operand, atom_has, expr_has}
use Rattle.ir_core.specs.Typing.{element_type, index_of, is_due, number_in}
use Rattle.ir_values.specs.Addresses.{GivenIndex, gep_outcome}
use Rattle.ir_values.specs.declared.operations.Outcome.{Outcome}
use Rattle.ir_values.specs.declared.operations.Outcome.TheVariants.{Gives}
use Rattle.ir_values.proofs.ConstantValues.{element_pointer, pointer_kind}
use Rattle.ir_machine.specs.Registers.{constant_at, register_value, atom_value, operand_value, binary_at, icmp_at, size_at, cast_at, selects, align_or, is_stated, index_value, element_from, outcome}

-- equal values are selected alike
selected : (typed : Bool) {c d a b x y : Value} → c ≡ d → a ≡ b → x ≡ y
    → cond typed (select_outcome c a x) (Gives Poison) ≡ cond typed (select_outcome d b y) (Gives Poison)
selected typed {d = d} {b = b} {x = x} p q o =
    ap₂ (λ c a. cond typed (select_outcome c a x) (Gives Poison)) p q ∙ ap (λ y. cond typed (select_outcome d b y) (Gives Poison)) o

-- the address of a part, from a base by indices
abbrev address : {R : Type 0} → Bool → Scope → Memory → ElementOf R → Value → List GivenIndex → Outcome
address stated scope memory e base is = cond stated (gep_outcome e.inbounds scope.types e.of base (size_at memory base) is) (Gives Poison)

-- two readings that agree on each register of an expression give it one outcome
module _ {R : Type 0} (scope : Scope) (before after : Kind → R → Value) (test : R → Bool) (same : (k : Kind) (r : R) → test r ≡ false → after k r ≡ before k r) where
  register_same : (k : Option Kind) (r : R) → test r ≡ false → register_value after k r ≡ register_value before k r
  register_same None r h = refl
  register_same (Some k) r h = same k r h

  atom_same : (t : Ty) (a : Atom R) → atom_has test a ≡ false → atom_value scope after t a ≡ atom_value scope before t a
  atom_same t (Constant c) h = refl
  atom_same t (Register r) h = register_same (kind_of t) r h

  indices_same : (os : List (Operand R)) → list_any (λ (o : Operand R). atom_has test o.atom) os ≡ false
      → map (index_value scope after) os ≡ map (index_value scope before) os
  indices_same [] h = refl
  indices_same (o ∷ os) h =
      let parts = or_parts (atom_has test o.atom) (list_any (λ (q : Operand R). atom_has test q.atom) os) h in
      ap₂ (λ v is. (width_of o.ty, v) ∷ is) (atom_same o.ty o.atom parts.0) (indices_same os parts.1)

  pub outcome_same : (memory : Memory) (e : Expr R) → expr_has test e ≡ false → outcome scope after memory e ≡ outcome scope before memory e
  outcome_same memory (Plain o) h = ap Gives (atom_same o.ty o.atom h)
  outcome_same memory (Binary b) h =
      let parts = or_parts (atom_has test b.left) (atom_has test b.right) h in
      ap₂ (binary_at b.op b.flags (kind_of b.ty)) (atom_same b.ty b.left parts.0) (atom_same b.ty b.right parts.1)
  outcome_same memory (Icmp c) h =
      let parts = or_parts (atom_has test c.left) (atom_has test c.right) h in
      ap₂ (icmp_at memory c.pred (kind_of c.ty)) (atom_same c.ty c.left parts.0) (atom_same c.ty c.right parts.1)
  outcome_same memory (Cast c) h =
      ap (λ v. cond (converts c.op c.operand.ty c.to) (cast_at c.op (kind_of c.operand.ty) (kind_of c.to) v) (Gives Poison))
      (atom_same c.operand.ty c.operand.atom h)
  outcome_same memory (Select s) h =
      let parts = or_parts (atom_has test s.condition.atom || atom_has test s.left.atom) (atom_has test s.right.atom) h in
      let first = or_parts (atom_has test s.condition.atom) (atom_has test s.left.atom) parts.0 in
      selected (selects s.condition.ty s.left.ty s.right.ty) (atom_same s.condition.ty s.condition.atom first.0)
      (atom_same s.left.ty s.left.atom first.1) (atom_same s.right.ty s.right.atom parts.1)
  outcome_same memory (Element e) h =
      let parts = or_parts (atom_has test e.base.atom) (list_any (λ (o : Operand R). atom_has test o.atom) e.indices) h in
      ap₂ (address (is_stated scope.types e) scope memory e) (atom_same e.base.ty e.base.atom parts.0) (indices_same e.indices parts.1)
  outcome_same memory (Load l) h =
      ap (λ v. loaded_of memory (kind_of l.of) v (align_or scope.types l.of l.align)) (atom_same l.pointer.ty l.pointer.atom h)

-- under other names an expression has the outcome that it has where its registers read so
module _ {R S : Type 0} (scope : Scope) (name : R → S) (reading : Kind → S → Value) where
  abbrev pub renamed : Kind → R → Value
  renamed k r = reading k (name r)

  register_renamed : (k : Option Kind) (r : R) → register_value reading k (name r) ≡ register_value renamed k r
  register_renamed None r = refl
  register_renamed (Some k) r = refl

  pub atom_mapped : (t : Ty) (a : Atom R) → atom_value scope reading t (map_atom name a) ≡ atom_value scope renamed t a
  atom_mapped t (Constant c) = refl
  atom_mapped t (Register r) = register_renamed (kind_of t) r

  operand_mapped : (o : Operand R) → operand_value scope reading (map_operand name o) ≡ operand_value scope renamed o
  operand_mapped o = atom_mapped o.ty o.atom

  indices_mapped : (os : List (Operand R)) → map (index_value scope reading) (map (map_operand name) os) ≡ map (index_value scope renamed) os
  indices_mapped [] = refl
  indices_mapped (o ∷ os) = ap₂ (λ v is. (width_of o.ty, v) ∷ is) (operand_mapped o) (indices_mapped os)

  number_mapped : (a : Atom R) → number_in (map_atom name a) ≡ number_in a
  number_mapped (Constant c) = refl
  number_mapped (Register r) = refl

  index_mapped : (os : List (Operand R)) → map index_of (map (map_operand name) os) ≡ map index_of os
  index_mapped [] = refl
  index_mapped (o ∷ os) = ap₂ (λ n is. record { ty = o.ty; number = n } ∷ is) (number_mapped o.atom) (index_mapped os)

  stated_mapped : (e : ElementOf R) → is_stated scope.types (map_element name e) ≡ is_stated scope.types e
  stated_mapped e = ap (λ is. same_ty e.base.ty (Ptr e.of) && is_due (element_type scope.types e.of is) e.to) (index_mapped e.indices)

  pub outcome_mapped : (memory : Memory) (e : Expr R) → outcome scope reading memory (map_expr name e) ≡ outcome scope renamed memory e
  outcome_mapped memory (Plain o) = ap Gives (atom_mapped o.ty o.atom)
  outcome_mapped memory (Binary b) = ap₂ (binary_at b.op b.flags (kind_of b.ty)) (atom_mapped b.ty b.left) (atom_mapped b.ty b.right)
  outcome_mapped memory (Icmp c) = ap₂ (icmp_at memory c.pred (kind_of c.ty)) (atom_mapped c.ty c.left) (atom_mapped c.ty c.right)
  outcome_mapped memory (Cast c) =
      ap (λ v. cond (converts c.op c.operand.ty c.to) (cast_at c.op (kind_of c.operand.ty) (kind_of c.to) v) (Gives Poison))
      (atom_mapped c.operand.ty c.operand.atom)
  outcome_mapped memory (Select s) =
      selected (selects s.condition.ty s.left.ty s.right.ty) (atom_mapped s.condition.ty s.condition.atom)
      (atom_mapped s.left.ty s.left.atom) (atom_mapped s.right.ty s.right.atom)
  outcome_mapped memory (Element e) =
      ap (λ stated. address stated scope memory e (operand_value scope reading (map_operand name e.base)) (map (index_value scope reading) (map (map_operand name) e.indices))) (stated_mapped e)
      ∙ ap₂ (address (is_stated scope.types e) scope memory e) (operand_mapped e.base) (indices_mapped e.indices)
  outcome_mapped memory (Load l) =
      ap (λ v. loaded_of memory (kind_of l.of) v (align_or scope.types l.of l.align)) (atom_mapped l.pointer.ty l.pointer.atom)

-- and the same type
pub type_mapped : {R S : Type 0} (name : R → S) (e : Expr R) → type_of (map_expr name e) ≡ type_of e
type_mapped name (Plain o) = refl
type_mapped name (Binary b) = refl
type_mapped name (Icmp c) = refl
type_mapped name (Cast c) = refl
type_mapped name (Select s) = refl
type_mapped name (Element e) = refl
type_mapped name (Load l) = refl

-- at a type without values an outcome is poison
cast_to_none : (op : CastOp) (j : Option Kind) (typed : Bool) (a : Value) → cond typed (cast_at op j None a) (Gives Poison) ≡ Gives Poison
cast_to_none op None true a = refl
cast_to_none op (Some j) true a = refl
cast_to_none op j false a = refl

selects_poison : (c : Value) → select_outcome c Poison Poison ≡ Gives Poison
selects_poison Poison = refl
selects_poison Undef = refl
selects_poison (value.Ptr block offset) = refl
selects_poison (Bare address) = refl
selects_poison (Num n) = elim (nat_eq n 1) as (λ b. Gives (cond b Poison Poison) ≡ Gives Poison) [ true ↦ refl | false ↦ refl ]

select_of_none : (typed : Bool) (c a b : Value) → (typed ≡ true → (a ≡ Poison) × (b ≡ Poison)) → cond typed (select_outcome c a b) (Gives Poison) ≡ Gives Poison
select_of_none true c a b h = let both = h refl in ap₂ (select_outcome c) both.0 both.1 ∙ selects_poison c
select_of_none false c a b h = refl

not_stated : (one due : Bool) (o : Outcome) → (due ≡ true → ⊥) → cond (one && due) o (Gives Poison) ≡ Gives Poison
not_stated true true o h = absurd (h refl)
not_stated true false o h = refl
not_stated false due o h = refl

module _ {R : Type 0} (scope : Scope) (reading : Kind → R → Value) where
  pub atom_of_none : (t : Ty) (a : Atom R) → kind_of t ≡ None → atom_value scope reading t a ≡ Poison
  atom_of_none t (Constant c) h = ap (λ k. constant_at scope t k c) h
  atom_of_none t (Register r) h = ap (λ k. register_value reading k r) h

  poison_of_none : (o : Operand R) → kind_of o.ty ≡ None → operand_value scope reading o ≡ Poison
  poison_of_none o h = atom_of_none o.ty o.atom h

  pub poison_without_kind : (memory : Memory) (e : Expr R) → kind_of (type_of e) ≡ None → outcome scope reading memory e ≡ Gives Poison
  poison_without_kind memory (Plain o) h = ap Gives (poison_of_none o h)
  poison_without_kind memory (Binary b) h = ap (λ k. binary_at b.op b.flags k (atom_value scope reading b.ty b.left) (atom_value scope reading b.ty b.right)) h
  poison_without_kind memory (Icmp c) h = absurd (cc)
  poison_without_kind memory (Cast c) h =
      let typed = converts c.op c.operand.ty c.to in
      ap (λ k. cond typed (cast_at c.op (kind_of c.operand.ty) k (operand_value scope reading c.operand)) (Gives Poison)) h
      ∙ cast_to_none c.op (kind_of c.operand.ty) typed (operand_value scope reading c.operand)
  poison_without_kind memory (Select s) h =
      select_of_none (selects s.condition.ty s.left.ty s.right.ty) (operand_value scope reading s.condition) (operand_value scope reading s.left) (operand_value scope reading s.right)
      (λ e.
      let one : s.left.ty ≡ s.right.ty =
      same_ty_true s.left.ty s.right.ty (right_true (same_ty s.condition.ty (Int 1)) (same_ty s.left.ty s.right.ty) e) in
      (poison_of_none s.left h, poison_of_none s.right (ap kind_of (sym one) ∙ h)))
  poison_without_kind memory (Element e) h =
      let is = map index_of e.indices in
      not_stated (same_ty e.base.ty (Ptr e.of)) (is_due (element_type scope.types e.of is) e.to) (element_from scope reading memory e (operand_value scope reading e.base))
      (λ due. let pointer : Some kind.Ptr ≡ None = sym (pointer_kind e.to (element_pointer scope.types e.of is e.to due)) ∙ h in cc)
  poison_without_kind memory (Load l) h =
      ap (λ k. loaded_of memory k (operand_value scope reading l.pointer) (align_or scope.types l.of l.align)) h
