-- Every value that a run comes to is of its kind.
use Rattle.std.proofs.Common.{◌≡◌, ℕ, ℤ, pos, negsuc, ◌<◌, ◌≤◌, ◌^◌, ◌-◌, Bool, true, false, cond, List, [], ◌∷◌, map, Option, None, Some, refl, sym, ap, subst, arith, slice_get, is_some, int_le, int_lt}
use Rattle.std.specs.Prelude.{nat_lt}
use Rattle.std.specs.List.{AllByRecursion}
use Rattle.std.proofs.lemmas.Bool.{leb-true, ltb-true}
use Rattle.ir_types.specs.declared.names.Name.{Name}
use Rattle.ir_core.specs.declared.values.Value.{Value}
use Rattle.ir_core.specs.declared.values.Value.TheVariants as value
use Rattle.ir_core.specs.declared.values.Kind.{Kind}
use Rattle.ir_core.specs.declared.values.Kind.TheVariants.{Int, Ptr}
use Rattle.ir_core.specs.declared.operands.Const.{Const}
use Rattle.ir_core.specs.declared.operands.Atom.{Atom}
use Rattle.ir_core.specs.declared.operands.Atom.TheVariants as atom
use Rattle.ir_core.specs.declared.operands.Operand.{Operand}
use Rattle.ir_core.specs.declared.operands.BinOp.{BinOp}
use Rattle.ir_core.specs.declared.operands.CastOp.{CastOp}
use Rattle.ir_core.specs.declared.operands.Flags.{Flags}
use Rattle.ir_core.specs.declared.operands.Pred.{Pred}
use Rattle.ir_types.specs.declared.named.NamedTy.{NamedTy}
use Rattle.ir_types.specs.declared.ty.Ty.{Ty}
use Rattle.ir_types.specs.declared.ty.Ty.TheVariants as ty
use Rattle.ir_core.specs.declared.expressions.Element.{Element}
use Rattle.ir_core.specs.declared.expressions.Expr.{Expr}
use Rattle.ir_core.specs.declared.expressions.Expr.TheVariants as expr
use Rattle.ir_core.specs.declared.functions.Entry.{Entry}
use Rattle.ir_core.specs.declared.functions.Phi.{Phi}
use Rattle.ir_values.specs.declared.operations.Outcome.{Outcome}
use Rattle.ir_values.specs.Addresses.{GivenIndex, IsIndex, gep_outcome}
use Rattle.ir_values.specs.Constants.{Scope, width_of}
use Rattle.ir_values.specs.Values.{IsInKind, IsInKindOf, IsOffset}
use Rattle.ir_values.specs.Operations.{GivesInKind}
use Rattle.ir_values.proofs.ConstantValues.{constants_in_kind}
use Rattle.ir_values.proofs.KindLaws.{poison_in_kind}
use Rattle.ir_values.proofs.Moved.{gep_in_kind}
use Rattle.ir_values.specs.declared.operations.Outcome.TheVariants.{Gives, Trap}
use Rattle.ir_values.specs.Selections.{select_outcome}
use Rattle.ir_values.proofs.InKind as law
use Rattle.block_memory.specs.declared.items.Shown.{Shown}
use Rattle.block_memory.specs.declared.items.Shown.TheVariants as shown
use Rattle.block_memory.specs.Laws.{IsOfBytes}
use Rattle.block_memory.specs.Memory.{Memory, loaded, loaded_of}
use Rattle.block_memory.specs.Names.{named_value, picked, shown_if}
use Rattle.block_memory.proofs.Accesses.{loaded_in_kind}
use Rattle.ir_types.specs.NameLaws.{left_true, right_true}
use Rattle.ir_types.proofs.SameLaws.{same_ty_true}
use Rattle.ir_types.specs.Same.{same_ty}
use Rattle.ir_core.specs.Types.{converts, is_integer, is_width, kind_of}
use Rattle.ir_core.specs.Typing.{index_of}
use Rattle.ir_core.specs.Expressions.{type_of}
use Rattle.ir_machine.specs.Registers.{Registers, no_registers, read, set, AreInKind, align_or, constant_at, register_value, atom_value, operand_value, binary_at, icmp_at, cast_at, element_from, index_value, is_stated, selects, size_at, outcome}
use Rattle.ir_machine.specs.State.{World}
use Rattle.ir_machine.specs.Machine.{entry_from, entry_value, phi_value, with_phis, is_offset, is_ranged, is_value_of, resolve}
use Rattle.ir_machine.proofs.Runs.{set_in_kind}
use Rattle.ir_values.proofs.ConstantWalks.{are_integers}
use Rattle.ir_machine.proofs.Stated.{base_kind, element_kind, indices_are_integers}

constant_at_in_kind : (scope : Scope) (t : Ty) (c : Const) (k : Option Kind) → kind_of t ≡ k → IsInKindOf k (constant_at scope t k c)
constant_at_in_kind scope t c None e = tt
constant_at_in_kind scope t c (Some k) e = constants_in_kind scope t c k e

register_in_kind : {R : Type 0} (reading : Kind → R → Value) → ((k : Kind) (r : R) → IsInKind k (reading k r)) → (k : Option Kind) (r : R) → IsInKindOf k (register_value reading k r)
register_in_kind reading h None r = tt
register_in_kind reading h (Some k) r = h k r

pub atom_value_in_kind : {R : Type 0} (scope : Scope) (reading : Kind → R → Value) → ((k : Kind) (r : R) → IsInKind k (reading k r)) → (t : Ty) (a : Atom R)
    → IsInKindOf (kind_of t) (atom_value scope reading t a)
atom_value_in_kind scope reading h t (atom.Constant c) = constant_at_in_kind scope t c (kind_of t) refl
atom_value_in_kind scope reading h t (atom.Register r) = register_in_kind reading h (kind_of t) r

pub operand_in_kind : {R : Type 0} (scope : Scope) (reading : Kind → R → Value) → ((k : Kind) (r : R) → IsInKind k (reading k r)) → (o : Operand R)
    → IsInKindOf (kind_of o.ty) (operand_value scope reading o)
operand_in_kind scope reading h o = atom_value_in_kind scope reading h o.ty o.atom

pub binary_in_kind : (op : BinOp) (flags : Flags) (k : Option Kind) (a b : Value) → GivesInKind k (binary_at op flags k a b)
binary_in_kind op flags None a b = tt
binary_in_kind op flags (Some (Int width)) a b = law.binary_in_kind op flags width a b
binary_in_kind op flags (Some Ptr) a b = tt

pub icmp_in_kind : (memory : Memory) (pred : Pred) (k : Option Kind) (a b : Value) → GivesInKind (Some (Int 1)) (icmp_at memory pred k a b)
icmp_in_kind memory pred None a b = tt
icmp_in_kind memory pred (Some k) a b = law.icmp_in_kind pred k a b (size_at memory a) (size_at memory b)

pub poison_of : (k : Option Kind) → GivesInKind k (Gives value.Poison)
poison_of None = tt
poison_of (Some k) = poison_in_kind k

cast_at_in_kind : (op : CastOp) (from to : Option Kind) (v : Value) → IsInKindOf from v → GivesInKind to (cast_at op from to v)
cast_at_in_kind op None to v p = poison_of to
cast_at_in_kind op (Some from) None v p = tt
cast_at_in_kind op (Some from) (Some to) v p = law.cast_in_kind op from to v p

-- where the types are such, else poison
if_typed : (k : Option Kind) (typed : Bool) (o : Outcome) → (typed ≡ true → GivesInKind k o) → GivesInKind k (cond typed o (Gives value.Poison))
if_typed k true o h = h refl
if_typed k false o h = poison_of k

pub cast_in_kind : (op : CastOp) (from to : Option Kind) (typed : Bool) (v : Value) → IsInKindOf from v → GivesInKind to (cond typed (cast_at op from to v) (Gives value.Poison))
cast_in_kind op from to typed v p = if_typed to typed (cast_at op from to v) (λ h. cast_at_in_kind op from to v p)

select_of : (k : Option Kind) (c a b : Value) → IsInKindOf k a → IsInKindOf k b → GivesInKind k (select_outcome c a b)
select_of None c a b p q = tt
select_of (Some k) c a b p q = law.select_in_kind k c a b p q

-- what is chosen between arms of one type
pub selected_in_kind : (condition left right : Ty) (c a b : Value) (o : Outcome) → selects condition left right ≡ true → o ≡ select_outcome c a b
    → IsInKindOf (kind_of left) a → IsInKindOf (kind_of right) b → GivesInKind (kind_of left) o
selected_in_kind condition left right c a b o h e p q =
    let same : left ≡ right = same_ty_true left right (right_true (same_ty condition (ty.Int 1)) (same_ty left right) h) in
    subst (λ (x : Outcome). GivesInKind (kind_of left) x) (sym e) (select_of (kind_of left) c a b p (subst (λ (t : Ty). IsInKindOf (kind_of t) b) (sym same) q))

pub select_in_kind : (condition left right : Ty) (c a b : Value) → IsInKindOf (kind_of left) a → IsInKindOf (kind_of right) b
    → GivesInKind (kind_of left) (cond (selects condition left right) (select_outcome c a b) (Gives value.Poison))
select_in_kind condition left right c a b p q = if_typed (kind_of left) (selects condition left right) (select_outcome c a b)
    (λ h. selected_in_kind condition left right c a b (select_outcome c a b) h refl p q)

-- ---- addresses of parts

index_in_kind : {R : Type 0} (scope : Scope) (reading : Kind → R → Value) → ((k : Kind) (r : R) → IsInKind k (reading k r)) → (t : Ty) (a : Atom R) → is_integer t ≡ true
    → IsInKind (Int (width_of t)) (atom_value scope reading t a)
index_in_kind {R = R} scope reading h (ty.Int width) a integer = at (is_width width) refl
  where
    none : (b : Atom R) → kind_of (ty.Int width) ≡ None → atom_value scope reading (ty.Int width) b ≡ value.Poison
    none (atom.Constant c) e = ap (λ (k : Option Kind). constant_at scope (ty.Int width) k c) e
    none (atom.Register r) e = ap (λ (k : Option Kind). register_value reading k r) e

    at : (b : Bool) → is_width width ≡ b → IsInKind (Int width) (atom_value scope reading (ty.Int width) a)
    at true e =
        let kinds : kind_of (ty.Int width) ≡ Some (Int width) = rw e refl in
        subst (λ (k : Option Kind). IsInKindOf k (atom_value scope reading (ty.Int width) a)) kinds (atom_value_in_kind scope reading h (ty.Int width) a)
    at false e =
        let kinds : kind_of (ty.Int width) ≡ None = rw e refl in
        subst (IsInKind (Int width)) (sym (none a kinds)) tt
index_in_kind scope reading h t a integer = cc

integers_in_kind : {R : Type 0} (scope : Scope) (reading : Kind → R → Value) → ((k : Kind) (r : R) → IsInKind k (reading k r)) → (os : List (Operand R))
    → are_integers (map index_of os) ≡ true → AllByRecursion IsIndex (map (index_value scope reading) os)
integers_in_kind scope reading h [] all = tt
integers_in_kind scope reading h (o ∷ os) all = (
  index_in_kind scope reading h o.ty o.atom (left_true (is_integer o.ty) (are_integers (map index_of os)) all),
  integers_in_kind scope reading h os (right_true (is_integer o.ty) (are_integers (map index_of os)) all),
)

pub indices_in_kind : (scope : Scope) (registers : Registers) → AreInKind registers → (e : Element Name) → is_stated scope.types e ≡ true
    → AllByRecursion IsIndex (map (index_value scope (read registers)) e.indices)
indices_in_kind scope registers h e stated = integers_in_kind scope (read registers) (λ k x. h x k) e.indices (indices_are_integers scope.types e stated)

-- the base of an address that a line may state is an address
pub base_in_kind : (types : List NamedTy) (e : Element Name) (v : Value) → is_stated types e ≡ true → IsInKindOf (kind_of e.base.ty) v → IsInKind Ptr v
base_in_kind types e v stated is = subst (λ (k : Option Kind). IsInKindOf k v) (base_kind types e stated) is

-- and so is what it gives
pub address_in_kind : {R : Type 0} (types : List NamedTy) (e : Element R) (base : Value) (size : ℕ) (is : List GivenIndex) → is_stated types e ≡ true
    → GivesInKind (kind_of e.to) (gep_outcome e.inbounds types e.of base size is)
address_in_kind types e base size is stated =
    subst (λ (k : Option Kind). GivesInKind k (gep_outcome e.inbounds types e.of base size is)) (sym (element_kind types e stated)) (gep_in_kind e.inbounds types e.of base size is)

element_in_kind : {R : Type 0} (scope : Scope) (reading : Kind → R → Value) (memory : Memory) (e : Element R) → GivesInKind (kind_of e.to) (outcome scope reading memory (expr.Element e))
element_in_kind scope reading memory e =
    let base = operand_value scope reading e.base in
    if_typed (kind_of e.to) (is_stated scope.types e) (element_from scope reading memory e base)
    (address_in_kind scope.types e base (size_at memory base) (map (index_value scope reading) e.indices))

loads_in_kind : (k : Kind) (o : Outcome) → ((v : Value) → o ≡ Gives v → IsInKind k v) → GivesInKind (Some k) o
loads_in_kind k (Gives v) h = h v refl
loads_in_kind k Trap h = tt

pub load_in_kind : (memory : Memory) → IsOfBytes memory → (k : Option Kind) (a : Value) (align : ℕ) → GivesInKind k (loaded_of memory k a align)
load_in_kind memory bytes None a align = tt
load_in_kind memory bytes (Some k) a align = loads_in_kind k (loaded memory k a align) (λ v e. loaded_in_kind memory k a align v bytes e)

pub outcome_in_kind : {R : Type 0} (scope : Scope) (reading : Kind → R → Value) → ((k : Kind) (r : R) → IsInKind k (reading k r)) → (memory : Memory) → IsOfBytes memory → (e : Expr R)
    → GivesInKind (kind_of (type_of e)) (outcome scope reading memory e)
outcome_in_kind scope reading h memory bytes (expr.Plain o) = operand_in_kind scope reading h o
outcome_in_kind scope reading h memory bytes (expr.Binary b) = binary_in_kind b.op b.flags (kind_of b.ty) (atom_value scope reading b.ty b.left) (atom_value scope reading b.ty b.right)
outcome_in_kind scope reading h memory bytes (expr.Icmp c) = icmp_in_kind memory c.pred (kind_of c.ty) (atom_value scope reading c.ty c.left) (atom_value scope reading c.ty c.right)
outcome_in_kind scope reading h memory bytes (expr.Cast c) = cast_in_kind c.op (kind_of c.operand.ty) (kind_of c.to) (converts c.op c.operand.ty c.to) (operand_value scope reading c.operand)
    (operand_in_kind scope reading h c.operand)
outcome_in_kind scope reading h memory bytes (expr.Select s) =
    select_in_kind s.condition.ty s.left.ty s.right.ty (operand_value scope reading s.condition) (operand_value scope reading s.left) (operand_value scope reading s.right)
    (operand_in_kind scope reading h s.left) (operand_in_kind scope reading h s.right)
outcome_in_kind scope reading h memory bytes (expr.Element e) = element_in_kind scope reading memory e
outcome_in_kind scope reading h memory bytes (expr.Load l) =
    load_in_kind memory bytes (kind_of l.of) (operand_value scope reading l.pointer) (align_or scope.types l.of l.align)

-- ---- phis

of_entry : (scope : Scope) (old : Registers) (t : Ty) → AreInKind old → (o : Option Entry) → IsInKindOf (kind_of t) (entry_value scope old t o)
of_entry scope old t h (Some e) = atom_value_in_kind scope (read old) (λ j x. h x j) t e.value
of_entry scope old t h None = poison_of (kind_of t)

pub phi_in_kind : (scope : Scope) (old : Registers) (from : Name) (p : Phi) → AreInKind old → IsInKindOf (kind_of p.ty) (phi_value scope old from p)
phi_in_kind scope old from p h = of_entry scope old p.ty h (entry_from from p.entries)

pub phis_in_kind : (scope : Scope) (old : Registers) (from : Name) (ps : List Phi) (registers : Registers) → AreInKind old → AreInKind registers
    → AreInKind (with_phis scope old from ps registers)
phis_in_kind scope old from [] registers o h = h
phis_in_kind scope old from (p ∷ ps) registers o h =
    phis_in_kind scope old from ps (set registers p.name (kind_of p.ty) (phi_value scope old from p)) o
    (set_in_kind registers p.name (kind_of p.ty) (phi_value scope old from p) h (phi_in_kind scope old from p o))

-- ---- the start

pub no_registers_in_kind : AreInKind no_registers
no_registers_in_kind x k = poison_in_kind k

pub offset_in_range : (z : ℤ) → is_offset z ≡ true → IsOffset z
offset_in_range (pos n) h = record { sfits = ltb-true n (2 ^ 63) (right_true (int_le (negsuc (2 ^ 63 - 1)) (pos n)) (int_lt (pos n) (pos (2 ^ 63))) h) }
offset_in_range (negsuc n) h =
    let low : n ≤ 2 ^ 63 - 1 = leb-true n (2 ^ 63 - 1) (left_true (int_le (negsuc (2 ^ 63 - 1)) (negsuc n)) (int_lt (negsuc n) (pos (2 ^ 63))) h) in
    record { sfits = omega arith }

pub bound_in_kind : (bound : Option (Option ℕ)) (offset : ℤ) → IsOffset offset → IsInKind Ptr (named_value bound offset)
bound_in_kind None offset range = tt
bound_in_kind (Some None) offset range = tt
bound_in_kind (Some (Some b)) offset range = range

resolved_in_kind : (k : Kind) (world : World) (s : Shown) → is_ranged s ≡ true → is_some (picked k world.names s) ≡ true → IsInKind k (resolve world s)
resolved_in_kind (Int width) world (shown.Num n) range is = fitting (nat_lt n (2 ^ width)) refl is
  where
    fitting : (t : Bool) → nat_lt n (2 ^ width) ≡ t → is_some (shown_if t (shown.Num n) world.names) ≡ true → n < 2 ^ width
    fitting true e is = ltb-true n (2 ^ width) e
    fitting false e is = cc
resolved_in_kind (Int width) world (shown.Name x offset) range is = cc
resolved_in_kind (Int width) world (shown.Bare address) range is = cc
resolved_in_kind Ptr world (shown.Num n) range is = cc
resolved_in_kind Ptr world (shown.Name x offset) range is = bound_in_kind (slice_get world.names x) offset (offset_in_range offset range)
resolved_in_kind Ptr world (shown.Bare address) range is = ltb-true address (2 ^ 64) range

-- a value that the outside gives is of the kind
pub given_in_kind : (k : Kind) (world : World) (s : Shown) → is_value_of k world s ≡ true → IsInKind k (resolve world s)
given_in_kind k world s h = resolved_in_kind k world s (left_true (is_ranged s) (is_some (picked k world.names s)) h) (right_true (is_ranged s) (is_some (picked k world.names s)) h)

pub file_atom_in_kind : (scope : Scope) (registers : Registers) (t : Ty) (a : Atom Name) → AreInKind registers → IsInKindOf (kind_of t) (atom_value scope (read registers) t a)
file_atom_in_kind scope registers t a h = atom_value_in_kind scope (read registers) (λ j x. h x j) t a
