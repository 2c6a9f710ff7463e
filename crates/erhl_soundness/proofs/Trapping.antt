-- Which expressions never trap: what can't trap doesn't, whatever its registers read.
use Rattle.std.proofs.Common.{◌≡◌, ℕ, ◌-◌, ◌^◌, Bool, true, false, ◌&&◌, not, cond, nat_eq, Option, None, Some, refl, sym, ap, ◌∙◌}
use Rattle.std.proofs.lemmas.Bool.{not-true, or_from}
use Rattle.ir_core.specs.declared.values.Value.{Value}
use Rattle.ir_core.specs.declared.values.Value.TheVariants.{Num, Poison}
use Rattle.ir_core.specs.declared.values.Kind.{Kind}
use Rattle.ir_core.specs.declared.values.Kind.TheVariants as kind
use Rattle.ir_types.specs.declared.ty.Ty.{Ty}
use Rattle.ir_types.specs.declared.ty.Ty.TheVariants as ty
use Rattle.ir_core.specs.declared.operands.Const.TheVariants as constant
use Rattle.ir_core.specs.declared.operands.Atom.{Atom}
use Rattle.ir_core.specs.declared.operands.Atom.TheVariants as atom
use Rattle.ir_core.specs.declared.operands.BinOp.{BinOp}
use Rattle.ir_core.specs.declared.operands.BinOp.TheVariants.{SDiv, SRem}
use Rattle.ir_core.specs.declared.operands.CastOp.{CastOp}
use Rattle.ir_core.specs.declared.operands.Pred.{Pred}
use Rattle.ir_core.specs.declared.operands.Flags.{Flags}
use Rattle.ir_core.specs.declared.expressions.Expr.{Expr}
use Rattle.ir_core.specs.declared.expressions.Expr.TheVariants.{Plain, Binary, Icmp, Cast, Select, Element, Load}
use Rattle.ir_values.specs.Selections.{select_outcome}
use Rattle.ir_core.specs.Types.{converts, fits, is_width, kind_of}
use Rattle.ir_types.specs.NameLaws.{left_true, right_true}
use Rattle.ir_values.specs.declared.operations.Outcome.{Outcome}
use Rattle.ir_values.specs.declared.operations.Outcome.TheVariants.{Gives, Trap}
use Rattle.ir_values.specs.Results.{is_division, is_signed_division}
use Rattle.ir_values.specs.Constants.{Scope, constant_value}
use Rattle.ir_values.specs.Operations.{may_be, traps, binary_value}
use Rattle.ir_values.proofs.ConstantWalks.{of_number, worth_number}
use Rattle.block_memory.specs.Memory.{Memory}
use Rattle.ir_machine.specs.Registers.{constant_at, atom_value, operand_value, binary_at, icmp_at, cast_at, selects, is_stated, element_from, outcome}
use Rattle.erhl_assert.specs.Allowed.{divides_all, can_trap}

-- ---- operators that give a value

icmp_no_trap : (memory : Memory) (pred : Pred) (k : Option Kind) (a b : Value) → icmp_at memory pred k a b ≡ Trap → ⊥
icmp_no_trap memory pred None a b h = cc
icmp_no_trap memory pred (Some (kind.Int width)) a b h = cc
icmp_no_trap memory pred (Some kind.Ptr) a b h = cc

if_typed : (typed : Bool) (o : Outcome) → (o ≡ Trap → ⊥) → cond typed o (Gives Poison) ≡ Trap → ⊥
if_typed true o none h = none h
if_typed false o none h = cc

cast_no_trap : (op : CastOp) (j k : Option Kind) (a : Value) → cast_at op j k a ≡ Trap → ⊥
cast_no_trap op None k a h = cc
cast_no_trap op (Some j) None a h = cc
cast_no_trap op (Some (kind.Int v)) (Some (kind.Int w)) a h = cc
cast_no_trap op (Some (kind.Int v)) (Some kind.Ptr) a h = cc
cast_no_trap op (Some kind.Ptr) (Some (kind.Int w)) a h = cc
cast_no_trap op (Some kind.Ptr) (Some kind.Ptr) a h = cc

select_no_trap : (c a b : Value) → select_outcome c a b ≡ Trap → ⊥
select_no_trap c a b h = cc

-- ---- divisions

signed_divides : (op : BinOp) → is_division op ≡ false → is_signed_division op ≡ false
signed_divides SDiv h = h
signed_divides SRem h = h
signed_divides op h = refl

with_false : (a b : Bool) → b ≡ false → (a && b) ≡ false
with_false true b h = h
with_false false b h = refl

false_with : (a b : Bool) → a ≡ false → (a && b) ≡ false
false_with a b h = rw h refl

-- what divides nothing doesn't trap
no_division : (op : BinOp) (width : ℕ) (a b : Value) → is_division op ≡ false → traps op width a b ≡ false
no_division op width a b h =
    let signed = signed_divides op h in
    or_from (is_division op && may_be 0 b) (is_signed_division op && may_be (2 ^ width - 1) b && may_be (2 ^ (width - 1)) a)
    (false_with (is_division op) (may_be 0 b) h)
    (false_with (is_signed_division op && may_be (2 ^ width - 1) b) (may_be (2 ^ (width - 1)) a)
    (false_with (is_signed_division op) (may_be (2 ^ width - 1) b) signed))

-- and by a number that divides whatever is divided nothing traps
safe_division : (op : BinOp) (width n : ℕ) (a : Value) → (fits n width && not (nat_eq n 0) && not (is_signed_division op && nat_eq n (2 ^ width - 1))) ≡ true
    → traps op width a (Num n) ≡ false
safe_division op width n a h =
    let few = fits n width && not (nat_eq n 0) in
    let minus = is_signed_division op && nat_eq n (2 ^ width - 1) in
    let not_zero = not-true (nat_eq n 0) (right_true (fits n width) (not (nat_eq n 0)) (left_true few (not minus) h)) in
    let not_minus = not-true minus (right_true few (not minus) h) in
    or_from (is_division op && nat_eq n 0) (minus && may_be (2 ^ (width - 1)) a)
    (with_false (is_division op) (nat_eq n 0) not_zero) (false_with minus (may_be (2 ^ (width - 1)) a) not_minus)

gives_value : (b : Bool) (v : Value) → b ≡ false → cond b Trap (Gives v) ≡ Trap → ⊥
gives_value true v h e = cc
gives_value false v h e = cc

module _ {R : Type 0} (scope : Scope) (reading : Kind → R → Value) where
  number_no_trap : (op : BinOp) (flags : Flags) (width n : ℕ) (k : Bool) (a : Value)
      → (fits n width && not (nat_eq n 0) && not (is_signed_division op && nat_eq n (2 ^ width - 1))) ≡ true
      → let o = cond k (Some (kind.Int width)) None in binary_at op flags o a (constant_at scope (ty.Int width) o (constant.Number n)) ≡ Trap → ⊥
  number_no_trap op flags width n false a h e = cc
  number_no_trap op flags width n true a h e =
      let few = fits n width && not (nat_eq n 0) in
      let fit = left_true (fits n width) (not (nat_eq n 0)) (left_true few (not (is_signed_division op && nat_eq n (2 ^ width - 1))) h) in
      let at : constant_value scope (ty.Int width) (constant.Number n) ≡ Num n = rw (of_number scope (ty.Int width) n, worth_number scope (ty.Int width) n, fit) refl in
      gives_value (traps op width a (Num n)) (binary_value op flags width a (Num n)) (safe_division op width n a h)
      (ap (binary_at op flags (Some (kind.Int width)) a) (sym at) ∙ e)

  divisor_no_trap : (op : BinOp) (flags : Flags) (t : Ty) (a : Value) (b : Atom R) → divides_all op t b ≡ true
      → binary_at op flags (kind_of t) a (atom_value scope reading t b) ≡ Trap → ⊥
  divisor_no_trap op flags (ty.Int width) a (atom.Constant (constant.Number n)) h e = number_no_trap op flags width n (is_width width) a h e
  divisor_no_trap op flags (ty.Int width) a (atom.Constant c) h e = cc
  divisor_no_trap op flags (ty.Int width) a (atom.Register r) h e = cc
  divisor_no_trap op flags t a (atom.Constant c) h e = cc
  divisor_no_trap op flags t a (atom.Register r) h e = cc

  other_no_trap : (op : BinOp) (flags : Flags) (k : Option Kind) (a b : Value) → is_division op ≡ false → binary_at op flags k a b ≡ Trap → ⊥
  other_no_trap op flags None a b h e = cc
  other_no_trap op flags (Some (kind.Int width)) a b h e = gives_value (traps op width a b) (binary_value op flags width a b) (no_division op width a b h) e
  other_no_trap op flags (Some kind.Ptr) a b h e = cc

  binary_no_trap : (op : BinOp) (flags : Flags) (t : Ty) (a : Value) (b : Atom R) (division safe : Bool) → division ≡ is_division op → safe ≡ divides_all op t b
      → (division && not safe) ≡ false → binary_at op flags (kind_of t) a (atom_value scope reading t b) ≡ Trap → ⊥
  binary_no_trap op flags t a b true true p q h e = divisor_no_trap op flags t a b (sym q) e
  binary_no_trap op flags t a b true false p q h e = cc
  binary_no_trap op flags t a b false safe p q h e = other_no_trap op flags (kind_of t) a (atom_value scope reading t b) (sym p) e

  -- WHAT CAN'T TRAP doesn't
  pub no_trap : (memory : Memory) (e : Expr R) → can_trap e ≡ false → outcome scope reading memory e ≡ Trap → ⊥
  no_trap memory (Plain o) h e = cc
  no_trap memory (Binary b) h e =
      binary_no_trap b.op b.flags b.ty (atom_value scope reading b.ty b.left) b.right (is_division b.op) (divides_all b.op b.ty b.right) refl refl h e
  no_trap memory (Icmp c) h e = icmp_no_trap memory c.pred (kind_of c.ty) (atom_value scope reading c.ty c.left) (atom_value scope reading c.ty c.right) e
  no_trap memory (Cast c) h e =
      if_typed (converts c.op c.operand.ty c.to) (cast_at c.op (kind_of c.operand.ty) (kind_of c.to) (operand_value scope reading c.operand))
      (cast_no_trap c.op (kind_of c.operand.ty) (kind_of c.to) (operand_value scope reading c.operand)) e
  no_trap memory (Select s) h e =
      let c = operand_value scope reading s.condition in
      let a = operand_value scope reading s.left in
      let b = operand_value scope reading s.right in
      if_typed (selects s.condition.ty s.left.ty s.right.ty) (select_outcome c a b) (select_no_trap c a b) e
  no_trap memory (Element x) h e =
      if_typed (is_stated scope.types x) (element_from scope reading memory x (operand_value scope reading x.base)) (λ traps. cc) e
  no_trap memory (Load l) h e = cc
