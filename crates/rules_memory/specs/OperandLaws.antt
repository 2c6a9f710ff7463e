-- What operands are worth on a side, and the blocks that they point into.
use Rattle.std.proofs.Common.{◌≡◌, ◌∙◌, ℕ, Bool, true, false, ◌||◌, cond, Option, None, Some, refl, sym, ap, subst}
use Rattle.std.specs.Prelude.{not}
use Rattle.ir_types.specs.declared.names.Name.{Name}
use Rattle.ir_types.specs.NameLaws.{same_name_true, same_name_refl, same_nat_refl}
use Rattle.ir_types.specs.Same.{same_name}
use Rattle.ir_core.specs.declared.operands.Atom.{Atom}
use Rattle.ir_core.specs.declared.operands.Atom.TheVariants as atom
use Rattle.ir_core.specs.declared.operands.Operand.{Operand}
use Rattle.ir_core.specs.declared.expressions.Reg.{Reg}
use Rattle.ir_core.specs.declared.expressions.Reg.TheVariants.{Now, Old, Ghost}
use Rattle.ir_core.specs.declared.values.Kind.{Kind}
use Rattle.ir_core.specs.declared.values.Kind.TheVariants as kind
use Rattle.ir_core.specs.declared.values.Value.{Value}
use Rattle.ir_core.specs.declared.values.Value.TheVariants.{Num, Ptr, Bare, Undef, Poison}
use Rattle.ir_core.specs.Types.{is_pointer, kind_of}
use Rattle.ir_values.specs.declared.operations.Outcome.{Outcome}
use Rattle.ir_values.specs.declared.operations.Outcome.TheVariants.{Gives, Trap}
use Rattle.ir_values.specs.Operations.{IsOutcomeLessDefined}
use Rattle.ir_values.specs.Values.{IsInKind, IsInKindOf, same_kind}
use Rattle.ir_values.proofs.ConstantValues.{pointer_kind}
use Rattle.ir_machine.specs.Keeps.{IsAmong, IsHeldAmong}
use Rattle.ir_machine.specs.Registers.{AreInKind, Held, atom_value, held_at, operand_value, register_value}
use Rattle.ir_machine.proofs.InKind.{operand_in_kind}
use Rattle.erhl_assert.specs.Holding.{IfBlock, IsNot, block_given, block_held, block_of}
use Rattle.erhl_assert.specs.Sides.{SideState, IsFine, read_reg}
use Rattle.rules_memory.specs.Rows.{are_two, is_name, is_there, now_in}

abbrev pub value_on : SideState → Operand Reg → Value
value_on side o = operand_value side.scope (read_reg side) o

pub either : (p q : Bool) (P : Type 0) → (p ≡ true → P) → (q ≡ true → P) → (p || q) ≡ true → P
either true q P f g h = f refl
either false q P f g h = g h

-- ---- kinds

reading_in_kind : (side : SideState) → IsFine side → (k : Kind) (r : Reg) → IsInKind k (read_reg side k r)
reading_in_kind side fine k (Now x) = fine.now x k
reading_in_kind side fine k (Old x) = fine.old x k
reading_in_kind side fine k (Ghost x) = fine.ghost x k

pub value_in_kind : (side : SideState) → IsFine side → (o : Operand Reg) → IsInKindOf (kind_of o.ty) (value_on side o)
value_in_kind side fine o = operand_in_kind side.scope (read_reg side) (reading_in_kind side fine) o

pub pointer_in_kind : (side : SideState) → IsFine side → (o : Operand Reg) → is_pointer o.ty ≡ true → IsInKind kind.Ptr (value_on side o)
pointer_in_kind side fine o h = subst (λ (k : Option Kind). IsInKindOf k (value_on side o)) (pointer_kind o.ty h) (value_in_kind side fine o)

-- ---- blocks

-- what is said of a block is true of the one that there is
pub at_block : (o : Option ℕ) (P : ℕ → Type 0) → IfBlock o P → (b : ℕ) → o ≡ Some b → P b
at_block None P h b e = absurd (cc)
at_block (Some c) P h b e = let is : c ≡ b = cc in subst P is h

pub for_block : (o : Option ℕ) (P : ℕ → Type 0) → ((b : ℕ) → o ≡ Some b → P b) → IfBlock o P
for_block None P h = tt
for_block (Some b) P h = h b refl

-- what is more defined than a pointer points into the same block
pub block_below : (v : Value) (o : Outcome) (b : ℕ) → IsOutcomeLessDefined (Gives v) o → block_of v ≡ Some b → block_given o ≡ Some b
block_below (Ptr c p) (Gives w) b h e = ap block_of h ∙ e
block_below (Ptr c p) Trap b h e = absurd h
block_below (Num n) o b h e = cc
block_below (Bare a) o b h e = cc
block_below Undef o b h e = cc
block_below Poison o b h e = cc

-- a register that is read at a kind points into a block only where it holds a pointer into that
held_block : (k : Kind) (o : Option Held) (b : ℕ) → block_of (held_at k o) ≡ Some b → block_held o ≡ Some b
held_block k None b e = e
held_block k (Some held) b e = at (same_kind held.kind k) e
  where
    at : (t : Bool) → block_of (cond t held.value Poison) ≡ Some b → block_of held.value ≡ Some b
    at true e = e
    at false e = cc

-- and where it holds one, it is read as that at pointers
held_pointer : (o : Option Held) → ((k : Kind) → IsInKind k (held_at k o)) → (b : ℕ) → block_held o ≡ Some b → block_of (held_at kind.Ptr o) ≡ Some b
held_pointer None h b e = e
held_pointer (Some held) h b e = at held.kind held.value (h held.kind) e
  where
    at : (k : Kind) (v : Value) → IsInKind k (cond (same_kind k k) v Poison) → block_of v ≡ Some b → block_of (cond (same_kind k kind.Ptr) v Poison) ≡ Some b
    at kind.Ptr v f e = e
    at (kind.Int w) (Ptr c o) f e = absurd (subst (λ (t : Bool). IsInKind (kind.Int w) (cond t (Ptr c o) Poison)) (same_nat_refl w) f)
    at (kind.Int w) (Num n) f e = e
    at (kind.Int w) (Bare a) f e = e
    at (kind.Int w) Undef f e = e
    at (kind.Int w) Poison f e = e

value_other : (c : ℕ) (v : Value) → IsAmong (IsNot c) v → block_of v ≡ Some c → ⊥
value_other c (Ptr b o) h e = let is : b ≡ c = cc in h is
value_other c (Num n) h e = cc
value_other c (Bare a) h e = cc
value_other c Undef h e = cc
value_other c Poison h e = cc

pub held_other : (c : ℕ) (o : Option Held) → IsHeldAmong (IsNot c) o → block_held o ≡ Some c → ⊥
held_other c None h e = cc
held_other c (Some held) h e = value_other c held.value h e

-- ---- registers of now

module _ (side : SideState) (x : Name) (o : Operand Reg) (b : ℕ) where
  -- an operand that is a register of now points into a block only where that holds a pointer into it
  pub now_block : is_name x (now_in o.atom) ≡ true → block_of (value_on side o) ≡ Some b → block_held (side.files.now x) ≡ Some b
  now_block h e = at o.atom h e
    where
      of_kind : (k : Option Kind) (y : Name) → block_of (register_value (read_reg side) k (Now y)) ≡ Some b → block_held (side.files.now y) ≡ Some b
      of_kind None y e = cc
      of_kind (Some k) y e = held_block k (side.files.now y) b e

      at : (a : Atom Reg) → is_name x (now_in a) ≡ true → block_of (atom_value side.scope (read_reg side) o.ty a) ≡ Some b → block_held (side.files.now x) ≡ Some b
      at (atom.Register (Now y)) h e = subst (λ (z : Name). block_held (side.files.now z) ≡ Some b) (sym (same_name_true x y h)) (of_kind (kind_of o.ty) y e)
      at (atom.Register (Old y)) h e = absurd (cc)
      at (atom.Register (Ghost y)) h e = absurd (cc)
      at (atom.Constant c) h e = absurd (cc)

  -- and at a pointer type it does where that holds one
  pub now_pointer : AreInKind side.files.now → is_pointer o.ty ≡ true → is_name x (now_in o.atom) ≡ true → block_held (side.files.now x) ≡ Some b
      → block_of (value_on side o) ≡ Some b
  now_pointer fine p h e = at o.atom h
    where
      at : (a : Atom Reg) → is_name x (now_in a) ≡ true → block_of (atom_value side.scope (read_reg side) o.ty a) ≡ Some b
      at (atom.Register (Now y)) h =
          let held : block_held (side.files.now y) ≡ Some b = subst (λ (z : Name). block_held (side.files.now z) ≡ Some b) (same_name_true x y h) e in
          ap (λ (k : Option Kind). block_of (register_value (read_reg side) k (Now y))) (pointer_kind o.ty p)
          ∙ held_pointer (side.files.now y) (λ k. fine y k) b held
      at (atom.Register (Old y)) h = absurd (cc)
      at (atom.Register (Ghost y)) h = absurd (cc)
      at (atom.Constant c) h = absurd (cc)

-- ---- names

not_true : (b : Bool) → not b ≡ true → b ≡ false
not_true true h = cc
not_true false h = refl

-- a name that there is
pub record IsThere (o : Option Name) : Type 0 where
  pub name : Name
  pub is : o ≡ Some name

pub there : (o : Option Name) → is_there o ≡ true → IsThere o
there None h = absurd (cc)
there (Some x) h = record { name = x; is = refl }

-- two names that there are
pub record AreTwo (o p : Option Name) : Type 0 where
  pub first : Name
  pub second : Name
  pub first_is : o ≡ Some first
  pub second_is : p ≡ Some second
  pub apart : same_name first second ≡ false

pub two : (o p : Option Name) → are_two o p ≡ true → AreTwo o p
two None p h = absurd (cc)
two (Some x) None h = absurd (cc)
two (Some x) (Some y) h = record { first = x; second = y; first_is = refl; second_is = refl; apart = not_true (same_name x y) h }

-- a name other than this one
pub record IsOther (x : Name) (o : Option Name) : Type 0 where
  pub name : Name
  pub named : is_name name o ≡ true
  pub apart : same_name name x ≡ false

pub other : (x : Name) (o : Option Name) → are_two (Some x) o ≡ true → IsOther x o
other x None h = absurd (cc)
other x (Some y) h = record { name = y; named = same_name_refl y; apart = turned (same_name y x) refl }
  where
    turned : (t : Bool) → same_name y x ≡ t → t ≡ false
    turned false e = refl
    turned true e =
        let same : y ≡ x = same_name_true y x e in
        let itself : same_name x y ≡ true = subst (λ (z : Name). same_name x z ≡ true) (sym same) (same_name_refl x) in
        cc (itself, not_true (same_name x y) h)
