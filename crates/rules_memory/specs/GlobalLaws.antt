-- The blocks of globals, which are at their places.
use Rattle.std.proofs.Common.{◌≡◌, ◌∙◌, ◌+◌, ◌<◌, ℕ, suc, pos, Bool, true, false, cond, List, [], ◌∷◌, length, slice_get, Option, None, Some, refl, sym, ap, subst, arith}
use Rattle.std.specs.Option.{option_map}
use Rattle.ir_types.specs.declared.names.Name.{Name}
use Rattle.ir_types.specs.declared.ty.Ty.{Ty, Ptr as PtrTo}
use Rattle.ir_types.specs.NameLaws.{same_name_true, same_name_refl}
use Rattle.ir_types.specs.Same.{same_name}
use Rattle.ir_core.specs.declared.modules.GlobalVar.{GlobalVar}
use Rattle.ir_core.specs.declared.operands.Const.TheVariants as constant
use Rattle.ir_core.specs.declared.operands.Atom.{Atom}
use Rattle.ir_core.specs.declared.operands.Atom.TheVariants as atom
use Rattle.ir_core.specs.declared.operands.Operand.{Operand}
use Rattle.ir_core.specs.declared.expressions.Reg.{Reg}
use Rattle.ir_core.specs.declared.values.Kind.{Kind}
use Rattle.ir_core.specs.declared.values.Value.TheVariants.{Ptr, Poison}
use Rattle.ir_core.specs.Types.{kind_of}
use Rattle.ir_core.specs.Typing.{contents_of, is_due}
use Rattle.ir_values.specs.Constants.{Scope, global_at, is_of_type, worth}
use Rattle.ir_values.proofs.ConstantValues.{due_pointer, pointer_kind}
use Rattle.ir_values.proofs.ConstantWalks.{of_global, worth_global}
use Rattle.ir_machine.specs.Registers.{atom_value, constant_at}
use Rattle.erhl_assert.specs.Holding.{block_of}
use Rattle.erhl_assert.specs.Sides.{SideState, read_reg}
use Rattle.rules_memory.specs.Rows.{global_in, global_named}
use Rattle.rules_memory.specs.OperandLaws.{value_on}

-- ---- places

-- a block is the one of a place among so many, which are counted from a number on
pub record IsPlace (from count b : ℕ) : Type 0 where
  pub place : ℕ
  pub is : b ≡ from + place
  pub below : place < count

pub global_place : (from : ℕ) (gs : List GlobalVar) (x : Name) (b : ℕ) → block_of (global_at from gs x) ≡ Some b → IsPlace from (length gs) b
global_place from [] x b e = absurd (cc)
global_place from (g ∷ gs) x b e = at (same_name g.name x) (global_place (suc from) gs x b) e
  where
    at : (t : Bool) → (block_of (global_at (suc from) gs x) ≡ Some b → IsPlace (suc from) (length gs) b)
        → block_of (cond t (Ptr from (pos 0)) (global_at (suc from) gs x)) ≡ Some b → IsPlace from (length (g ∷ gs)) b
    at true rest e = let is : from ≡ b = cc in record { place = 0; is = omega arith; below = omega arith }
    at false rest e =
        let r = rest e in
        let is : b ≡ suc from + r.place = r.is in
        let below : r.place < length gs = r.below in
        record { place = suc r.place; is = omega arith; below = omega arith }

-- different names stand at different places
pub one_place : (from : ℕ) (gs : List GlobalVar) (x y : Name) (b : ℕ) → same_name x y ≡ false → block_of (global_at from gs x) ≡ Some b
    → block_of (global_at from gs y) ≡ Some b → ⊥
one_place from [] x y b d p q = cc
one_place from (g ∷ gs) x y b d p q = at (same_name g.name x) refl (same_name g.name y) refl (one_place (suc from) gs x y b d) p q
  where
    later : (z : Name) → from ≡ b → block_of (global_at (suc from) gs z) ≡ Some b → ⊥
    later z is e = let r = global_place (suc from) gs z b e in let beyond : b ≡ suc from + r.place = r.is in omega arith

    at : (s : Bool) → same_name g.name x ≡ s → (t : Bool) → same_name g.name y ≡ t
        → (block_of (global_at (suc from) gs x) ≡ Some b → block_of (global_at (suc from) gs y) ≡ Some b → ⊥)
        → block_of (cond s (Ptr from (pos 0)) (global_at (suc from) gs x)) ≡ Some b
        → block_of (cond t (Ptr from (pos 0)) (global_at (suc from) gs y)) ≡ Some b → ⊥
    at true e true f rest p q =
        let one : x ≡ y = sym (same_name_true g.name x e) ∙ same_name_true g.name y f in
        let itself : same_name x y ≡ true = subst (λ (z : Name). same_name x z ≡ true) one (same_name_refl x) in
        cc (itself, d)
    at true e false f rest p q = let is : from ≡ b = cc in later y is q
    at false e true f rest p q = let is : from ≡ b = cc in later x is p
    at false e false f rest p q = rest p q

-- the first global of a name, and its place
pub record IsNamed (from : ℕ) (gs : List GlobalVar) (x : Name) (g : GlobalVar) : Type 0 where
  pub place : ℕ
  pub got : slice_get gs place ≡ Some g
  pub leads : global_at from gs x ≡ Ptr (from + place) (pos 0)
  pub name : g.name ≡ x

pub named_at : (from : ℕ) (gs : List GlobalVar) (x : Name) (g : GlobalVar) → global_named gs x ≡ Some g → IsNamed from gs x g
named_at from [] x g e = absurd (cc)
named_at from (h ∷ gs) x g e = at (same_name h.name x) refl (named_at (suc from) gs x g) e
  where
    here : (t : Bool) → same_name h.name x ≡ t → global_at from (h ∷ gs) x ≡ cond t (Ptr from (pos 0)) (global_at (suc from) gs x)
    here t f = ap (λ (s : Bool). cond s (Ptr from (pos 0)) (global_at (suc from) gs x)) f

    at : (t : Bool) → same_name h.name x ≡ t → (global_named gs x ≡ Some g → IsNamed (suc from) gs x g) → cond t (Some h) (global_named gs x) ≡ Some g
        → IsNamed from (h ∷ gs) x g
    at true f rest e =
        let is : h ≡ g = cc in
        let start : from ≡ from + 0 = omega arith in
        record {
          place = 0;
          got = e;
          leads = here true f ∙ ap (λ (n : ℕ). Ptr n (pos 0)) start;
          name = sym (ap (λ (v : GlobalVar). v.name) is) ∙ same_name_true h.name x f;
        }
    at false f rest e =
        let r = rest e in
        let next : suc from + r.place ≡ from + suc r.place = omega arith in
        record {
          place = suc r.place;
          got = r.got;
          leads = here false f ∙ r.leads ∙ ap (λ (n : ℕ). Ptr n (pos 0)) next;
          name = r.name;
        }

-- ---- operands

-- a global's operand is worth its address, or poison
pub global_block : (side : SideState) (x : Name) (o : Operand Reg) (b : ℕ) → global_in o.atom ≡ Some x → block_of (value_on side o) ≡ Some b
    → block_of (global_at 0 side.scope.globals x) ≡ Some b
global_block side x o b h e = at o.atom h e
  where
    typed : (t : Bool) (y : Name) → block_of (cond t (worth side.scope (constant.Global y) o.ty) Poison) ≡ Some b → block_of (global_at 0 side.scope.globals y) ≡ Some b
    typed true y e = sym (ap block_of (worth_global side.scope o.ty y)) ∙ e
    typed false y e = absurd (cc)

    of_kind : (k : Option Kind) (y : Name) → block_of (constant_at side.scope o.ty k (constant.Global y)) ≡ Some b → block_of (global_at 0 side.scope.globals y) ≡ Some b
    of_kind None y e = absurd (cc)
    of_kind (Some k) y e = typed (is_of_type side.scope o.ty (constant.Global y)) y e

    at : (a : Atom Reg) → global_in a ≡ Some x → block_of (atom_value side.scope (read_reg side) o.ty a) ≡ Some b → block_of (global_at 0 side.scope.globals x) ≡ Some b
    at (atom.Constant (constant.Global y)) h e =
        let is : y ≡ x = cc in subst (λ (z : Name). block_of (global_at 0 side.scope.globals z) ≡ Some b) is (of_kind (kind_of o.ty) y e)
    at (atom.Constant c) h e = absurd (cc)
    at (atom.Register r) h e = absurd (cc)

-- where it is of its type, its address
pub global_worth : (scope : Scope) (t : Ty) (x : Name) → is_due (option_map PtrTo (contents_of scope.globals x)) t ≡ true
    → constant_at scope t (kind_of t) (constant.Global x) ≡ global_at 0 scope.globals x
global_worth scope t x h = rw (pointer_kind t (due_pointer (contents_of scope.globals x) t h), of_global scope t x, h, worth_global scope t x) refl
