-- Addresses within what a pointer points to, and the pointer at another type.
use Rattle.std.proofs.Common.{◌≡◌, ◌∙◌, ℕ, Bool, true, false, ◌&&◌, cond, List, [], ◌∷◌, map, Option, None, Some, refl, sym, ap, subst}
use Rattle.std.specs.List.{list_all}
use Rattle.std.proofs.lemmas.Bool.{false≢true}
use Rattle.ir_types.specs.declared.ty.Ty.{Ty, Ptr as PtrTo}
use Rattle.ir_types.specs.declared.ty.Ty.TheVariants as ty
use Rattle.ir_types.specs.NameLaws.{left_true, right_true, same_nat_true}
use Rattle.ir_types.specs.Same.{same_ty}
use Rattle.ir_types.proofs.SameLaws.{same_ty_true}
use Rattle.ir_core.specs.declared.operands.Const.TheVariants as constant
use Rattle.ir_core.specs.declared.operands.Atom.{Atom}
use Rattle.ir_core.specs.declared.operands.Atom.TheVariants as atom
use Rattle.ir_core.specs.declared.operands.CastOp.{CastOp}
use Rattle.ir_core.specs.declared.operands.CastOp.TheVariants as conversion
use Rattle.ir_core.specs.declared.operands.Operand.{Operand}
use Rattle.ir_core.specs.declared.expressions.Cast.{Cast as CastOf}
use Rattle.ir_core.specs.declared.expressions.Element.{Element as ElementOf}
use Rattle.ir_core.specs.declared.expressions.Expr.TheVariants.{Plain, Cast, Element}
use Rattle.ir_core.specs.declared.expressions.Reg.{Reg}
use Rattle.ir_core.specs.declared.values.Kind.{Kind}
use Rattle.ir_core.specs.declared.values.Kind.TheVariants as kind
use Rattle.ir_core.specs.declared.values.Value.{Value}
use Rattle.ir_core.specs.declared.values.Value.TheVariants.{Num, Ptr, Bare, Undef, Poison}
use Rattle.ir_core.specs.Expressions.{Expr0}
use Rattle.ir_core.specs.Sizes.{stepped}
use Rattle.ir_core.specs.Types.{converts, is_pointer, kind_of}
use Rattle.ir_core.specs.Typing.{element_type, index_of, is_due}
use Rattle.ir_core.proofs.SameLaws.{same_reg_operand_true}
use Rattle.ir_values.specs.declared.operations.Outcome.{Outcome}
use Rattle.ir_values.specs.declared.operations.Outcome.TheVariants.{Gives}
use Rattle.ir_values.specs.Addresses.{GivenIndex, gep_outcome, gep_value, is_small}
use Rattle.ir_values.specs.Constants.{width_of}
use Rattle.ir_values.specs.Conversions.{recast_value}
use Rattle.ir_values.specs.Operations.{IsOutcomeLessDefined}
use Rattle.ir_values.specs.Values.{IsInKind, IsInKindOf}
use Rattle.ir_values.proofs.ConstantValues.{is_pointer_to, no_pointer_int, pointer_kind}
use Rattle.ir_values.proofs.Moved.{zero_keeps}
use Rattle.ir_machine.specs.Keeps.{IsAmong}
use Rattle.ir_machine.specs.Registers.{atom_value, cast_at, index_value, is_stated, size_at}
use Rattle.ir_machine.proofs.Holding.{gep_among}
use Rattle.erhl_assert.specs.declared.facts.Fact.{Fact}
use Rattle.erhl_assert.specs.declared.facts.Fact.TheVariants.{LessDef}
use Rattle.erhl_assert.specs.Facts.{Holds}
use Rattle.erhl_assert.specs.Holding.{block_given, block_of}
use Rattle.erhl_assert.specs.Sides.{SideState, IsFine, read_reg, worth}
use Rattle.erhl_assert.specs.Typed.{atom_fits, has_values, is_known, operand_fits}
use Rattle.rule_base.specs.NumberLaws.{number_worth}
use Rattle.rule_base.specs.OneType.{one_type}
use Rattle.rule_base.specs.Rows.{have_one_type}
use Rattle.rules_memory.specs.Rows.{is_derived, is_gep_zero, is_one_zero, is_recast, is_zero, same}
use Rattle.rules_memory.specs.OperandLaws.{pointer_in_kind, value_on}

-- ---- what stays in its block

among_itself : (v : Value) → IsAmong (λ (c : ℕ). block_of v ≡ Some c) v
among_itself (Ptr b o) = refl
among_itself (Num n) = tt
among_itself (Bare a) = tt
among_itself Undef = tt
among_itself Poison = tt

in_among : (v w : Value) (b : ℕ) → IsAmong (λ (c : ℕ). block_of v ≡ Some c) w → block_of w ≡ Some b → block_of v ≡ Some b
in_among v (Ptr c o) b h e = h ∙ e
in_among v (Num n) b h e = absurd (cc)
in_among v (Bare a) b h e = absurd (cc)
in_among v Undef b h e = absurd (cc)
in_among v Poison b h e = absurd (cc)

recast_block : (op : CastOp) (from to : Option Kind) (v : Value) (b : ℕ) → block_given (cast_at op from to v) ≡ Some b → block_of v ≡ Some b
recast_block op None to v b e = absurd (cc)
recast_block op (Some from) None v b e = absurd (cc)
recast_block op (Some (kind.Int m)) (Some (kind.Int n)) (Num k) b e = absurd (cc)
recast_block op (Some (kind.Int m)) (Some (kind.Int n)) (Ptr c o) b e = absurd (cc)
recast_block op (Some (kind.Int m)) (Some (kind.Int n)) (Bare a) b e = absurd (cc)
recast_block op (Some (kind.Int m)) (Some (kind.Int n)) Undef b e = absurd (cc)
recast_block op (Some (kind.Int m)) (Some (kind.Int n)) Poison b e = absurd (cc)
recast_block op (Some (kind.Int m)) (Some kind.Ptr) v b e = absurd (cc)
recast_block op (Some kind.Ptr) (Some (kind.Int n)) v b e = absurd (cc)
recast_block op (Some kind.Ptr) (Some kind.Ptr) (Num k) b e = e
recast_block op (Some kind.Ptr) (Some kind.Ptr) (Ptr c o) b e = e
recast_block op (Some kind.Ptr) (Some kind.Ptr) (Bare a) b e = e
recast_block op (Some kind.Ptr) (Some kind.Ptr) Undef b e = e
recast_block op (Some kind.Ptr) (Some kind.Ptr) Poison b e = e

module _ (side : SideState) where
  -- an operand that passes a test and points into the block
  pub record PointsInto (test : Operand Reg → Bool) (b : ℕ) : Type 0 where
    pub base : Operand Reg
    pub passes : test base ≡ true
    pub block : block_of (value_on side base) ≡ Some b

  element_block : (e : ElementOf Reg) (b : ℕ) → block_given (worth side (Element e)) ≡ Some b → block_of (value_on side e.base) ≡ Some b
  element_block e b g = at (is_stated side.scope.types e) g
    where
      base : Value
      base = value_on side e.base

      indices : List GivenIndex
      indices = map (index_value side.scope (read_reg side)) e.indices

      address : Value
      address = gep_value e.inbounds side.scope.types e.of base (size_at side.world.memory base) indices

      at : (t : Bool) → block_given (cond t (Gives address) (Gives Poison)) ≡ Some b → block_of base ≡ Some b
      at true g =
          in_among base address b
          (gep_among (λ (c : ℕ). block_of base ≡ Some c) e.inbounds side.scope.types e.of base (size_at side.world.memory base) indices (among_itself base)) g
      at false g = absurd (cc)

  cast_block : (c : CastOf Reg) (b : ℕ) → block_given (worth side (Cast c)) ≡ Some b → block_of (value_on side c.operand) ≡ Some b
  cast_block c b g = at (converts c.op c.operand.ty c.to) g
    where
      at : (t : Bool) → block_given (cond t (cast_at c.op (kind_of c.operand.ty) (kind_of c.to) (value_on side c.operand)) (Gives Poison)) ≡ Some b
          → block_of (value_on side c.operand) ≡ Some b
      at true g = recast_block c.op (kind_of c.operand.ty) (kind_of c.to) (value_on side c.operand) b g
      at false g = absurd (cc)

  -- what is derived points only into the block of its base
  pub derived_block : (e : Expr0) (test : Operand Reg → Bool) (b : ℕ) → is_derived e test ≡ true → block_given (worth side e) ≡ Some b → PointsInto test b
  derived_block (Element e) test b h g = record { base = e.base; passes = h; block = element_block e b g }
  derived_block (Cast c) test b h g = record { base = c.operand; passes = right_true (is_recast c.op) (test c.operand) h; block = cast_block c b g }
  derived_block e test b h g = absurd (cc)

-- ---- the pointer at another type

-- a type of values that an address lies in is a pointer type
pointer_type : (t : Ty) (b : ℕ) (v : Value) → has_values t ≡ true → IsInKindOf (kind_of t) v → block_of v ≡ Some b → is_pointer t ≡ true
pointer_type (ty.Int w) b v h is e = absurd (at v (subst (λ (k : Option Kind). IsInKindOf k v) kind_is is) e)
  where
    kind_is : kind_of (ty.Int w) ≡ Some (kind.Int w)
    kind_is = ap (λ (t : Bool). cond t (Some (kind.Int w)) None) h

    at : (u : Value) → IsInKind (kind.Int w) u → block_of u ≡ Some b → ⊥
    at (Ptr c o) f e = f
    at (Num n) f e = cc
    at (Bare a) f e = cc
    at Undef f e = cc
    at Poison f e = cc
pointer_type t b v h is e = h

recast_to : (from to : Ty) → converts conversion.BitCast from to ≡ true → is_pointer from ≡ true → is_pointer to ≡ true
recast_to (ty.Int v) (ty.Int w) h p = absurd (false≢true (sym (no_pointer_int v) ∙ p))
recast_to (ty.Int v) to h p = absurd (false≢true (sym (no_pointer_int v) ∙ p))
recast_to from to h p = right_true (is_pointer from) (is_pointer to) h

-- `bitcast` of an address is the same one
pub recast_gives : (op : CastOp) (from to : Ty) (v : Value) (b : ℕ) → is_recast op ≡ true → converts op from to ≡ true → has_values from ≡ true
    → IsInKindOf (kind_of from) v → block_of v ≡ Some b
    → cond (converts op from to) (cast_at op (kind_of from) (kind_of to) v) (Gives Poison) ≡ Gives v
recast_gives conversion.BitCast from to v b r h values is e =
    let pointer : is_pointer from ≡ true = pointer_type from b v values is e in
    let onto : is_pointer to ≡ true = recast_to from to h pointer in
    ap (λ (t : Bool). cond t (cast_at conversion.BitCast (kind_of from) (kind_of to) v) (Gives Poison)) h
    ∙ ap (λ (k : Option Kind). cast_at conversion.BitCast k (kind_of to) v) (pointer_kind from pointer)
    ∙ ap (λ (k : Option Kind). cast_at conversion.BitCast (Some kind.Ptr) k v) (pointer_kind to onto)
    ∙ ap Gives (stays v e)
  where
    stays : (u : Value) → block_of u ≡ Some b → recast_value u ≡ u
    stays (Ptr c o) e = refl
    stays (Num n) e = absurd (cc)
    stays (Bare a) e = absurd (cc)
    stays Undef e = absurd (cc)
    stays Poison e = absurd (cc)
recast_gives op from to v b r h values is e = absurd (cc)

-- ---- `getelementptr` by 0

if_stated : (t : Bool) (o : Outcome) (v : Value) → IsOutcomeLessDefined o (Gives v) → IsOutcomeLessDefined (cond t o (Gives Poison)) (Gives v)
if_stated true o v h = h
if_stated false o v h = tt

module _ (side : SideState) (fine : IsFine side) where
  zero_value : (t : Ty) (a : Atom Reg) → has_values t ≡ true → atom_fits side.scope t a ≡ true → is_zero a ≡ true → atom_value side.scope (read_reg side) t a ≡ Num 0
  zero_value (ty.Int w) (atom.Constant (constant.Number n)) v f z = rw (v, number_worth side.scope w n, f) (ap Num (same_nat_true n 0 z))
  zero_value t (atom.Constant (constant.Number n)) v f z = absurd (cc)
  zero_value t (atom.Constant c) v f z = absurd (cc)
  zero_value t (atom.Register r) v f z = absurd (cc)

  module _ (e : ElementOf Reg) (pointer : is_pointer e.base.ty ≡ true) where
    abbrev base : Value
    base = value_on side e.base

    by_zero : (is : List (Operand Reg)) → list_all (λ (i : Operand Reg). has_values i.ty) is ≡ true → list_all (operand_fits side.scope) is ≡ true → is_one_zero is ≡ true
        → IsOutcomeLessDefined (gep_outcome e.inbounds side.scope.types e.of base (size_at side.world.memory base) (map (index_value side.scope (read_reg side)) is)) (Gives base)
    by_zero [] v f z = absurd (cc)
    by_zero (i ∷ []) v f z =
        let zero : atom_value side.scope (read_reg side) i.ty i.atom ≡ Num 0 = zero_value i.ty i.atom (left_true (has_values i.ty) true v) (left_true (operand_fits side.scope i) true f) z in
        subst
        (λ (u : Value). IsOutcomeLessDefined (gep_outcome e.inbounds side.scope.types e.of base (size_at side.world.memory base) ((width_of i.ty, u) ∷ [])) (Gives base))
        (sym zero)
        (zero_keeps.less e.inbounds side.scope.types e.of base (size_at side.world.memory base) (width_of i.ty) (pointer_in_kind side fine e.base pointer))
    by_zero (i ∷ j ∷ is) v f z = absurd (cc)

    zero_less : list_all (λ (i : Operand Reg). has_values i.ty) e.indices ≡ true → list_all (operand_fits side.scope) e.indices ≡ true → is_one_zero e.indices ≡ true
        → IsOutcomeLessDefined (worth side (Element e)) (Gives base)
    zero_less v f z =
        if_stated (is_stated side.scope.types e)
        (gep_outcome e.inbounds side.scope.types e.of base (size_at side.world.memory base) (map (index_value side.scope (read_reg side)) e.indices)) base
        (by_zero e.indices v f z)

  pub gep_zero_is_sound : (from : List Fact) (to : Fact) → is_gep_zero side.scope from to ≡ true → Holds side to
  gep_zero_is_sound [] (LessDef (Element e) (Plain p)) h =
      let typed = have_one_type side.scope (Element e) (Plain p) in
      let based = same e.base p in
      let zero = is_one_zero e.indices in
      let h1 : (typed && based) ≡ true = left_true (typed && based) zero h in
      let one = one_type side.scope (Element e) (Plain p) (left_true typed based h1) in
      let is : e.base ≡ p = same_reg_operand_true e.base p (right_true typed based h1) in
      let points = same_ty e.base.ty (PtrTo e.of) in
      let due = is_due (element_type side.scope.types e.of (map index_of e.indices)) e.to in
      let known = is_known side.scope.types e.of in
      let small = list_all (is_small side.scope.types) (stepped side.scope.types e.of (map index_of e.indices)) in
      let values = list_all (λ (i : Operand Reg). has_values i.ty) e.indices in
      let stated : (points && due) ≡ true =
      left_true (points && due) known (left_true ((points && due) && known) small (left_true (((points && due) && known) && small) values one.values)) in
      let type : e.base.ty ≡ PtrTo e.of = same_ty_true e.base.ty (PtrTo e.of) (left_true points due stated) in
      let pointer : is_pointer e.base.ty ≡ true = subst (λ (t : Ty). is_pointer t ≡ true) (sym type) (is_pointer_to e.of) in (
        ap kind_of one.type,
        subst (λ (o : Operand Reg). IsOutcomeLessDefined (worth side (Element e)) (Gives (value_on side o))) is
            (zero_less e pointer (right_true (((points && due) && known) && small) values one.values)
            (right_true (operand_fits side.scope e.base) (list_all (operand_fits side.scope) e.indices) one.left) (right_true (typed && based) zero h)),
      )
  gep_zero_is_sound from to h = absurd (cc)
