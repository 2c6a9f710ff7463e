-- What is matched has related values on the source and the target.
use Rattle.std.proofs.Common.{◌≡◌, Bool, true, false, ◌&&◌, not, List, [], ◌∷◌, Option, None, Some, sym, ap, subst, subst₂, ⊎_elim}
use Rattle.std.specs.List.{list_any, AllByRecursion}
use Rattle.std.proofs.lemmas.Bool.{false≢true, not-true, or_cases}
use Rattle.ir_types.specs.declared.names.Name.{Name}
use Rattle.ir_core.specs.declared.values.Value.{Value}
use Rattle.ir_core.specs.declared.values.Value.TheVariants.{Num, Ptr, Bare, Undef, Poison}
use Rattle.ir_core.specs.declared.values.Kind.{Kind}
use Rattle.ir_types.specs.declared.ty.Ty.{Ty}
use Rattle.ir_core.specs.declared.operands.Atom.{Atom}
use Rattle.ir_core.specs.declared.operands.Atom.TheVariants as atom
use Rattle.ir_core.specs.declared.operands.Operand.{Operand}
use Rattle.ir_core.specs.declared.expressions.Reg.{Reg}
use Rattle.ir_core.specs.declared.expressions.Reg.TheVariants.{Now}
use Rattle.ir_core.specs.declared.expressions.Expr.TheVariants.{Plain}
use Rattle.ir_core.specs.Expressions.{Expr0}
use Rattle.ir_types.specs.Same.{same_ty}
use Rattle.ir_core.specs.Same.{same_const, same_reg, same_expr}
use Rattle.ir_types.specs.NameLaws.{left_true, right_true}
use Rattle.ir_types.proofs.SameLaws.{same_ty_true}
use Rattle.ir_core.proofs.SameLaws.{same_const_true, same_reg_true, same_reg_expr_true}
use Rattle.ir_values.specs.Related.{IsRelated, Pairing}
use Rattle.ir_values.specs.Values.{IsLessDefined, IsNotPoison}
use Rattle.ir_values.proofs.KindLaws.{same_kind_true}
use Rattle.ir_core.specs.Types.{kind_of}
use Rattle.ir_machine.specs.Registers.{read, constant_at, register_value, atom_value, operand_value}
use Rattle.erhl_assert.specs.declared.facts.Fact.{Fact}
use Rattle.erhl_assert.specs.declared.facts.Fact.TheVariants.{LessDef, Unique, Private, NoAlias, Ok}
use Rattle.erhl_assert.specs.declared.facts.Assertion.{Assertion}
use Rattle.erhl_assert.specs.Sides.{SideState, read_reg, has_reg, AreRelated, no_ghost}
use Rattle.erhl_assert.specs.Facts.{Holds, AssertionHolds}
use Rattle.erhl_assert.specs.Matched.{now_operand, from_fact, into_fact, some_from, some_into, is_kind, meet_at, meet, matched_at, matched_reg, matched, atoms_matched}
use Rattle.ir_values.proofs.OperationLaws.{less_defined_refl}
use Rattle.erhl_soundness.specs.TwoSides.{AreCommon}
use Rattle.erhl_soundness.proofs.Constants.{constant_related}
use Rattle.erhl_soundness.proofs.Readings.{atom_mapped}

abbrev pub value_on : SideState → Operand Reg → Value
value_on side o = operand_value side.scope (read_reg side) o

-- some operand that passes the test and is at least as defined on the side
abbrev pub SomeAbove : SideState → (Operand Reg → Bool) → Operand Reg → Type 0
SomeAbove side p a = (c : Operand Reg) × (p c ≡ true) × IsLessDefined (value_on side a) (value_on side c)

abbrev pub SomeBelow : SideState → (Operand Reg → Bool) → Operand Reg → Type 0
SomeBelow side p b = (c : Operand Reg) × (p c ≡ true) × IsLessDefined (value_on side c) (value_on side b)

module _ (side : SideState) (p : Operand Reg → Bool) where
  above_by_fact : (a : Operand Reg) (x y : Expr0) → from_fact p a (LessDef x y) ≡ true → Holds side (LessDef x y) → SomeAbove side p a
  above_by_fact a x (Plain c) h known =
      let same = same_reg_expr_true x (Plain a) (left_true (same_expr same_reg x (Plain a)) (p c) h) in
      let fact = subst (λ z. Holds side (LessDef z (Plain c))) same known in
      (c, right_true (same_expr same_reg x (Plain a)) (p c) h, fact.1)
  above_by_fact a x e h known = absurd (false≢true (right_true (same_expr same_reg x (Plain a)) false h))

  above_by_facts : (a : Operand Reg) (fs : List Fact) → list_any (from_fact p a) fs ≡ true → AllByRecursion (Holds side) fs → SomeAbove side p a
  above_by_facts a [] h all = absurd (false≢true h)
  above_by_facts a (LessDef x y ∷ fs) h all =
      ⊎_elim (λ e. above_by_fact a x y e all.0) (λ e. above_by_facts a fs e all.1) (or_cases (from_fact p a (LessDef x y)) (list_any (from_fact p a) fs) h)
  above_by_facts a (Unique r ∷ fs) h all = above_by_facts a fs h all.1
  above_by_facts a (Private r ∷ fs) h all = above_by_facts a fs h all.1
  above_by_facts a (NoAlias x y ∷ fs) h all = above_by_facts a fs h all.1
  above_by_facts a (Ok x t align ∷ fs) h all = above_by_facts a fs h all.1

  pub some_above : (a : Operand Reg) (fs : List Fact) → some_from p a fs ≡ true → AllByRecursion (Holds side) fs → SomeAbove side p a
  some_above a fs h all =
      ⊎_elim (λ e. (a, e, less_defined_refl (value_on side a))) (λ e. above_by_facts a fs e all) (or_cases (p a) (list_any (from_fact p a) fs) h)

  below_by_fact : (b : Operand Reg) (x y : Expr0) → into_fact p b (LessDef x y) ≡ true → Holds side (LessDef x y) → SomeBelow side p b
  below_by_fact b (Plain c) y h known =
      let same = same_reg_expr_true y (Plain b) (left_true (same_expr same_reg y (Plain b)) (p c) h) in
      let fact = subst (λ z. Holds side (LessDef (Plain c) z)) same known in
      (c, right_true (same_expr same_reg y (Plain b)) (p c) h, fact.1)
  below_by_fact b e y h known = absurd (false≢true (right_true (same_expr same_reg y (Plain b)) false h))

  below_by_facts : (b : Operand Reg) (fs : List Fact) → list_any (into_fact p b) fs ≡ true → AllByRecursion (Holds side) fs → SomeBelow side p b
  below_by_facts b [] h all = absurd (false≢true h)
  below_by_facts b (LessDef x y ∷ fs) h all =
      ⊎_elim (λ e. below_by_fact b x y e all.0) (λ e. below_by_facts b fs e all.1) (or_cases (into_fact p b (LessDef x y)) (list_any (into_fact p b) fs) h)
  below_by_facts b (Unique r ∷ fs) h all = below_by_facts b fs h all.1
  below_by_facts b (Private r ∷ fs) h all = below_by_facts b fs h all.1
  below_by_facts b (NoAlias x y ∷ fs) h all = below_by_facts b fs h all.1
  below_by_facts b (Ok x t align ∷ fs) h all = below_by_facts b fs h all.1

  pub some_below : (b : Operand Reg) (fs : List Fact) → some_into p b fs ≡ true → AllByRecursion (Holds side) fs → SomeBelow side p b
  some_below b fs h all =
      ⊎_elim (λ e. (b, e, less_defined_refl (value_on side b))) (λ e. below_by_facts b fs e all) (or_cases (p b) (list_any (into_fact p b) fs) h)

pub is_kind_true : (o : Option Kind) (k : Kind) → is_kind o k ≡ true → o ≡ Some k
is_kind_true None k h = absurd (false≢true h)
is_kind_true (Some j) k h = ap Some (same_kind_true j k h)

-- ---- less defined on the source, related, less defined on the target

no_poison : (a b : Value) → IsNotPoison a → IsLessDefined a b → IsNotPoison b
no_poison Poison b p q = absurd p
no_poison Undef b p q = q
no_poison (Num n) b p q = rw q tt
no_poison (Ptr x o) b p q = rw q tt
no_poison (Bare n) b p q = rw q tt

module _ (ps : Pairing) where
  no_poison_related : (a b : Value) → IsNotPoison a → IsRelated ps a b → IsNotPoison b
  no_poison_related Poison b p q = absurd p
  no_poison_related Undef b p q = q
  no_poison_related (Num n) b p q = rw q tt
  no_poison_related (Ptr x o) b p q = rw q.2 tt
  no_poison_related (Bare n) b p q = rw q tt

  pub less_then_related : (a c b : Value) → IsLessDefined a c → IsRelated ps c b → IsRelated ps a b
  less_then_related Poison c b p q = tt
  less_then_related Undef c b p q = no_poison_related c b p q
  less_then_related (Num n) c b p q = subst (λ v. IsRelated ps v b) p q
  less_then_related (Ptr x o) c b p q = subst (λ v. IsRelated ps v b) p q
  less_then_related (Bare n) c b p q = subst (λ v. IsRelated ps v b) p q

  pub related_then_less : (a c b : Value) → IsRelated ps a c → IsLessDefined c b → IsRelated ps a b
  related_then_less Poison c b p q = tt
  related_then_less Undef c b p q = no_poison c b p q
  related_then_less (Num n) c b p q = subst (λ v. IsLessDefined v b) p q
  related_then_less (Ptr x o) c b p q = (p.0, p.1, subst (λ v. IsLessDefined v b) p.2 q)
  related_then_less (Bare n) c b p q = subst (λ v. IsLessDefined v b) p q

  between : (a c d b : Value) → IsLessDefined a c → IsRelated ps c d → IsLessDefined d b → IsRelated ps a b
  between a c d b first middle last = less_then_related a c b first (related_then_less c d b middle last)

-- ---- two sides

module _ (ps : Pairing) (diff : List Reg) (source target : SideState) (common : AreCommon ps source target) (related : AreRelated ps no_ghost diff source target) where
  meet_at_related : (k : Kind) (c d : Operand Reg) (x y : Atom Reg) → kind_of c.ty ≡ Some k → kind_of d.ty ≡ Some k
      → meet_at diff c d x y ≡ true → IsRelated ps (atom_value source.scope (read_reg source) c.ty x) (atom_value target.scope (read_reg target) d.ty y)
  meet_at_related k c d (atom.Constant m) (atom.Constant n) of_c of_d h =
      let types = same_ty_true c.ty d.ty (left_true (same_ty c.ty d.ty) (same_const m n) h) in
      let same = same_const_true m n (right_true (same_ty c.ty d.ty) (same_const m n) h) in
      let value = constant_at source.scope c.ty (kind_of c.ty) m in
      subst (λ s. IsRelated ps value (constant_at s d.ty (kind_of d.ty) n)) common.scope
      (subst₂ (λ t i. IsRelated ps value (constant_at source.scope t (kind_of t) i)) types same (constant_related ps source.scope common.globals c.ty (kind_of c.ty) m))
  meet_at_related k c d (atom.Register x) (atom.Register y) of_c of_d h =
      let same = same_reg_true x y (left_true (same_reg x y) (not (has_reg x diff)) h) in
      let free = not-true (has_reg x diff) (right_true (same_reg x y) (not (has_reg x diff)) h) in
      subst₂ (λ i j. IsRelated ps (register_value (read_reg source) i x) (register_value (read_reg target) j y)) (sym of_c) (sym of_d)
      (subst (λ r. IsRelated ps (read_reg source k x) (read_reg target k r)) same (related.outside x k free))
  meet_at_related k c d (atom.Constant m) (atom.Register y) of_c of_d h = absurd (false≢true h)
  meet_at_related k c d (atom.Register x) (atom.Constant n) of_c of_d h = absurd (false≢true h)

  meet_related : (k : Kind) (c d : Operand Reg) → meet diff k c d ≡ true → IsRelated ps (value_on source c) (value_on target d)
  meet_related k c d h =
      let at = meet_at diff c d c.atom d.atom in
      let kinds = left_true (is_kind (kind_of c.ty) k && is_kind (kind_of d.ty) k) at h in
      let of_c = is_kind_true (kind_of c.ty) k (left_true (is_kind (kind_of c.ty) k) (is_kind (kind_of d.ty) k) kinds) in
      let of_d = is_kind_true (kind_of d.ty) k (right_true (is_kind (kind_of c.ty) k) (is_kind (kind_of d.ty) k) kinds) in
      meet_at_related k c d c.atom d.atom of_c of_d (right_true (is_kind (kind_of c.ty) k && is_kind (kind_of d.ty) k) at h)

module _ (ps : Pairing) (known : Assertion) (source target : SideState) (common : AreCommon ps source target) (holds : AssertionHolds ps no_ghost known source target) where
  matched_at_related : (o : Option Kind) (a b : Operand Reg) → matched_at known o a b ≡ true → IsRelated ps (value_on source a) (value_on target b)
  matched_at_related None a b h = absurd (false≢true h)
  matched_at_related (Some k) a b h =
      let through = λ (c : Operand Reg). some_into (λ d. meet known.diff k c d) b known.tgt in
      let found : SomeAbove source through a = some_above source through a known.src h holds.source_facts in
      let back : SomeBelow target (λ d. meet known.diff k found.0 d) b =
      some_below target (λ d. meet known.diff k found.0 d) b known.tgt found.1 holds.target_facts in
      between ps (value_on source a) (value_on source found.0) (value_on target back.0) (value_on target b) found.2
      (meet_related ps known.diff source target common holds.related k found.0 back.0 back.1) back.2

  matched_reg_related : (a b : Operand Reg) → matched_reg known a b ≡ true → IsRelated ps (value_on source a) (value_on target b)
  matched_reg_related a b h = matched_at_related (kind_of a.ty) a b (right_true (same_ty a.ty b.ty) (matched_at known (kind_of a.ty) a b) h)

  -- the operands of two functions
  pub matched_related : (a b : Operand Name) → matched known a b ≡ true
      → IsRelated ps (operand_value source.scope (read source.files.now) a) (operand_value target.scope (read target.files.now) b)
  matched_related a b h =
      subst₂ (IsRelated ps) (atom_mapped source.scope Now (read_reg source) a.ty a.atom) (atom_mapped target.scope Now (read_reg target) b.ty b.atom)
      (matched_reg_related (now_operand a) (now_operand b) h)

  pub atoms_matched_related : (s : Ty) (a : Atom Name) (t : Ty) (b : Atom Name) → atoms_matched known s a t b ≡ true
      → IsRelated ps (atom_value source.scope (read source.files.now) s a) (atom_value target.scope (read target.files.now) t b)
  atoms_matched_related s a t b h = matched_related (record { ty = s; atom = a }) (record { ty = t; atom = b }) h

pub matched_type : (known : Assertion) (a b : Operand Name) → matched known a b ≡ true → a.ty ≡ b.ty
matched_type known a b h =
    same_ty_true a.ty b.ty (left_true (same_ty a.ty b.ty) (matched_at known (kind_of a.ty) (now_operand a) (now_operand b)) h)
