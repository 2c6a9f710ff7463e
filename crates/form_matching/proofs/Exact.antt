-- The test is true exactly of instances.
use Rattle.std.proofs.Common.{◌≡◌, ◌||◌, ◌&&◌, inl, inr, ⊎_elim, Bool, true, false, List, [], ◌∷◌, Option, None, Some, refl, sym, ap₂, subst}
use Rattle.std.specs.Prelude.{◌↔◌}
use Rattle.std.specs.List.{AllByRecursion, list_any}
use Rattle.ir_types.specs.NameLaws.{all_true, left_true, right_true}
use Rattle.ir_core.specs.declared.expressions.Reg.{Reg}
use Rattle.ir_core.specs.Expressions.{Expr0}
use Rattle.ir_core.specs.Same.{same_reg, same_expr}
use Rattle.ir_core.proofs.SameLaws.{same_reg_expr_refl, same_reg_expr_true}
use Rattle.form_matching.specs.Typed.{have_one_type}
use Rattle.erhl_assert.specs.declared.facts.Fact.{Fact}
use Rattle.erhl_assert.specs.declared.facts.Fact.TheVariants.{LessDef}
use Rattle.rule_forms.specs.declared.forms.Place.TheVariants as place
use Rattle.rule_forms.specs.declared.forms.Pattern.{Pattern}
use Rattle.rule_forms.specs.declared.forms.Pattern.TheVariants as pattern
use Rattle.rule_forms.specs.declared.forms.Form.{Form}
use Rattle.rule_forms.specs.Conditions.{gives}
use Rattle.form_matching.specs.Exactness.{IsAnInstance, IsInstance, ReadsBack, from_of, typed_facts}
use Rattle.form_matching.specs.Instances.{Put, asks, fits, instance, is_instance, is_premise, read}

same_expr_of : (a b : Expr0) → a ≡ b → same_expr same_reg a b ≡ true
same_expr_of a b e = subst (λ x. same_expr same_reg a x ≡ true) e (same_reg_expr_refl a)

-- the premises, from their equality
premise_true : (put : Put Reg) (p : Option Pattern) (from : List Fact) → typed_facts from ≡ true → from_of put p ≡ from → is_premise put p from ≡ true
premise_true put None from t e = subst (λ x. is_premise put None x ≡ true) e refl
premise_true put (Some p) from t e = subst (λ x. typed_facts x ≡ true → is_premise put (Some p) x ≡ true) e
    (λ k. all_true (all_true (left_true (have_one_type (instance put (pattern.Plain (gives p) place.Z)) (instance put p)) true k)
    (same_reg_expr_refl (instance put (pattern.Plain (gives p) place.Z)))) (same_reg_expr_refl (instance put p))) t

pub instance_fits : (form : Form) → ((put : Put Reg) → ReadsBack form put) → (from : List Fact) (to : Fact) → IsInstance form from to → fits form from to ≡ true
instance_fits form back from to i = rw (i.to_is, i.from_is) (at_put i.put i.asked (subst (λ fs. typed_facts (LessDef (instance i.put form.left) (instance i.put form.right) ∷ fs) ≡ true) i.from_is (subst (λ f. typed_facts (f ∷ from) ≡ true) i.to_is i.typed))) where
  at_put : (put : Put Reg) → asks form.condition put ≡ true
      → typed_facts (LessDef (instance put form.left) (instance put form.right) ∷ from_of put form.premise) ≡ true
      → fits form (from_of put form.premise) (LessDef (instance put form.left) (instance put form.right)) ≡ true
  at_put put k t =
      let a = instance put form.left in
      let b = instance put form.right in
      let fs = from_of put form.premise in
      let got = read form fs a b in
      let r = back put in
      all_true (all_true (all_true (all_true
      (premise_true got form.premise fs (right_true (have_one_type a b) (typed_facts fs) t) r.premise)
      (left_true (have_one_type a b) (typed_facts fs) t))
      (same_expr_of (instance got form.left) a r.left))
      (same_expr_of (instance got form.right) b r.right))
      (subst (λ x. x ≡ true) (sym r.asks) k)

-- ---- what fits is an instance

from_premise : (put : Put Reg) (p : Option Pattern) (from : List Fact) → is_premise put p from ≡ true → from ≡ from_of put p
from_premise put None [] h = refl
from_premise put None (f ∷ fs) h = absurd (cc)
from_premise put (Some p) [] h = absurd (cc)
from_premise put (Some p) (f ∷ g ∷ fs) h = absurd (cc)
from_premise put (Some p) (LessDef u v ∷ []) h =
    let one = have_one_type u v in
    let z = is_instance put (pattern.Plain (gives p) place.Z) u in
    let e = is_instance put p v in
    let first = same_reg_expr_true (instance put (pattern.Plain (gives p) place.Z)) u (right_true one z (left_true (one && z) e h)) in
    let second = same_reg_expr_true (instance put p) v (right_true (one && z) e h) in
    ap₂ (λ a b. LessDef a b ∷ []) (sym first) (sym second)
from_premise put (Some p) (f ∷ []) h = absurd (cc)

typed_premise : (put : Put Reg) (p : Option Pattern) (from : List Fact) → is_premise put p from ≡ true → typed_facts from ≡ true
typed_premise put None [] h = refl
typed_premise put None (f ∷ fs) h = absurd (cc)
typed_premise put (Some p) [] h = absurd (cc)
typed_premise put (Some p) (f ∷ g ∷ fs) h = absurd (cc)
typed_premise put (Some p) (LessDef u v ∷ []) h =
    let one = have_one_type u v in
    let z = is_instance put (pattern.Plain (gives p) place.Z) u in
    let e = is_instance put p v in
    all_true (left_true one z (left_true (one && z) e h)) refl
typed_premise put (Some p) (f ∷ []) h = absurd (cc)

pub fits_instance : (form : Form) (from : List Fact) (to : Fact) → fits form from to ≡ true → IsInstance form from to
fits_instance form from (LessDef a b) h =
    let put = read form from a b in
    let p = is_premise put form.premise from in
    let one = have_one_type a b in
    let l = is_instance put form.left a in
    let r = is_instance put form.right b in
    let k = asks form.condition put in
    let h3 : (p && one && l && r) ≡ true = left_true (p && one && l && r) k h in
    let h2 : (p && one && l) ≡ true = left_true (p && one && l) r h3 in
    let h1 : (p && one) ≡ true = left_true (p && one) l h2 in
    record {
      put = put;
      from_is = from_premise put form.premise from (left_true p one h1);
      to_is = ap₂ LessDef (sym (same_reg_expr_true (instance put form.left) a (right_true (p && one) l h2)))
          (sym (same_reg_expr_true (instance put form.right) b (right_true (p && one && l) r h3)));
      typed = all_true (right_true p one h1) (typed_premise put form.premise from (left_true p one h1));
      asked = right_true (p && one && l && r) k h;
    }
fits_instance form from f h = absurd (cc)

either : (p q : Bool) (P : Type 0) → (p ≡ true → P) → (q ≡ true → P) → (p || q) ≡ true → P
either true q P f g h = f refl
either false q P f g h = g h

left_or : (p q : Bool) → p ≡ true → (p || q) ≡ true
left_or true q h = refl
left_or false q h = absurd (cc)

right_or : (p q : Bool) → q ≡ true → (p || q) ≡ true
right_or true q h = refl
right_or false q h = h

pub lists_are_exact : (forms : List Form) → AllByRecursion (λ form. (put : Put Reg) → ReadsBack form put) forms → (from : List Fact) (to : Fact)
    → (list_any (λ form. fits form from to) forms ≡ true) ↔ IsAnInstance forms from to
lists_are_exact [] all from to = (λ h. absurd (cc), λ h. absurd h)
lists_are_exact (form ∷ forms) all from to =
    let rest = lists_are_exact forms all.1 from to in
    let one = fits form from to in
    let more = list_any (λ form. fits form from to) forms in (
      λ h. either one more (IsAnInstance (form ∷ forms) from to) (λ k. inl (fits_instance form from to k)) (λ k. inr (rest.0 k)) h,
      λ h. ⊎_elim (λ i. left_or one more (instance_fits form all.0 from to i)) (λ i. right_or one more (rest.1 i)) h,
    )
