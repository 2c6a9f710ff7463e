-- Signs keep the laws of a monotone framework.
use Rattle.std.proofs.Common.{◌≡◌, ◌∙◌, ◌<◌, List, get_or, refl, sym, ap, subst, inl, inr, arith}
use Rattle.flow_solver.specs.Frameworks.{IsMonotone}
use Rattle.test_support.specs.declared.analyses.signs.Sign.{Sign}
use Rattle.test_support.specs.declared.analyses.signs.Sign.TheVariants.{Negative, Zero, Positive}
use Rattle.test_support.specs.declared.analyses.signs.Known.{Known}
use Rattle.test_support.specs.declared.analyses.signs.Known.TheVariants.{Unseen, One, Any}
use Rattle.test_support.specs.declared.analyses.signs.Act.{Act}
use Rattle.test_support.specs.declared.analyses.signs.Act.TheVariants.{Keep, Negate, Make}
use Rattle.test_support.specs.Analyses.Signs.{IsBelow, height, made, met, met_signs, negated, signs}

below_self : (x : Known) → IsBelow x x
below_self Any = tt
below_self (One s) = refl
below_self Unseen = tt

below_all : (x y z : Known) → IsBelow x y → IsBelow y z → IsBelow x z
below_all Any y z left right = tt
below_all (One s) Any z left right = absurd left
below_all (One s) (One t) Any left right = absurd right
below_all (One s) (One t) (One u) left right = left ∙ right
below_all (One s) (One t) Unseen left right = tt
below_all (One s) Unseen Any left right = absurd right
below_all (One s) Unseen (One u) left right = absurd right
below_all (One s) Unseen Unseen left right = tt
below_all Unseen Any z left right = absurd left
below_all Unseen (One t) z left right = absurd left
below_all Unseen Unseen z left right = right

same : (x y : Known) → IsBelow x y → IsBelow y x → x ≡ y
same Any Any left right = refl
same Any (One t) left right = absurd right
same Any Unseen left right = absurd right
same (One s) Any left right = absurd left
same (One s) (One t) left right = ap One left
same (One s) Unseen left right = absurd right
same Unseen Any left right = absurd left
same Unseen (One t) left right = absurd left
same Unseen Unseen left right = refl

below_unseen : (x : Known) → IsBelow x Unseen
below_unseen Any = tt
below_unseen (One s) = tt
below_unseen Unseen = tt

left_sign : (s t : Sign) → IsBelow (met_signs s t) (One s)
left_sign Negative Negative = refl
left_sign Negative Zero = tt
left_sign Negative Positive = tt
left_sign Zero Negative = tt
left_sign Zero Zero = refl
left_sign Zero Positive = tt
left_sign Positive Negative = tt
left_sign Positive Zero = tt
left_sign Positive Positive = refl

right_sign : (s t : Sign) → IsBelow (met_signs s t) (One t)
right_sign Negative Negative = refl
right_sign Negative Zero = tt
right_sign Negative Positive = tt
right_sign Zero Negative = tt
right_sign Zero Zero = refl
right_sign Zero Positive = tt
right_sign Positive Negative = tt
right_sign Positive Zero = tt
right_sign Positive Positive = refl

both_sign : (s : Sign) → met_signs s s ≡ One s
both_sign Negative = refl
both_sign Zero = refl
both_sign Positive = refl

met_left : (x y : Known) → IsBelow (met x y) x
met_left Unseen y = below_unseen y
met_left (One s) Unseen = refl
met_left (One s) (One t) = left_sign s t
met_left (One s) Any = tt
met_left Any y = tt

met_right : (x y : Known) → IsBelow (met x y) y
met_right Unseen y = below_self y
met_right (One s) Unseen = tt
met_right (One s) (One t) = right_sign s t
met_right (One s) Any = tt
met_right Any y = tt

met_greatest : (x y w : Known) → IsBelow w x → IsBelow w y → IsBelow w (met x y)
met_greatest Unseen y w left right = right
met_greatest (One s) Unseen w left right = left
met_greatest (One s) (One t) Any left right = tt
met_greatest (One s) (One t) (One u) left right =
    subst (λ k. IsBelow (One u) (met_signs k t)) left (subst (λ k. IsBelow (One u) (met_signs u k)) right (subst (IsBelow (One u)) (sym (both_sign u)) refl))
met_greatest (One s) (One t) Unseen left right = absurd left
met_greatest (One s) Any w left right = right
met_greatest Any y w left right = left

more_known : (act : Act) (x y : Known) → IsBelow x y → IsBelow (made act x) (made act y)
more_known act x Unseen within = below_unseen (made act x)
more_known act Unseen Any within = absurd within
more_known act Unseen (One t) within = absurd within
more_known Keep Any (One t) within = tt
more_known Keep Any Any within = tt
more_known Keep (One s) (One t) within = within
more_known Keep (One s) Any within = absurd within
more_known Negate Any (One t) within = tt
more_known Negate Any Any within = tt
more_known Negate (One s) (One t) within = ap negated within
more_known Negate (One s) Any within = absurd within
more_known (Make sign) Any (One t) within = refl
more_known (Make sign) Any Any within = refl
more_known (Make sign) (One s) (One t) within = refl
more_known (Make sign) (One s) Any within = absurd within

falls : (x y : Known) → IsBelow x y → (x ≡ y → ⊥) → height x < height y
falls Any Any within other = absurd (other refl)
falls Any (One t) within other = omega arith
falls Any Unseen within other = omega arith
falls (One s) Any within other = absurd within
falls (One s) (One t) within other = absurd (other (ap One within))
falls (One s) Unseen within other = omega arith
falls Unseen Any within other = absurd within
falls Unseen (One t) within other = absurd within
falls Unseen Unseen within other = absurd (other refl)

pub signs_are_monotone : (acts : List Act) → IsMonotone (signs acts)
signs_are_monotone acts = record {
  reflexive = λ x _. below_self x;
  transitive = λ x y z _ _ _. below_all x y z;
  antisymmetric = λ x y _ _. same x y;
  top = tt;
  greatest = λ x _. below_unseen x;
  start = λ _. tt;
  meet = λ x y _ _. (
    (
      tt,
      λ z by. elim by [
        | inl is_x ↦ subst (IsBelow (met x y)) (sym is_x) (met_left x y)
        | inr is_y ↦ subst (IsBelow (met x y)) (sym is_y) (met_right x y)
      ],
    ),
    λ w bound. met_greatest x y w (bound.1 x (inl refl)) (bound.1 y (inr refl)),
  );
  transfer = λ _ _ _. tt;
  monotone = λ n x y _ _. more_known (get_or acts n Keep) x y;
  height = λ x y _ _. falls x y;
}
