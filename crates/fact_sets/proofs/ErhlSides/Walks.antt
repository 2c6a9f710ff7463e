-- Facts that are added in a walk over a list of them, within the limit on facts.
use Rattle.std.proofs.Common.{◌≡◌, ◌∙◌, Bool, true, false, cond, List, ◌∷◌, Option, None, Some, sym, ap}
use Rattle.erhl_assert.specs.declared.facts.Fact.{Fact}
use Rattle.erhl_assert.specs.declared.facts.Assertion.{Assertion}
use Rattle.erhl_assert.specs.declared.facts.Side.{Side}
use Rattle.erhl_assert.specs.Course.{Gives, Ends, within}
use Rattle.erhl_assert.specs.Growth.{adds, adds_all}
use Rattle.erhl_assert.proofs.Courses.{within_more, within_none}

module _ (side : Side) (f : Fact) (fs : List Fact) (known : Assertion) (all : Option (Ends Assertion)) (so_far : within (adds_all side (f ∷ fs) known) ≡ all) where
  pub one_in : (after : Assertion) (few : Bool) → few ≡ true → within (adds side f known) ≡ cond few (Some (Gives after)) None → within (adds_all side fs after) ≡ all
  one_in after few e h =
      sym (within_more (adds side f known) (adds_all side fs) after (h ∙ ap (λ b. cond b (Some (Gives after)) None) e)) ∙ so_far

  pub one_too_many : (after : Assertion) (few : Bool) → few ≡ false → within (adds side f known) ≡ cond few (Some (Gives after)) None → all ≡ None
  one_too_many after few e h =
      sym so_far ∙ within_none (adds side f known) (adds_all side fs) (h ∙ ap (λ b. cond b (Some (Gives after)) None) e)
