-- The steps of a hint, one at a time, within the limit on facts.
use Rattle.std.proofs.Common.{◌≡◌, ◌∙◌, ℕ, ◌+◌, ◌<◌, true, false, cond, List, [], ◌∷◌, length, map, drop, get_or, Option, None, Some, Result, Ok, Err, refl, sym, ap}
use Rattle.std.specs.Borrow.{Bor}
use Rattle.ir_values.specs.Constants.{Scope}
use Rattle.ir_machine.proofs.Standing.{drop_at}
use Rattle.erhl_assert.specs.declared.facts.Fact.{Fact}
use Rattle.erhl_assert.specs.declared.facts.Assertion.{Assertion}
use Rattle.erhl_assert.specs.declared.facts.Side.{Side}
use Rattle.erhl_assert.specs.declared.hints.HintStep.{HintStep}
use Rattle.erhl_assert.specs.declared.hints.RuleStep.{RuleStep}
use Rattle.erhl_assert.specs.declared.verdict.Reason.{Reason}
use Rattle.erhl_assert.specs.Course.{Ends, Refuses, Gives, Course, and_then, tested, within}
use Rattle.erhl_assert.specs.Growth.{adds, adds_all}
use Rattle.erhl_assert.specs.Steps.{Beside, Meaning, after_rule, after_step, after_steps}
use Rattle.erhl_assert.proofs.Courses.{within_more, within_none, within_refused}
use Rattle.rule_base.specs.Book.{answer_of}
use Rattle.rule_base.specs.declared.rule_book.Fitness.TheVariants.{Unfit, Fits}
use Rattle.erhl_checker.specs.declared.checked_pair.ends.CheckEnd.{CheckEnd}
use Rattle.erhl_checker.specs.CheckedPair.Progress.{ended, on_answer, Follows}

pub rule_by_answer : (o : Option Meaning) (scope : Scope) (step : RuleStep) (known : Assertion) → after_rule o scope step known ≡ on_answer (answer_of o scope step.schema) step known
rule_by_answer None scope step known = refl
rule_by_answer (Some r) scope step known =
    elim (r.takes scope step.schema) as (λ b. cond b (on_answer Fits step known) (on_answer Unfit step known) ≡ on_answer (cond b Fits Unfit) step known) [ true ↦ refl | false ↦ refl ]

-- the first step of those that are left
module _ (w : Beside) (s : HintStep) (ss : List HintStep) (known : Assertion) where
  pub steps_more : (after : Assertion) → within (after_step w s known) ≡ Some (Gives after) → within (after_steps w (s ∷ ss) known) ≡ within (after_steps w ss after)
  steps_more after h = within_more (after_step w s known) (after_steps w ss) after h

  pub steps_refused : (r : Reason) → within (after_step w s known) ≡ Some (Refuses r) → within (after_steps w (s ∷ ss) known) ≡ Some (Refuses r)
  steps_refused r h = within_refused (after_step w s known) (after_steps w ss) r h

  pub steps_none : within (after_step w s known) ≡ None → within (after_steps w (s ∷ ss) known) ≡ None
  steps_none h = within_none (after_step w s known) (after_steps w ss) h

abbrev lent : List (Bor HintStep) → List HintStep
lent ss = map (λ (s : Bor HintStep). s.now) ss

-- a step of the walk, by how it ends
module _ (w : Beside) (ss : List (Bor HintStep)) (i : ℕ) (known : Assertion) (whole : Option (Ends Assertion)) (so_far : within (after_steps w (lent (drop i ss)) known) ≡ whole)
    (s : Bor HintStep) (inside : i < length ss) (is : s ≡ get_or ss i s) where
  from_this : within (after_steps w (s.now ∷ lent (drop (i + 1) ss)) known) ≡ whole
  from_this = sym (ap (λ (xs : List (Bor HintStep)). within (after_steps w (lent xs) known)) (drop_at ss i s inside is)) ∙ so_far

  pub step_stops : within (after_step w s.now known) ≡ None → whole ≡ None
  step_stops h = sym from_this ∙ steps_none w s.now (lent (drop (i + 1) ss)) known h

  module _ (refusal : Option Reason) (after : Assertion) (so : within (after_step w s.now known) ≡ Some (ended refusal after)) where
    pub step_refuses : (r : Reason) → refusal ≡ Some r → whole ≡ Some (Refuses r)
    step_refuses r some = sym from_this ∙ steps_refused w s.now (lent (drop (i + 1) ss)) known r (so ∙ ap (λ o. Some (ended o after)) some)

    pub step_done : refusal ≡ None → within (after_steps w (lent (drop (i + 1) ss)) after) ≡ whole
    step_done none = sym (steps_more w s.now (lent (drop (i + 1) ss)) known after (so ∙ ap (λ o. Some (ended o after)) none)) ∙ from_this

-- two facts that are added to a side
module _ (side : Side) (f g : Fact) (known : Assertion) where
  pub two_added : (half after : Assertion) → within (adds side f known) ≡ Some (Gives half) → within (adds side g half) ≡ Some (Gives after)
      → within (adds_all side (f ∷ g ∷ []) known) ≡ Some (Gives after)
  two_added half after one two =
      within_more (adds side f known) (adds_all side (g ∷ [])) half one ∙ within_more (adds side g half) (adds_all side []) after two

  pub first_not_added : within (adds side f known) ≡ None → within (adds_all side (f ∷ g ∷ []) known) ≡ None
  first_not_added none = within_none (adds side f known) (adds_all side (g ∷ [])) none

  pub second_not_added : (half : Assertion) → within (adds side f known) ≡ Some (Gives half) → within (adds side g half) ≡ None
      → within (adds_all side (f ∷ g ∷ []) known) ≡ None
  second_not_added half one none =
      within_more (adds side f known) (adds_all side (g ∷ [])) half one ∙ within_none (adds side g half) (adds_all side []) none

-- what follows a course that gives something
pub follows_then : {X : Type 0} (c : Course Assertion) (next : Assertion → Course Assertion) (a : Assertion) → within c ≡ Some (Gives a)
    → (came : Result X CheckEnd) (known : Assertion) → Follows came known (next a) → Follows came known (and_then c next)
follows_then c next a h (Ok x) known is = within_more c next a h ∙ is
follows_then c next a h (Err fault) known is = λ l limit. let more = is l limit in (more.0, within_more c next a h ∙ more.1)

-- a test, and then what adds
module _ (o : Option Reason) (known : Assertion) (next : Assertion → Course Assertion) where
  pub test_passed : o ≡ None → within (and_then (tested o known) next) ≡ within (next known)
  test_passed h = ap (λ o. within (and_then (tested o known) next)) h

  pub test_failed : (r : Reason) → o ≡ Some r → within (and_then (tested o known) next) ≡ Some (Refuses r)
  test_failed r h = ap (λ o. within (and_then (tested o known) next)) h
