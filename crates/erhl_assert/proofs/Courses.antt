-- Courses: what is good is valid, what a good check is made of, and what an aligned line comes to.
use Rattle.std.proofs.Common.{◌≡◌, ◌∙◌, ◌++◌, ◌||◌, ℕ, nat_lt, Bool, true, false, cond, List, [], ◌∷◌, Option, None, Some, refl, sym, ap}
use Rattle.std.specs.Option.{is_none}
use Rattle.std.proofs.lemmas.List.Folds.{list_any-append}
use Rattle.ir_types.specs.declared.names.Name.{Name}
use Rattle.ir_types.specs.declared.named.NamedTy.{NamedTy}
use Rattle.ir_core.specs.Limits.{fact_limit}
use Rattle.ir_core.specs.declared.functions.Instr.{Instr}
use Rattle.erhl_assert.specs.declared.facts.Fact.{Fact}
use Rattle.erhl_assert.specs.declared.facts.Assertion.{Assertion}
use Rattle.erhl_assert.specs.declared.facts.Side.{Side}
use Rattle.erhl_assert.specs.declared.facts.Side.TheVariants.{Src, Tgt}
use Rattle.erhl_assert.specs.declared.verdict.Reason.{Reason}
use Rattle.erhl_assert.specs.declared.verdict.Spot.{Spot}
use Rattle.erhl_assert.specs.declared.verdict.Verdict.{Verdict}
use Rattle.erhl_assert.specs.declared.verdict.Verdict.TheVariants as verdict
use Rattle.erhl_assert.specs.Facts.{with_facts, on_side}
use Rattle.erhl_assert.specs.Kills.{all_killed}
use Rattle.erhl_assert.specs.Alignment.{Line}
use Rattle.erhl_assert.specs.Postcondition.{line_kills, line_adds, facts_after, diff_after, after_line}
use Rattle.erhl_assert.specs.Course.{Ends, Refuses, Gives, Course, gives, refuses, after_ends, and_then, tested, Judged, Good, Bad, with_sizes, placed_end, placed, then_also, sizes_of, verdict_of, are_too_many, within, judged_answer, answer_at, IsGood}
use Rattle.erhl_assert.specs.Allowed.{line_fault}
use Rattle.erhl_assert.specs.Growth.{with_conclusion, adds_all, over_side, over_allowed, over_line}

pub bad_is_not_good : (sizes : List ℕ) (block : Name) (where_ : Spot) (why : Reason) → IsGood (Bad sizes block where_ why) → ⊥
bad_is_not_good sizes block where_ why h = let e = h.1 in cc

-- ---- within the limit on facts

-- of two lists of sizes
too_many_of_two : (xs ys : List ℕ) → are_too_many (xs ++ ys) ≡ (are_too_many xs || are_too_many ys)
too_many_of_two xs ys = list_any-append (nat_lt fact_limit) xs ys

-- what goes on where a course ends within the limit
abbrev pub going_on : {A B : Type 0} → Option (Ends A) → (A → Option (Ends B)) → Option (Ends B)
going_on None next = None
going_on (Some (Refuses r)) next = Some (Refuses r)
going_on (Some (Gives a)) next = next a

two_within : {A : Type 0} (p q : Bool) (e : A) → cond (p || q) None (Some e) ≡ cond p None (cond q None (Some e))
two_within true q e = refl
two_within false q e = refl

within_at : {A B : Type 0} (sizes : List ℕ) (e : Ends A) (next : A → Course B)
    → within (after_ends sizes e next) ≡ going_on (cond (are_too_many sizes) None (Some e)) (λ a. within (next a))
within_at sizes (Refuses r) next =
    elim (are_too_many sizes) as (λ b. cond b None (Some (Refuses r)) ≡ going_on (cond b None (Some (Refuses r))) (λ a. within (next a))) [ true ↦ refl | false ↦ refl ]
within_at sizes (Gives a) next =
    ap (λ b. cond b None (Some (next a).ends)) (too_many_of_two sizes (next a).sizes)
    ∙ two_within (are_too_many sizes) (are_too_many (next a).sizes) (next a).ends
    ∙ (elim (are_too_many sizes) as (λ b. cond b None (within (next a)) ≡ going_on (cond b None (Some (Gives a))) (λ a. within (next a))) [ true ↦ refl | false ↦ refl ])

-- a course of two goes on within the limit
pub within_then : {A B : Type 0} (c : Course A) (next : A → Course B) → within (and_then c next) ≡ going_on (within c) (λ a. within (next a))
within_then c next = within_at c.sizes c.ends next

pub within_more : {A B : Type 0} (c : Course A) (next : A → Course B) (a : A) → within c ≡ Some (Gives a) → within (and_then c next) ≡ within (next a)
within_more c next a h = within_then c next ∙ ap (λ e. going_on e (λ a. within (next a))) h

pub within_none : {A B : Type 0} (c : Course A) (next : A → Course B) → within c ≡ None → within (and_then c next) ≡ None
within_none c next h = within_then c next ∙ ap (λ e. going_on e (λ a. within (next a))) h

pub within_refused : {A B : Type 0} (c : Course A) (next : A → Course B) (r : Reason) → within c ≡ Some (Refuses r) → within (and_then c next) ≡ Some (Refuses r)
within_refused c next r h = within_then c next ∙ ap (λ e. going_on e (λ a. within (next a))) h

pub answer_with_sizes : (before : List ℕ) (j : Judged) → judged_answer (with_sizes before j) ≡ cond (are_too_many before) None (judged_answer j)
answer_with_sizes before (Good sizes) =
    ap (λ b. cond b None (Some verdict.Valid)) (too_many_of_two before sizes) ∙ two_within (are_too_many before) (are_too_many sizes) verdict.Valid
answer_with_sizes before (Bad sizes block where_ why) =
    ap (λ b. cond b None (Some (verdict.Refused block where_ why))) (too_many_of_two before sizes)
    ∙ two_within (are_too_many before) (are_too_many sizes) (verdict.Refused block where_ why)

answer_placed_at : {A : Type 0} (block : Name) (where_ : Spot) (sizes : List ℕ) (e : Ends A) (next : A → Judged)
    → judged_answer (placed_end block where_ sizes e next) ≡ answer_at block where_ (cond (are_too_many sizes) None (Some e)) (λ a. judged_answer (next a))
answer_placed_at block where_ sizes (Refuses r) next =
    elim (are_too_many sizes) as (λ b. cond b None (Some (verdict.Refused block where_ r)) ≡ answer_at block where_ (cond b None (Some (Refuses r))) (λ a. judged_answer (next a))) [ true ↦ refl | false ↦ refl ]
answer_placed_at block where_ sizes (Gives a) next =
    answer_with_sizes sizes (next a)
    ∙ (elim (are_too_many sizes) as (λ b. cond b None (judged_answer (next a)) ≡ answer_at block where_ (cond b None (Some (Gives a))) (λ a. judged_answer (next a))) [ true ↦ refl | false ↦ refl ])

-- what a check answers that begins with a course at a place
pub answer_placed : {A : Type 0} (block : Name) (where_ : Spot) (c : Course A) (next : A → Judged)
    → judged_answer (placed block where_ c next) ≡ answer_at block where_ (within c) (λ a. judged_answer (next a))
answer_placed block where_ c next = answer_placed_at block where_ c.sizes c.ends next

-- a check that answers that the pair is valid is good
valid_within : (b : Bool) (v w : Verdict) → cond b None (Some v) ≡ Some w → v ≡ w
valid_within true v w h = absurd (cc)
valid_within false v w h = cc

valid_is_good : (j : Judged) → verdict_of j ≡ verdict.Valid → IsGood j
valid_is_good (Good sizes) h = (sizes, refl)
valid_is_good (Bad sizes block where_ why) h = absurd (cc)

pub answer_is_good : (j : Judged) → judged_answer j ≡ Some verdict.Valid → IsGood j
answer_is_good j h = valid_is_good j (valid_within (are_too_many (sizes_of j)) (verdict_of j) verdict.Valid h)

-- and a good check answers nothing else
good_answers_at : (b : Bool) (v w : Verdict) → v ≡ verdict.Valid → cond b None (Some v) ≡ Some w → w ≡ verdict.Valid
good_answers_at true v w valid h = absurd (cc)
good_answers_at false v w valid h = cc

pub good_answers : (j : Judged) (v : Verdict) → IsGood j → judged_answer j ≡ Some v → v ≡ verdict.Valid
good_answers j v good h = good_answers_at (are_too_many (sizes_of j)) (verdict_of j) v (ap verdict_of good.1) h

-- ---- good checks

good_with_sizes : (before : List ℕ) (j : Judged) → IsGood (with_sizes before j) → IsGood j
good_with_sizes before (Good sizes) h = (sizes, refl)
good_with_sizes before (Bad sizes block where_ why) h = absurd (bad_is_not_good (before ++ sizes) block where_ why h)

good_end : {A : Type 0} (block : Name) (where_ : Spot) (sizes : List ℕ) (e : Ends A) (next : A → Judged) → IsGood (placed_end block where_ sizes e next)
    → (a : A) × (e ≡ Gives a) × IsGood (next a)
good_end block where_ sizes (Refuses r) next h = absurd (bad_is_not_good sizes block where_ r h)
good_end block where_ sizes (Gives a) next h = (a, refl, good_with_sizes sizes (next a) h)

-- a good check begins with a course that gives something, and what follows is good
pub good_parts : {A : Type 0} (block : Name) (where_ : Spot) (c : Course A) (next : A → Judged) → IsGood (placed block where_ c next)
    → (a : A) × (c.ends ≡ Gives a) × IsGood (next a)
good_parts block where_ c next h = good_end block where_ c.sizes c.ends next h

-- of two checks that follow one another both are good
pub both_good : (first next : Judged) → IsGood (then_also first next) → IsGood first × IsGood next
both_good (Good sizes) next h = ((sizes, refl), good_with_sizes sizes next h)
both_good (Bad sizes block where_ why) next h = absurd (bad_is_not_good sizes block where_ why h)

gives_parts_at : {A B : Type 0} (sizes : List ℕ) (e : Ends A) (next : A → Course B) (b : B) → (after_ends sizes e next).ends ≡ Gives b
    → (a : A) × (e ≡ Gives a) × ((next a).ends ≡ Gives b)
gives_parts_at sizes (Refuses r) next b h = absurd (cc)
gives_parts_at sizes (Gives a) next b h = (a, refl, h)

-- a course of two that gives something: both do
pub gives_parts : {A B : Type 0} (c : Course A) (next : A → Course B) (b : B) → (and_then c next).ends ≡ Gives b
    → (a : A) × (c.ends ≡ Gives a) × ((next a).ends ≡ Gives b)
gives_parts c next b h = gives_parts_at c.sizes c.ends next b h

-- a test that passes found no fault
pub no_fault : {A : Type 0} (o : Option Reason) (a b : A) → (tested o a).ends ≡ Gives b → (o ≡ None) × (a ≡ b)
no_fault None a b h = (refl, cc)
no_fault (Some r) a b h = absurd (cc)

-- the facts of a side with each of these in turn
abbrev pub with_all : Side → List Fact → Assertion → Assertion
with_all Src fs known = record known { src = with_facts fs known.src }
with_all Tgt fs known = record known { tgt = with_facts fs known.tgt }

pub adds_all_ends : (side : Side) (fs : List Fact) (known : Assertion) → (adds_all side fs known).ends ≡ Gives (with_all side fs known)
adds_all_ends Src [] known = refl
adds_all_ends Tgt [] known = refl
adds_all_ends Src (f ∷ fs) known = adds_all_ends Src fs (with_conclusion Src f known)
adds_all_ends Tgt (f ∷ fs) known = adds_all_ends Tgt fs (with_conclusion Tgt f known)

-- the facts after the line of one side
abbrev pub known_after : List NamedTy → Bool → Side → Option Instr → Assertion → Assertion
known_after types one_sided side o known = on_side side (facts_after types one_sided o) known

ends_within : {A : Type 0} (b : Bool) (e : Ends A) (a : A) → cond b None (Some e) ≡ Some (Gives a) → e ≡ Gives a
ends_within true e a h = absurd (cc)
ends_within false e a h = cc

diff_kept : (side : Side) (change : List Fact → List Fact) (known after : Assertion) → Gives (on_side side change known) ≡ Gives after → after.diff ≡ known.diff
diff_kept Src change known after h = cc
diff_kept Tgt change known after h = cc

side_ends : (types : List NamedTy) (one_sided : Bool) (side : Side) (o : Option Instr) (known : Assertion)
    → (over_side types one_sided side o known).ends ≡ Gives (known_after types one_sided side o known)
side_ends types one_sided Src None known = refl
side_ends types one_sided Tgt None known = refl
side_ends types one_sided Src (Some l) known = adds_all_ends Src (line_adds types one_sided l) (on_side Src (all_killed (line_kills l)) known)
side_ends types one_sided Tgt (Some l) known = adds_all_ends Tgt (line_adds types one_sided l) (on_side Tgt (all_killed (line_kills l)) known)

-- the registers that may differ stay as facts are added
pub side_keeps_diff : (types : List NamedTy) (one_sided : Bool) (side : Side) (o : Option Instr) (known after : Assertion)
    → within (over_side types one_sided side o known) ≡ Some (Gives after) → after.diff ≡ known.diff
side_keeps_diff types one_sided side o known after h =
    let course : Course Assertion = over_side types one_sided side o known in
    diff_kept side (facts_after types one_sided o) known after
    (sym (side_ends types one_sided side o known) ∙ ends_within (are_too_many course.sizes) course.ends after h)

pub then_ends : {A B : Type 0} (c : Course A) (a : A) (next : A → Course B) → c.ends ≡ Gives a → (and_then c next).ends ≡ (next a).ends
then_ends c a next h = ap (λ e. (after_ends c.sizes e next).ends) h

-- over an aligned line that is allowed a course comes to what is known after it
pub allowed_ends : (types : List NamedTy) (l : Line) (known : Assertion) → (over_allowed types l known).ends ≡ Gives (after_line types known l)
allowed_ends types l known =
    let source : Assertion → Course Assertion = over_side types (is_none l.target) Src l.source in
    let target : Assertion → Course Assertion = over_side types (is_none l.source) Tgt l.target in
    let half : Assertion = known_after types (is_none l.target) Src l.source known in
    let last : Assertion → Course Assertion = λ after. gives (record after { diff = diff_after known l.source l.target }) in
    then_ends (source known) half (λ k. and_then (target k) last) (side_ends types (is_none l.target) Src l.source known)
    ∙ then_ends (target half) (known_after types (is_none l.source) Tgt l.target half) last (side_ends types (is_none l.source) Tgt l.target half)

module _ (types : List NamedTy) (l : Line) (known : Assertion) where
  abbrev over_tested : Option Reason → Course Assertion
  over_tested o = and_then (tested o known) (over_allowed types l)

  pub line_allowed : line_fault types known l ≡ None → over_line types l known ≡ over_allowed types l known
  line_allowed h = ap over_tested h

  -- one that isn't allowed is refused before anything is added
  pub line_refused : (r : Reason) → line_fault types known l ≡ Some r → over_line types l known ≡ refuses r
  line_refused r h = ap over_tested h

  pub line_ends : line_fault types known l ≡ None → (over_line types l known).ends ≡ Gives (after_line types known l)
  line_ends h = ap (λ (c : Course Assertion). c.ends) (line_allowed h) ∙ allowed_ends types l known

  -- what a line gives is known after it, and the line is allowed
  pub line_gives : (after : Assertion) → (over_line types l known).ends ≡ Gives after → (line_fault types known l ≡ None) × (after ≡ after_line types known l)
  line_gives after h =
      let parts = gives_parts (tested (line_fault types known l) known) (over_allowed types l) after h in
      let test = no_fault (line_fault types known l) known parts.0 parts.1 in
      let e : Gives after ≡ Gives (after_line types known l) = sym h ∙ line_ends test.0 in
      (test.0, cc)
