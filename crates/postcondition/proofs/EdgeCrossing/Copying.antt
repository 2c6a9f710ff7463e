-- Facts that are added over an edge, within the limit on facts.
use Rattle.std.proofs.Common.{◌≡◌, ◌∙◌, ℕ, ◌+◌, Bool, true, false, cond, not, List, [], ◌∷◌, ◌++◌, drop, Option, None, Some, Result, refl, sym, ap, subst}
use Rattle.std.specs.Prelude.{slice_get}
use Rattle.std.specs.List.{filter_map}
use Rattle.std.proofs.lemmas.List.Elements.{filter_map-append}
use Rattle.std.specs.Option.{option_to_list}
use Rattle.ir_types.specs.declared.names.Name.{Name}
use Rattle.ir_core.specs.declared.functions.Entry.{Entry}
use Rattle.ir_core.specs.declared.functions.Phi.{Phi}
use Rattle.ir_machine.specs.Machine.{entry_from}
use Rattle.erhl_assert.specs.declared.facts.Fact.{Fact}
use Rattle.erhl_assert.specs.declared.facts.Fact.TheVariants.{LessDef, Unique, Private, NoAlias, Ok}
use Rattle.erhl_assert.specs.declared.facts.Assertion.{Assertion}
use Rattle.erhl_assert.specs.declared.facts.Side.{Side}
use Rattle.erhl_assert.specs.Facts.{fact_has, without}
use Rattle.erhl_assert.specs.Edges.{is_old, as_old, phi_fact, phi_facts}
use Rattle.erhl_assert.specs.Course.{Ends, Refuses, Gives, and_then, within}
use Rattle.erhl_assert.specs.Growth.{adds, adds_all}
use Rattle.erhl_assert.proofs.Courses.{going_on, within_then, within_more, within_none}
use Rattle.fact_sets.specs.ErhlSides.Beside.{adds_beside, adds_all_beside}
use Rattle.fact_sets.proofs.ErhlSides.Once.{filter_append}
use Rattle.fact_sets.specs.declared.added_facts.ends.AddEnd.{AddEnd}
use Rattle.fact_sets.specs.AddedFacts.Ends.{Follows}
use Rattle.postcondition.specs.EdgeCrossing.Crossing.{at_place, copies}
use Rattle.postcondition.proofs.EdgeCrossing.Staying.{split}

-- ---- one list of facts after the other
chained : {A : Type 0} (o : Option (Ends A)) (f g : A → Option (Ends A)) (next : A → Option (Ends A)) → ((a : A) → f a ≡ going_on (g a) next)
    → going_on o f ≡ going_on (going_on o g) next
chained None f g next h = refl
chained (Some (Refuses r)) f g next h = refl
chained (Some (Gives a)) f g next h = h a

beside_two : (n : ℕ) (side : Side) (fs gs : List Fact) (known : Assertion)
    → within (adds_all_beside n side (fs ++ gs) known) ≡ going_on (within (adds_all_beside n side fs known)) (λ a. within (adds_all_beside n side gs a))
beside_two n side [] gs known = refl
beside_two n side (f ∷ fs) gs known =
    within_then (adds_beside n side f known) (adds_all_beside n side (fs ++ gs))
    ∙ chained (within (adds_beside n side f known)) (λ a. within (adds_all_beside n side (fs ++ gs) a)) (λ a. within (adds_all_beside n side fs a)) (λ a. within (adds_all_beside n side gs a)) (λ a. beside_two n side fs gs a)
    ∙ ap (λ o. going_on o (λ a. within (adds_all_beside n side gs a))) (sym (within_then (adds_beside n side f known) (adds_all_beside n side fs)))

pub all_two : (side : Side) (fs gs : List Fact) (known : Assertion)
    → within (adds_all side (fs ++ gs) known) ≡ going_on (within (adds_all side fs known)) (λ a. within (adds_all side gs a))
all_two side [] gs known = refl
all_two side (f ∷ fs) gs known =
    within_then (adds side f known) (adds_all side (fs ++ gs))
    ∙ chained (within (adds side f known)) (λ a. within (adds_all side (fs ++ gs) a)) (λ a. within (adds_all side fs a)) (λ a. within (adds_all side gs a)) (λ a. all_two side fs gs a)
    ∙ ap (λ o. going_on o (λ a. within (adds_all side gs a))) (sym (within_then (adds side f known) (adds_all side fs)))

-- ---- copies
module _ (n : ℕ) (side : Side) (f : Fact) (known after : Assertion) (few : Bool) where
  pub one_added : few ≡ true → within (adds_beside n side f known) ≡ cond few (Some (Gives after)) None → within (adds_all_beside n side (f ∷ []) known) ≡ Some (Gives after)
  one_added e h = within_more (adds_beside n side f known) (adds_all_beside n side []) after (h ∙ ap (λ b. cond b (Some (Gives after)) None) e)

  pub one_too_many : few ≡ false → within (adds_beside n side f known) ≡ cond few (Some (Gives after)) None → within (adds_all_beside n side (f ∷ []) known) ≡ None
  one_too_many e h = within_none (adds_beside n side f known) (adds_all_beside n side []) (h ∙ ap (λ b. cond b (Some (Gives after)) None) e)

copies_append : (fs gs : List Fact) → copies (fs ++ gs) ≡ copies fs ++ copies gs
copies_append fs gs =
    ap (filter_map as_old) (filter_append (λ f. not (fact_has is_old f)) fs gs) ∙ filter_map-append as_old (without is_old fs) (without is_old gs)

one_copy : (f : Fact) → option_to_list (as_old f) ≡ filter_map as_old (f ∷ [])
one_copy (LessDef a b) = refl
one_copy (NoAlias a b) = refl
one_copy (Ok e t align) = refl
one_copy (Unique r) = refl
one_copy (Private r) = refl

module _ (k : ℕ) (fs : List Fact) where
  pub copied_here : (f : Fact) → Some f ≡ slice_get fs k → fact_has is_old f ≡ false → option_to_list (as_old f) ≡ copies (at_place k fs)
  copied_here f e h = one_copy f ∙ ap (λ b. filter_map as_old (cond (not b) (f ∷ []) [])) (sym h) ∙ ap (λ o. copies (option_to_list o)) e

  pub not_copied : (f : Fact) → Some f ≡ slice_get fs k → fact_has is_old f ≡ true → [] ≡ copies (at_place k fs)
  not_copied f e h = ap (λ b. filter_map as_old (cond (not b) (f ∷ []) [])) (sym h) ∙ ap (λ o. copies (option_to_list o)) e

  pub nothing_copied : None ≡ slice_get fs k → [] ≡ copies (at_place k fs)
  nothing_copied e = ap (λ o. copies (option_to_list o)) e

  module _ (n : ℕ) (side : Side) (known : Assertion) where
    parted : within (adds_all_beside n side (copies (drop k fs)) known)
        ≡ going_on (within (adds_all_beside n side (copies (at_place k fs)) known)) (λ a. within (adds_all_beside n side (copies (drop (k + 1) fs)) a))
    parted =
        ap (λ gs. within (adds_all_beside n side gs known)) (ap copies (split k fs) ∙ copies_append (at_place k fs) (drop (k + 1) fs))
        ∙ beside_two n side (copies (at_place k fs)) (copies (drop (k + 1) fs)) known

    pub copied_on : (after : Assertion) (all : Option (Ends Assertion)) → within (adds_all_beside n side (copies (drop k fs)) known) ≡ all
        → within (adds_all_beside n side (copies (at_place k fs)) known) ≡ Some (Gives after)
        → within (adds_all_beside n side (copies (drop (k + 1) fs)) after) ≡ all
    copied_on after all so_far h = ap (λ o. going_on o (λ a. within (adds_all_beside n side (copies (drop (k + 1) fs)) a))) (sym h) ∙ sym parted ∙ so_far

    pub copied_over : (all : Option (Ends Assertion)) → within (adds_all_beside n side (copies (drop k fs)) known) ≡ all
        → within (adds_all_beside n side (copies (at_place k fs)) known) ≡ None → all ≡ None
    copied_over all so_far h = sym so_far ∙ parted ∙ ap (λ o. going_on o (λ a. within (adds_all_beside n side (copies (drop (k + 1) fs)) a))) h

-- ---- facts of phis
same_on : {A : Type 0} (o : Option (Ends A)) (f g : A → Option (Ends A)) → ((a : A) → f a ≡ g a) → going_on o f ≡ going_on o g
same_on None f g h = refl
same_on (Some (Refuses r)) f g h = refl
same_on (Some (Gives a)) f g h = h a

ended : {A : Type 0} (o : Option (Ends A)) → o ≡ going_on o (λ a. Some (Gives a))
ended None = refl
ended (Some (Refuses r)) = refl
ended (Some (Gives a)) = refl

pub both_added : (side : Side) (f g : Fact) (known : Assertion) → within (and_then (adds side f known) (adds side g)) ≡ within (adds_all side (f ∷ g ∷ []) known)
both_added side f g known =
    within_then (adds side f known) (adds side g)
    ∙ same_on (within (adds side f known)) (λ a. within (adds side g a)) (λ a. within (adds_all side (g ∷ []) a)) (λ a. ended (within (adds side g a)) ∙ sym (within_then (adds side g a) (adds_all side [])))
    ∙ sym (within_then (adds side f known) (adds_all side (g ∷ [])))

module _ (side : Side) (from : Name) (p : Phi) (ps : List Phi) (known : Assertion) (all : Option (Ends Assertion)) (so_far : within (adds_all side (phi_facts from (p ∷ ps)) known) ≡ all) where
  phi_parted : within (adds_all side (phi_facts from (p ∷ ps)) known)
      ≡ going_on (within (adds_all side (phi_fact p (entry_from from p.entries)) known)) (λ a. within (adds_all side (phi_facts from ps) a))
  phi_parted = all_two side (phi_fact p (entry_from from p.entries)) (phi_facts from ps) known

  pub phi_on : (after : Assertion) → within (adds_all side (phi_fact p (entry_from from p.entries)) known) ≡ Some (Gives after) → within (adds_all side (phi_facts from ps) after) ≡ all
  phi_on after h = ap (λ o. going_on o (λ a. within (adds_all side (phi_facts from ps) a))) (sym h) ∙ sym phi_parted ∙ so_far

  pub phi_over : within (adds_all side (phi_fact p (entry_from from p.entries)) known) ≡ None → all ≡ None
  phi_over h = sym so_far ∙ phi_parted ∙ ap (λ o. going_on o (λ a. within (adds_all side (phi_facts from ps) a))) h

-- what a phi adds, by the entry that is found
pub entry_found : {X : Type 0} (side : Side) (p : Phi) (found all : Option Entry) → found ≡ all → (came : Result X AddEnd) (known after : Assertion)
    → Follows came after (adds_all side (phi_fact p found) known) → Follows came after (adds_all side (phi_fact p all) known)
entry_found side p found all e came known after is = subst (λ (o : Option Entry). Follows came after (adds_all side (phi_fact p o) known)) e is
