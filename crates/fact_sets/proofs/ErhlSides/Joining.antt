-- What is told of sets of facts: where none is between two operands, that each stands once, and which are near.
use Rattle.std.proofs.Common.{◌≡◌, ◌∙◌, Bool, true, false, ◌||◌, cond, filter, List, [], ◌∷◌, ◌++◌, refl, sym, ap, subst}
use Rattle.std.proofs.lemmas.Bool.{false≢true}
use Rattle.std.proofs.lemmas.List.Folds.{list_any-append}
use Rattle.std.specs.List.{list_any}
use Rattle.ir_types.specs.declared.names.Name.{Name}
use Rattle.erhl_assert.specs.declared.facts.Fact.{Fact}
use Rattle.erhl_assert.specs.declared.fact_set.Kill.{Kill}
use Rattle.erhl_assert.specs.Facts.{has_fact, with_fact, with_facts}
use Rattle.erhl_assert.specs.Kills.{killed}
use Rattle.fact_sets.specs.declared.near_facts.NearFacts.{NearFacts}
use Rattle.fact_sets.specs.Near.{near_in, HasAllNear, AreNear}
use Rattle.fact_sets.proofs.Nearness.{fewer_near}
use Rattle.fact_sets.specs.ErhlSides.Joining.{joins, says_unique, AreTold, AreNearIf, MayBeUnique}
use Rattle.fact_sets.proofs.ErhlSides.Once.{one_once, kept_by, killed_is, killed_once}

pub neither : (a b : Bool) → (a || b) ≡ false → (a ≡ false) × (b ≡ false)
neither true b h = absurd (false≢true (sym h))
neither false b h = (refl, h)

both_false : (a b : Bool) → a ≡ false → b ≡ false → (a || b) ≡ false
both_false true b h k = absurd (false≢true (sym h))
both_false false b h k = k

-- ---- what is told of a set
pub none_told : (may is : Bool) (fs : List Fact) → fs ≡ [] → AreTold may is fs
unfolding AreTold
none_told may is fs none = (λ h. ap (list_any joins) none, λ h. ap (λ gs. with_facts gs []) none ∙ sym none)

pub told : (may is : Bool) (fs : List Fact) → AreTold may is fs → may ≡ false → list_any joins fs ≡ false
unfolding AreTold
told may is fs are = are.0

pub whole : (may is : Bool) (fs : List Fact) → AreTold may is fs → is ≡ true → with_facts fs [] ≡ fs
unfolding AreTold
whole may is fs are = are.1

pub all_told : (may is : Bool) (fs : List Fact) → may ≡ true → is ≡ false → AreTold may is fs
unfolding AreTold
all_told may is fs all none = (λ h. absurd (false≢true (sym h ∙ all)), λ h. absurd (false≢true (sym none ∙ h)))

pub added : (p : Fact → Bool) (f : Fact) (fs : List Fact) → list_any p fs ≡ false → p f ≡ false → list_any p (with_fact f fs) ≡ false
added p f fs h k = elim (has_fact f fs) as (λ b. list_any p (cond b fs (fs ++ f ∷ [])) ≡ false) [
  | true ↦ h
  | false ↦ list_any-append p fs (f ∷ []) ∙ both_false (list_any p fs) (p f || false) h (both_false (p f) false k refl)
]

pub one_told : (may is before : Bool) (f : Fact) (fs gs : List Fact) → AreTold before is fs → may ≡ (before || joins f) → gs ≡ with_fact f fs → AreTold may is gs
unfolding AreTold
one_told may is before f fs gs are e e' = (
  λ h. let two = neither before (joins f) (sym e ∙ h) in ap (list_any joins) e' ∙ added joins f fs (are.0 two.0) two.1,
  λ h. ap (λ hs. with_facts hs []) e' ∙ one_once f fs (are.1 h) ∙ sym e',
)

pub filtered : (p q : Fact → Bool) (fs : List Fact) → list_any p fs ≡ false → list_any p (filter q fs) ≡ false
filtered p q [] h = refl
filtered p q (f ∷ fs) h =
    let two = neither (p f) (list_any p fs) h in
    elim (q f) as (λ b. list_any p (cond b (f ∷ filter q fs) (filter q fs)) ≡ false) [
      | true ↦ both_false (p f) (list_any p (filter q fs)) two.0 (filtered p q fs two.1)
      | false ↦ filtered p q fs two.1
    ]

killed_none : (p : Fact → Bool) (k : Kill) (fs : List Fact) → list_any p fs ≡ false → list_any p (killed k fs) ≡ false
killed_none p k fs h = ap (list_any p) (killed_is k fs) ∙ filtered p (kept_by k fs) fs h

pub left_told : (may is : Bool) (k : Kill) (fs gs : List Fact) → AreTold may is fs → gs ≡ killed k fs → AreTold may is gs
unfolding AreTold
left_told may is k fs gs are e = (
  λ h. ap (list_any joins) e ∙ killed_none joins k fs (are.0 h),
  λ h. ap (λ hs. with_facts hs []) e ∙ killed_once k fs (are.1 h) ∙ sym e,
)

-- ---- that a register is unique
pub none_unique : (may : Bool) (fs : List Fact) → fs ≡ [] → MayBeUnique may fs
unfolding MayBeUnique
none_unique may fs none = λ h. ap (list_any says_unique) none

pub told_unique : (may : Bool) (fs : List Fact) → MayBeUnique may fs → may ≡ false → list_any says_unique fs ≡ false
unfolding MayBeUnique
told_unique may fs are = are

-- also where the fact isn't added
pub more_unique : (may before : Bool) (f : Fact) (fs gs : List Fact) → MayBeUnique before fs → may ≡ (before || says_unique f) → gs ≡ fs → MayBeUnique may gs
unfolding MayBeUnique
more_unique may before f fs gs are e e' = λ h. ap (list_any says_unique) e' ∙ are ((neither before (says_unique f) (sym e ∙ h)).0)

pub one_unique : (may before : Bool) (f : Fact) (fs gs : List Fact) → MayBeUnique before fs → may ≡ (before || says_unique f) → gs ≡ with_fact f fs → MayBeUnique may gs
unfolding MayBeUnique
one_unique may before f fs gs are e e' =
    λ h. let two = neither before (says_unique f) (sym e ∙ h) in ap (list_any says_unique) e' ∙ added says_unique f fs (are two.0) two.1

pub left_unique : (may : Bool) (k : Kill) (fs gs : List Fact) → MayBeUnique may fs → gs ≡ killed k fs → MayBeUnique may gs
unfolding MayBeUnique
left_unique may k fs gs are e = λ h. ap (list_any says_unique) e ∙ killed_none says_unique k fs (are h)

-- ---- what is near
pub none_near_told : (is : Bool) (near : NearFacts) (fs : List Fact) → fs ≡ [] → AreNear near [] → AreNearIf is near fs
unfolding AreNearIf
none_near_told is near fs none are = λ h. subst (AreNear near) (sym none) are

pub nothing_near : (is : Bool) (near : NearFacts) (fs : List Fact) → is ≡ false → AreNearIf is near fs
unfolding AreNearIf
nothing_near is near fs none = λ h. absurd (false≢true (sym none ∙ h))

pub there_near : (f : Fact) (near : NearFacts) (fs : List Fact) → has_fact f fs ≡ true → AreNear near fs → AreNear near (with_fact f fs)
there_near f near fs h are = subst (AreNear near) (sym (ap (λ b. cond b fs (fs ++ f ∷ [])) h)) are

pub one_near : (is : Bool) (few many : NearFacts) (f : Fact) (fs gs : List Fact) → AreNearIf is few fs → (AreNear few fs → AreNear many (with_fact f fs)) → gs ≡ with_fact f fs → AreNearIf is many gs
unfolding AreNearIf
one_near is few many f fs gs are more e = λ h. subst (AreNear many) (sym e) (more (are h))

pub left_near : (is : Bool) (near : NearFacts) (k : Kill) (fs gs : List Fact) → AreNearIf is near fs → gs ≡ killed k fs → AreNearIf is near gs
unfolding AreNearIf
left_near is near k fs gs are e = λ h. subst (AreNear near) (sym (e ∙ killed_is k fs)) (fewer_near near (kept_by k fs) fs (are h))

pub all_near : (is : Bool) (near : NearFacts) (x : Name) (kept fs gs : List Fact) → AreNearIf is near fs → is ≡ true → kept ≡ near_in near x → gs ≡ fs → HasAllNear x kept gs
unfolding AreNearIf AreNear
all_near is near x kept fs gs are h e e' = λ f k n. subst (λ hs. has_fact f hs ≡ true) (sym e) (are h x f (ap (has_fact f) (sym e') ∙ k) n)
