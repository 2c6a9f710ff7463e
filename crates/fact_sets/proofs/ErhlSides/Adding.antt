-- A fact that is added, within the limit on facts.
use Rattle.std.proofs.Common.{◌≡◌, ◌∙◌, ◌+◌, ◌||◌, ℕ, Bool, true, false, not, nat_lt, cond, List, [], ◌∷◌, ◌++◌, length, length-append, None, Some, refl, sym, ap, arith}
use Rattle.ir_core.specs.Limits.{fact_limit}
use Rattle.erhl_assert.specs.declared.facts.Fact.{Fact}
use Rattle.erhl_assert.specs.declared.facts.Assertion.{Assertion}
use Rattle.erhl_assert.specs.declared.facts.Side.{Side}
use Rattle.erhl_assert.specs.declared.facts.Side.TheVariants.{Src, Tgt}
use Rattle.erhl_assert.specs.Facts.{has_fact, with_fact}
use Rattle.erhl_assert.specs.Course.{Ends, Gives, within}
use Rattle.erhl_assert.specs.Growth.{adds, facts_of, size, with_conclusion}
use Rattle.fact_sets.specs.ErhlSides.Beside.{adds_beside}

one_more : (fs : List Fact) (f : Fact) → length (fs ++ f ∷ []) ≡ length fs + 1
one_more fs f = length-append fs (f ∷ [])

same_count : (f : Fact) (fs : List Fact) → length (with_fact f fs) ≡ length fs → has_fact f fs ≡ true
same_count f fs =
    elim (has_fact f fs) as (λ b. length (cond b fs (fs ++ f ∷ [])) ≡ length fs → b ≡ true) [
      | true ↦ λ h. refl
      | false ↦ λ h. absurd (omega (arith, h, one_more fs f))
    ]

other_count : (f : Fact) (fs : List Fact) → (length (with_fact f fs) ≡ length fs → ⊥) → has_fact f fs ≡ false
other_count f fs =
    elim (has_fact f fs) as (λ b. (length (cond b fs (fs ++ f ∷ [])) ≡ length fs → ⊥) → b ≡ false) [
      | true ↦ λ h. absurd (h refl)
      | false ↦ λ h. refl
    ]

is_there : (side : Side) (f : Fact) (known : Assertion) → length (facts_of side (with_conclusion side f known)) ≡ length (facts_of side known) → has_fact f (facts_of side known) ≡ true
is_there Src f known h = same_count f known.src h
is_there Tgt f known h = same_count f known.tgt h

is_new : (side : Side) (f : Fact) (known : Assertion) → (length (facts_of side (with_conclusion side f known)) ≡ length (facts_of side known) → ⊥) → has_fact f (facts_of side known) ≡ false
is_new Src f known h = other_count f known.src h
is_new Tgt f known h = other_count f known.tgt h

few_of : (b : Bool) (e : Ends Assertion) → cond (b || false) None (Some e) ≡ cond (not b) (Some e) None
few_of true e = refl
few_of false e = refl

-- No more facts are known than before, so it was there.
pub there_already : (side : Side) (f : Fact) (known after : Assertion) → after ≡ with_conclusion side f known
    → length (facts_of side after) ≡ length (facts_of side known)
    → within (adds side f known) ≡ Some (Gives after)
there_already side f known after e count =
    let h = is_there side f known (sym (ap (λ a. length (facts_of side a)) e) ∙ count) in
    ap (λ b. within (record { sizes = cond b [] (size (with_conclusion side f known) ∷ []); ends = Gives (with_conclusion side f known) })) h
    ∙ ap (λ a. Some (Gives a)) (sym e)

-- More facts are known than before.
pub added_within : (side : Side) (f : Fact) (known after : Assertion) → after ≡ with_conclusion side f known
    → (length (facts_of side after) ≡ length (facts_of side known) → ⊥)
    → within (adds side f known) ≡ cond (not (nat_lt fact_limit (size after))) (Some (Gives after)) None
added_within side f known after e count =
    let h = is_new side f known (λ same. count (ap (λ a. length (facts_of side a)) e ∙ same)) in
    ap (λ b. within (record { sizes = cond b [] (size (with_conclusion side f known) ∷ []); ends = Gives (with_conclusion side f known) })) h
    ∙ few_of (nat_lt fact_limit (size (with_conclusion side f known))) (Gives (with_conclusion side f known))
    ∙ ap (λ a. cond (not (nat_lt fact_limit (size a))) (Some (Gives a)) None) (sym e)

-- ---- beside others
few_beside : (b : Bool) (e : Ends Assertion) → cond (b || false) None (Some e) ≡ cond (not b) (Some e) None
few_beside true e = refl
few_beside false e = refl

pub there_already_beside : (others : ℕ) (side : Side) (f : Fact) (known after : Assertion) → after ≡ with_conclusion side f known
    → length (facts_of side after) ≡ length (facts_of side known)
    → within (adds_beside others side f known) ≡ Some (Gives after)
there_already_beside others side f known after e count =
    let h = is_there side f known (sym (ap (λ a. length (facts_of side a)) e) ∙ count) in
    ap (λ b. within (record { sizes = cond b [] ((size (with_conclusion side f known) + others) ∷ []); ends = Gives (with_conclusion side f known) })) h
    ∙ ap (λ a. Some (Gives a)) (sym e)

pub added_beside : (others : ℕ) (side : Side) (f : Fact) (known after : Assertion) → after ≡ with_conclusion side f known
    → (length (facts_of side after) ≡ length (facts_of side known) → ⊥)
    → within (adds_beside others side f known) ≡ cond (not (nat_lt fact_limit (size after + others))) (Some (Gives after)) None
added_beside others side f known after e count =
    let h = is_new side f known (λ same. count (ap (λ a. length (facts_of side a)) e ∙ same)) in
    ap (λ b. within (record { sizes = cond b [] ((size (with_conclusion side f known) + others) ∷ []); ends = Gives (with_conclusion side f known) })) h
    ∙ few_beside (nat_lt fact_limit (size (with_conclusion side f known) + others)) (Gives (with_conclusion side f known))
    ∙ ap (λ a. cond (not (nat_lt fact_limit (size a + others))) (Some (Gives a)) None) (sym e)
