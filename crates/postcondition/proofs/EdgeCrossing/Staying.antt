-- Facts that stay over an edge, and how many go.
use Rattle.std.proofs.Common.{◌≡◌, ◌∙◌, ℕ, ◌+◌, ◌≤◌, Bool, true, false, ◌&&◌, cond, not, filter, List, [], ◌∷◌, ◌++◌, length, drop, None, Some, refl, sym, ap, arith, length-append}
use Rattle.std.specs.Prelude.{slice_get}
use Rattle.std.specs.Option.{option_to_list}
use Rattle.ir_types.specs.declared.names.Name.{Name}
use Rattle.ir_core.specs.declared.functions.Phi.{Phi}
use Rattle.erhl_assert.specs.declared.facts.Fact.{Fact}
use Rattle.erhl_assert.specs.declared.facts.Assertion.{Assertion}
use Rattle.erhl_assert.specs.declared.facts.Side.{Side}
use Rattle.erhl_assert.specs.declared.facts.Side.TheVariants.{Src, Tgt}
use Rattle.erhl_assert.specs.Facts.{fact_has, with_facts, without, on_side}
use Rattle.erhl_assert.specs.Edges.{is_old}
use Rattle.erhl_assert.specs.Growth.{with_conclusion}
use Rattle.fact_sets.proofs.ErhlSides.Once.{left_once, filter_append, with_more}
use Rattle.fact_sets.proofs.ErhlSides.Walked.{from_here, from_nowhere}
use Rattle.postcondition.specs.EdgeCrossing.Crossing.{at_place, goes, is_taken, stays}

-- the fact of a number, and those behind it
pub split : (k : ℕ) (fs : List Fact) → drop k fs ≡ at_place k fs ++ drop (k + 1) fs
split k fs =
    (elim (slice_get fs k) as (λ o. slice_get fs k ≡ o → drop k fs ≡ option_to_list o ++ drop (k + 1) fs) [
      | None ↦ λ e. from_nowhere (λ (gs : List Fact). gs) k fs e
      | Some f ↦ λ e. from_here (λ (gs : List Fact). gs) k fs f e
    ]) refl

-- ---- how many go
module _ (from : Name) (ps : List Phi) (k : ℕ) (fs : List Fact) where
  pub gone_here : (f : Fact) → Some f ≡ slice_get fs k → goes from ps f ≡ true → 1 ≡ length (filter (goes from ps) (at_place k fs))
  gone_here f e h = ap (λ b. length (cond b (f ∷ []) [])) (sym h) ∙ ap (λ o. length (filter (goes from ps) (option_to_list o))) e

  pub not_gone_here : (f : Fact) → Some f ≡ slice_get fs k → goes from ps f ≡ false → 0 ≡ length (filter (goes from ps) (at_place k fs))
  not_gone_here f e h = ap (λ b. length (cond b (f ∷ []) [])) (sym h) ∙ ap (λ o. length (filter (goes from ps) (option_to_list o))) e

  pub none_here : None ≡ slice_get fs k → 0 ≡ length (filter (goes from ps) (at_place k fs))
  none_here e = ap (λ o. length (filter (goes from ps) (option_to_list o))) e

  parted : length (filter (goes from ps) (drop k fs)) ≡ length (filter (goes from ps) (at_place k fs)) + length (filter (goes from ps) (drop (k + 1) fs))
  parted =
      ap (λ gs. length (filter (goes from ps) gs)) (split k fs)
      ∙ ap length (filter_append (goes from ps) (at_place k fs) (drop (k + 1) fs))
      ∙ length-append (filter (goes from ps) (at_place k fs)) (filter (goes from ps) (drop (k + 1) fs))

  pub gone_on : (gone one all : ℕ) → gone + length (filter (goes from ps) (drop k fs)) ≡ all → one ≡ length (filter (goes from ps) (at_place k fs))
      → (gone + one) + length (filter (goes from ps) (drop (k + 1) fs)) ≡ all
  gone_on gone one all so_far e = omega (arith, so_far, e, parted)

  pub gone_within : (gone one all : ℕ) → gone + length (filter (goes from ps) (drop k fs)) ≡ all → one ≡ length (filter (goes from ps) (at_place k fs)) → gone + one ≤ all
  gone_within gone one all so_far e = omega (arith, so_far, e, parted)

pub no_more : (q : Fact → Bool) (fs : List Fact) → length (filter q fs) ≤ length fs
no_more q [] = omega arith
no_more q (f ∷ fs) = elim (q f) as (λ b. length (cond b (f ∷ filter q fs) (filter q fs)) ≤ length (f ∷ fs)) [
  | true ↦ omega (arith, no_more q fs)
  | false ↦ omega (arith, no_more q fs)
]

-- ---- what stays
pub put_none : (side : Side) (known : Assertion) → known ≡ on_side side (with_facts []) known
put_none Src known = refl
put_none Tgt known = refl

put_one : (side : Side) (f : Fact) (known : Assertion) → with_conclusion side f known ≡ on_side side (with_facts (f ∷ [])) known
put_one Src f known = refl
put_one Tgt f known = refl

put_two : (side : Side) (fs gs : List Fact) (known : Assertion) → on_side side (with_facts gs) (on_side side (with_facts fs) known) ≡ on_side side (with_facts (fs ++ gs)) known
put_two Src fs gs known = ap (λ hs. record known { src = hs }) (sym (with_more fs gs known.src))
put_two Tgt fs gs known = ap (λ hs. record known { tgt = hs }) (sym (with_more fs gs known.tgt))

module _ (from : Name) (ps : List Phi) (k : ℕ) (fs : List Fact) (side : Side) (known : Assertion) where
  pub stays_here : (f : Fact) → Some f ≡ slice_get fs k → stays from ps f ≡ true → with_conclusion side f known ≡ on_side side (with_facts (filter (stays from ps) (at_place k fs))) known
  stays_here f e h =
      put_one side f known
      ∙ ap (λ b. on_side side (with_facts (cond b (f ∷ []) [])) known) (sym h)
      ∙ ap (λ o. on_side side (with_facts (filter (stays from ps) (option_to_list o))) known) e

  pub doesnt_stay : (f : Fact) → Some f ≡ slice_get fs k → stays from ps f ≡ false → known ≡ on_side side (with_facts (filter (stays from ps) (at_place k fs))) known
  doesnt_stay f e h =
      put_none side known
      ∙ ap (λ b. on_side side (with_facts (cond b (f ∷ []) [])) known) (sym h)
      ∙ ap (λ o. on_side side (with_facts (filter (stays from ps) (option_to_list o))) known) e

  pub nothing_stays : None ≡ slice_get fs k → known ≡ on_side side (with_facts (filter (stays from ps) (at_place k fs))) known
  nothing_stays e = put_none side known ∙ ap (λ o. on_side side (with_facts (filter (stays from ps) (option_to_list o))) known) e

  pub more_put : (after all : Assertion) → after ≡ on_side side (with_facts (filter (stays from ps) (at_place k fs))) known
      → on_side side (with_facts (filter (stays from ps) (drop k fs))) known ≡ all
      → on_side side (with_facts (filter (stays from ps) (drop (k + 1) fs))) after ≡ all
  more_put after all e so_far =
      ap (on_side side (with_facts (filter (stays from ps) (drop (k + 1) fs)))) e
      ∙ put_two side (filter (stays from ps) (at_place k fs)) (filter (stays from ps) (drop (k + 1) fs)) known
      ∙ ap (λ gs. on_side side (with_facts gs) known) (sym (ap (filter (stays from ps)) (split k fs) ∙ filter_append (stays from ps) (at_place k fs) (drop (k + 1) fs)))
      ∙ so_far

pub all_stay : (from : Name) (ps : List Phi) (fs : List Fact) → with_facts fs [] ≡ fs → with_facts (filter (stays from ps) fs) [] ≡ filter (stays from ps) fs
all_stay from ps fs once = left_once (stays from ps) fs once

-- what stays is what the phis leave of the facts without those of old registers
pub left_in_turn : (from : Name) (ps : List Phi) (fs : List Fact) → filter (stays from ps) fs ≡ filter (λ f. not (is_taken from ps f)) (without is_old fs)
left_in_turn from ps [] = refl
left_in_turn from ps (f ∷ fs) =
    elim (fact_has is_old f) as (λ b. cond (not b && not (is_taken from ps f)) (f ∷ filter (stays from ps) fs) (filter (stays from ps) fs)
    ≡ filter (λ g. not (is_taken from ps g)) (cond (not b) (f ∷ without is_old fs) (without is_old fs))) [
      | true ↦ left_in_turn from ps fs
      | false ↦ ap (λ gs. cond (not (is_taken from ps f)) (f ∷ gs) gs) (left_in_turn from ps fs)
    ]

pub stay_or_go : (from : Name) (ps : List Phi) (fs : List Fact) → length (without is_old fs) ≡ length (filter (stays from ps) fs) + length (filter (goes from ps) fs)
stay_or_go from ps [] = refl
stay_or_go from ps (f ∷ fs) =
    let rest = stay_or_go from ps fs in
    elim (fact_has is_old f) as (λ b. length (cond (not b) (f ∷ without is_old fs) (without is_old fs))
    ≡ length (cond (not b && not (is_taken from ps f)) (f ∷ filter (stays from ps) fs) (filter (stays from ps) fs))
    + length (cond (not b && is_taken from ps f) (f ∷ filter (goes from ps) fs) (filter (goes from ps) fs))) [
      | true ↦ rest
      | false ↦ elim (is_taken from ps f) as (λ b. length (f ∷ without is_old fs)
          ≡ length (cond (not b) (f ∷ filter (stays from ps) fs) (filter (stays from ps) fs))
          + length (cond b (f ∷ filter (goes from ps) fs) (filter (goes from ps) fs))) [
            | true ↦ omega (arith, rest)
            | false ↦ omega (arith, rest)
          ]
    ]
