-- Steps that are kept by their lines, one at a time.
use Rattle.std.proofs.Common.{◌≡◌, ◌∙◌, ℕ, zero, suc, ◌+◌, ◌<◌, ◌++◌, Bool, true, false, cond, nat_eq, List, [], ◌∷◌, length, map, filter, set, take, get_or, refl, sym, ap, arith}
use Rattle.std.proofs.lemmas.List.{get_or-set_same, get_or-set_other, append-nil, map-append, take_more}
use Rattle.std.proofs.lemmas.List.Elements.{filter-append}
use Rattle.std.proofs.lemmas.Bool.{eqb-true, eqb-false, ne_eqb}
use Rattle.std.specs.Borrow.{Bor}
use Rattle.erhl_assert.specs.declared.hints.HintStep.{HintStep}
use Rattle.erhl_assert.specs.declared.hints.PlacedStep.{PlacedStep}
use Rattle.erhl_assert.specs.Steps.{steps_at}
use Rattle.line_align.specs.Placed.{kept_at}

-- a line that has none yet is kept as one that isn't there
pub reached_more : (kept : List (List (Bor HintStep))) (n : ℕ) → kept_at (kept ++ [] ∷ []) n ≡ kept_at kept n
reached_more [] zero = refl
reached_more [] (suc n) = refl
reached_more (s ∷ kept) zero = refl
reached_more (s ∷ kept) (suc n) = reached_more kept n

module _ (kept : List (List (Bor HintStep))) (p : PlacedStep) (s : Bor HintStep) (is : s.now ≡ p.step) (within : p.at < length kept) (n : ℕ) where
  abbrev after : List (List (Bor HintStep))
  after = set kept p.at (get_or kept p.at [] ++ s ∷ [])

  kept_here : p.at ≡ n → kept_at after n ≡ kept_at kept n ++ (s.now ∷ [])
  kept_here at = rw (← at) (ap (map (λ (t : Bor HintStep). t.now)) (get_or-set_same kept p.at (get_or kept p.at [] ++ s ∷ []) [] within) ∙ map-append (λ (t : Bor HintStep). t.now) (get_or kept p.at []) (s ∷ []))

  kept_elsewhere : (p.at ≡ n → ⊥) → kept_at after n ≡ kept_at kept n
  kept_elsewhere past = ap (map (λ (t : Bor HintStep). t.now)) (get_or-set_other kept p.at n (get_or kept p.at [] ++ s ∷ []) [] (λ e. past (sym e)))

  kept_so : kept_at after n ≡ kept_at kept n ++ map (λ (t : PlacedStep). t.step) (cond (nat_eq p.at n) (p ∷ []) [])
  kept_so = (elim (nat_eq p.at n) as (λ (b : Bool). nat_eq p.at n ≡ b → kept_at after n ≡ kept_at kept n ++ map (λ (t : PlacedStep). t.step) (cond b (p ∷ []) [])) [
    | true ↦ λ e. kept_here (eqb-true p.at n e) ∙ ap (λ (t : HintStep). kept_at kept n ++ t ∷ []) is
    | false ↦ λ e. kept_elsewhere (eqb-false p.at n e) ∙ sym (append-nil (kept_at kept n))
  ]) refl

  pub kept_more : kept_at (set kept p.at (get_or kept p.at [] ++ s ∷ [])) n ≡ kept_at kept n ++ steps_at n (p ∷ [])
  kept_more = kept_so

module _ (k i : ℕ) (steps : List PlacedStep) (s : PlacedStep) (within : i < length steps) (is : s ≡ get_or steps i s) where
  pub steps_one_more : steps_at k (take (i + 1) steps) ≡ steps_at k (take i steps) ++ steps_at k (s ∷ [])
  steps_one_more = ap (steps_at k) (take_more steps i s within ∙ ap (λ (t : PlacedStep). take i steps ++ t ∷ []) (sym is))
      ∙ ap (map (λ (t : PlacedStep). t.step)) (filter-append (λ (t : PlacedStep). nat_eq t.at k) (take i steps) (s ∷ []))
      ∙ map-append (λ (t : PlacedStep). t.step) (filter (λ (t : PlacedStep). nat_eq t.at k) (take i steps)) (filter (λ (t : PlacedStep). nat_eq t.at k) (s ∷ []))

  pub steps_past : k < s.at → steps_at k (take (i + 1) steps) ≡ steps_at k (take i steps)
  steps_past past = steps_one_more ∙ ap (λ (b : Bool). steps_at k (take i steps) ++ map (λ (t : PlacedStep). t.step) (cond b (s ∷ []) [])) (ne_eqb s.at k (omega arith)) ∙ append-nil (steps_at k (take i steps))
