-- THE INDUCTION, once and for all lines: where related states make related moves, what the target shows the source may show.
use Rattle.std.proofs.Common.{◌≡◌, ◌⊎◌, inl, inr, ℕ, zero, suc, List, [], ◌∷◌, ◌++◌, sym, ap, ◌∙◌, subst}
use Rattle.std.proofs.lemmas.List.{append_assoc}
use Rattle.ir_core.specs.declared.modules.Module.{Module}
use Rattle.ir_machine.specs.declared.items.Item.{Item}
use Rattle.ir_machine.specs.declared.items.Item.TheVariants.{Wrong}
use Rattle.ir_machine.specs.State.{State}
use Rattle.ir_machine.specs.Machine.{Made, Follows, asks, ShowsFrom}
use Rattle.ir_machine.specs.Refinement.{MayShowFrom}
use Rattle.ir_machine.proofs.Runs.{may_step_on}

module _ (source target : Module) (R : ℕ → State → State → Type 0) where
  -- the source makes a step that shows nothing, and fewer lines of the source alone are left before the target's next step
  abbrev pub Stutters : ℕ → State → State → Type 0
  Stutters zero s t = ⊥
  Stutters (suc k) s t = (made : Made) × Follows (asks source s) made × (made.items ≡ []) × R k made.after t

  -- the source waits for the target's step, which shows nothing
  abbrev pub Stays : State → Made → Type 0
  Stays s made = (k : ℕ) × (made.items ≡ []) × R k s made.after

  -- the source makes a step that shows the same
  abbrev pub Matches : State → Made → Type 0
  Matches s made = (k : ℕ) × (other : Made) × Follows (asks source s) other × (made.items ≡ other.items) × R k other.after made.after

  -- the source may show undefined behaviour after a first part of what the step shows
  abbrev pub GoesWrong : State → Made → Type 0
  GoesWrong s made = (n : ℕ) × (seen : List Item) × (rest : List Item) × (made.items ≡ seen ++ rest) × ShowsFrom source n s (seen ++ Wrong ∷ [])

  abbrev pub Moves : ℕ → State → State → Type 0
  Moves k s t = Stutters k s t ⊎ ((made : Made) → Follows (asks target t) made → Stays s made ⊎ Matches s made ⊎ GoesWrong s made)

  module _ (moves : (k : ℕ) (s t : State) → R k s t → Moves k s t) where
    wrong_before : (s : State) (items rest : List Item) (made : Made) → items ≡ made.items ++ rest → GoesWrong s made → MayShowFrom source s items
    wrong_before s items rest made is h =
        inr (h.0, h.1, h.2 ++ rest, is ∙ ap (λ (x : List Item). x ++ rest) h.3 ∙ append_assoc h.1 h.2 rest, h.4)

    abbrev pub Goal : ℕ → Type 0
    Goal n = (k : ℕ) (s t : State) (items : List Item) → R k s t → ShowsFrom target n t items → MayShowFrom source s items

    -- one step of the target, where the rest is shown in fewer
    one_step : (n : ℕ) → Goal n → (s : State) (items rest : List Item) (made : Made) → items ≡ made.items ++ rest → ShowsFrom target n made.after rest
        → Stays s made ⊎ Matches s made ⊎ GoesWrong s made → MayShowFrom source s items
    one_step n goal s items rest made is shows (inl h) =
        subst (MayShowFrom source s) (sym (is ∙ ap (λ (x : List Item). x ++ rest) h.1)) (goal h.0 s made.after rest h.2 shows)
    one_step n goal s items rest made is shows (inr (inl h)) =
        subst (MayShowFrom source s) (sym (is ∙ ap (λ (x : List Item). x ++ rest) h.3))
        (may_step_on source s h.1 rest h.2 (goal h.0 h.1.after made.after rest h.4 shows))
    one_step n goal s items rest made is shows (inr (inr h)) = wrong_before s items rest made is h

    -- along the source's own lines, to the target's step
    along : (n : ℕ) → Goal n → (k : ℕ) (s t : State) (items rest : List Item) (made : Made) → Moves k s t → Follows (asks target t) made
        → items ≡ made.items ++ rest → ShowsFrom target n made.after rest → MayShowFrom source s items
    along n goal zero s t items rest made (inl h) f is shows = absurd h
    along n goal (suc k) s t items rest made (inl h) f is shows =
        subst (MayShowFrom source s) (ap (λ (x : List Item). x ++ items) h.2)
        (may_step_on source s h.0 items h.1 (along n goal k h.0.after t items rest made (moves k h.0.after t h.3) f is shows))
    along n goal k s t items rest made (inr h) f is shows = one_step n goal s items rest made is shows (h made f)

    pub simulates : (n : ℕ) → Goal n
    simulates zero k s t items r shows = inl (zero, shows)
    simulates (suc n) k s t items r (inl none) = inl (zero, none)
    simulates (suc n) k s t items r (inr h) = along n (simulates n) k s t items h.1 h.0 (moves k s t r) h.2 h.3 h.4
