-- Words of private functions. The steps of a block, kept by the line that they stand before.
use Rattle.std.specs.Prelude.{◌≡◌, ℕ, ◌≤◌, List, [], map, get_or}
use Rattle.std.specs.Borrow.{Bor}
use Rattle.erhl_assert.specs.declared.hints.HintStep.{HintStep}
use Rattle.erhl_assert.specs.declared.hints.PlacedStep.{PlacedStep}
use Rattle.erhl_assert.specs.Steps.{steps_at}

-- those that are kept for line k
abbrev pub kept_at : List (List (Bor HintStep)) → ℕ → List HintStep
kept_at kept k = map (λ s. s.now) (get_or kept k [])

-- for each line up to the last, the steps that stand before it are kept
abbrev pub AreKept : List (List (Bor HintStep)) → ℕ → List PlacedStep → Type 0
AreKept kept last steps = (k : ℕ) → k ≤ last → kept_at kept k ≡ steps_at k steps
