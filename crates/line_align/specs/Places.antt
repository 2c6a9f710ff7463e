-- Which steps stand before a line.
use Rattle.std.specs.Prelude.{ℕ, List}
use Rattle.erhl_assert.specs.declared.hints.HintStep.{HintStep}
use Rattle.line_align.specs.declared.placed.StepsByLine.{StepsByLine}
use Rattle.line_align.specs.Placed.{kept_at}

-- those that are kept for line k
abbrev pub before : StepsByLine → ℕ → List HintStep
before by k = kept_at by.kept.items k
