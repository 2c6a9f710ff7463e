-- Rows of nodes.
use Rattle.std.specs.Prelude.{ℕ, ◌<◌, List}
use Rattle.std.specs.List.{AllByRecursion}

-- all of them are below
abbrev pub AreBelow : ℕ → List ℕ → Type 0
AreBelow nodes row = AllByRecursion (λ n. n < nodes) row
