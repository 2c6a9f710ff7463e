-- What a sink tells of the bytes written.
use Rattle.std.specs.Prelude.{ℕ, List, ◌++◌, Option, option_map}

-- what is told to be written after these bytes more, where anything is told
abbrev pub appended : Option (List ℕ) → List ℕ → Option (List ℕ)
appended written more = option_map (λ bytes. bytes ++ more) written
