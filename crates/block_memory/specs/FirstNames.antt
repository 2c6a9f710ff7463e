-- First names, and how many names are bound to nothing, as the code keeps them beside the names.
use Rattle.std.specs.Prelude.{◌≡◌, ℕ, Bool, not, nat_eq, List, count_by, Option, is_some}
use Rattle.std.specs.Map.{lookup}
use Rattle.block_memory.specs.Names.{name_of}

-- of each block its first name is kept, and of one that has none nothing
abbrev pub AreFirst : List (Option ℕ) → List (ℕ × ℕ) → Type 0
AreFirst names kept = (b : ℕ) → lookup (nat_eq b) kept ≡ name_of names b

abbrev pub is_loose : Option ℕ → Bool
is_loose bound = not (is_some bound)

-- how many names are bound to nothing
abbrev pub loose_count : List (Option ℕ) → ℕ
loose_count names = count_by is_loose names
