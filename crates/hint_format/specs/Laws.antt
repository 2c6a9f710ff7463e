-- The texts of a file are read as the form wants it; and a file's bytes are read as one thing.
use Rattle.std.specs.Prelude.{◌≡◌, ℕ, List}
use Rattle.erhl_assert.specs.declared.hints.Hints.{Hints}
use Rattle.json_forms.specs.Forms.{Reading}
use Rattle.hint_format.specs.Form.{Leaves, AreLeaves, IsHintReading}
use Rattle.hint_format.specs.Reading.{read_leaves}

abbrev pub TextsAreRead : Type 0
TextsAreRead = AreLeaves read_leaves

-- what texts are read as doesn't depend on who reads
abbrev pub LeavesAreOne : Type 0
LeavesAreOne = (a b : Leaves) → AreLeaves a → AreLeaves b → a ≡ b

-- no file has two lists of hints, none two first faults, and none both
abbrev pub ReadingsAreOne : Type 0
ReadingsAreOne = (bytes : List ℕ) (a b : Reading Hints) → IsHintReading bytes a → IsHintReading bytes b → a ≡ b
