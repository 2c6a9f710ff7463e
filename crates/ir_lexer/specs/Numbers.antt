-- Decimal numbers.
use Rattle.std.specs.Prelude.{ℕ, Bool, false, ◌==◌, ◌+◌, ◌-◌, ◌*◌, List, [], ◌∷◌, Option, Some, None, nat_lt, if◌then◌else◌, fold}

-- one more digit behind a number
abbrev pub with_digit : ℕ → ℕ → ℕ
with_digit n digit = n * 10 + (digit - 48)

-- the number that digits write
abbrev pub value_of : List ℕ → ℕ
value_of digits = fold with_digit 0 digits

-- n, if it is below the limit
abbrev pub if_below : ℕ → ℕ → Option ℕ
if_below limit n = if nat_lt n limit then Some n else None

abbrev pub begins_with_zero : List ℕ → Bool
begins_with_zero [] = false
begins_with_zero (digit ∷ digits) = digit == 48
