-- Counts that never fall, kept in 64 bits: a count that has come to its last value stays there.
use Rattle.std.specs.Prelude.{ℕ, ◌+◌, ◌-◌, ◌^◌, ◌<◌, ◌≤◌, ◌⊎◌, ◌==◌, Bool, List, min}
use Rattle.std.specs.List.{list_any}

-- the last value of a count
abbrev pub last_count : ℕ
last_count = 2 ^ 64 - 1

-- a count after that many more
abbrev pub raised_by : ℕ → ℕ → ℕ
raised_by more count = min (count + more) last_count

-- the count has risen; one that stands at its last value counts as risen
abbrev pub HasRisen : ℕ → ℕ → Type 0
HasRisen old new = (old < new) ⊎ (last_count ≤ new)

-- the count has risen by more than that; one that stands at its last value counts as risen by any number
abbrev pub HasRisenAbove : ℕ → ℕ → ℕ → Type 0
HasRisenAbove least old new = (old + least < new) ⊎ (last_count ≤ new)

-- whether the call with this number is among those that are to fail
abbrev pub is_to_fail : List ℕ → ℕ → Bool
is_to_fail failing call = list_any (λ number. number == call) failing
