-- Sinks in memory, and how many bytes they are sure to take; counts, and when they have risen.
use Rattle.std.specs.Prelude.{◌≡◌, ◌≤◌, ℕ, List, [], ◌∷◌, true, false}
use Rattle.crell_io.specs.Count.{HasRisen, HasRisenAbove, is_to_fail, last_count, raised_by}
use Rattle.crell_io.specs.MemSink.{SinkState, sure_room}

-- a sink with room for three bytes, two of which a call takes at most, that has written these and fails in these calls
abbrev pub sink_of_three : List ℕ → List ℕ → SinkState
sink_of_three written failing = record { written = written; room = 3; most = 2; failing = failing; calls = 0; faults = 0 }

pub record SinksOfExamples : Type 0 where
  -- a new sink that fails in no call is sure of three bytes, and not of four
  pub sure : 3 ≤ sure_room (sink_of_three [] [])
  pub not_sure : 4 ≤ sure_room (sink_of_three [] []) → ⊥
  -- where a byte is written it is sure of two, and not of three
  pub part_sure : 2 ≤ sure_room (sink_of_three (65 ∷ []) [])
  pub part_not_sure : 3 ≤ sure_room (sink_of_three (65 ∷ []) []) → ⊥
  -- a full one is sure of none
  pub full : sure_room (sink_of_three (65 ∷ 66 ∷ 67 ∷ []) []) ≡ 0
  -- one that fails in a call, be it a later one, isn't sure of a byte
  pub failing : 1 ≤ sure_room (sink_of_three [] (0 ∷ [])) → ⊥
  pub failing_later : 1 ≤ sure_room (sink_of_three [] (2 ∷ [])) → ⊥

pub record CountsOfExamples : Type 0 where
  -- a count has risen where it is higher, and one that stands still where it can't rise
  pub risen : HasRisen 3 4
  pub not_risen : HasRisen 3 3 → ⊥
  pub fallen : HasRisen 3 2 → ⊥
  pub last : HasRisen last_count last_count
  pub not_last : HasRisen 18446744073709551614 18446744073709551614 → ⊥
  -- by more than five, so by six
  pub above : HasRisenAbove 5 3 9
  pub not_above : HasRisenAbove 5 3 8 → ⊥
  pub last_above : HasRisenAbove 5 last_count last_count
  -- a count stays at its last value
  pub raised : raised_by 5 3 ≡ 8
  pub not_raised : raised_by 5 last_count ≡ 18446744073709551615
  -- the third call is to fail, and the second isn't
  pub third_fails : is_to_fail (0 ∷ 2 ∷ []) 2 ≡ true
  pub second_passes : is_to_fail (0 ∷ 2 ∷ []) 1 ≡ false
