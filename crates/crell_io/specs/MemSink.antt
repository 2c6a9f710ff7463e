-- A sink in memory.
use Rattle.std.specs.Prelude.{ℕ, List, [], ◌∷◌, Bool, ◌≡◌, ◌≢◌, ◌-◌, ◌⊎◌, IsTrue, length, min}
use Rattle.crell_io.specs.Count.{is_to_fail}

-- the bytes written, how many there is room for, how many a call takes at most, the numbers of the calls
-- that are to fail (the first call is 0), how many calls there were, and the count of faults
pub record SinkState : Type 0 where
  pub written : List ℕ
  pub room : ℕ
  pub most : ℕ
  pub failing : List ℕ
  pub calls : ℕ
  pub faults : ℕ

-- whether the next call is to fail
abbrev pub sink_fails : SinkState → Bool
sink_fails sink = is_to_fail sink.failing sink.calls

-- the next call fails at this piece: it is to fail, or a piece that isn't empty meets a full room
abbrev pub Refuses : SinkState → List ℕ → Type 0
Refuses sink piece = IsTrue (sink_fails sink) ⊎ ((piece ≢ []) × (length sink.written ≡ sink.room))

-- how many first bytes of a piece the next call takes, if it takes any
abbrev pub share : SinkState → List ℕ → ℕ
share sink piece = min (length piece) (min sink.most (sink.room - length sink.written))

-- how many bytes of room are left, where no call is to fail
abbrev pub room_unless : List ℕ → ℕ → ℕ
room_unless [] room = room
room_unless (call ∷ calls) room = 0

-- how many bytes the sink is sure to take
abbrev pub sure_room : SinkState → ℕ
sure_room sink = room_unless sink.failing (sink.room - length sink.written)
