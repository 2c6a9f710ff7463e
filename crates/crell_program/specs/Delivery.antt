-- How an answer is delivered: out is written before err, and a sink that fails leaves a first part of its text.
use Rattle.std.specs.Prelude.{◌≡◌, ◌≢◌, ◌⊎◌, ◌<◌, ◌≤◌, ◌++◌, ℕ, List, [], length, Option}
use Rattle.crell_io.specs.Count.{HasRisen}
use Rattle.crell_io.specs.Sink.{appended}
use Rattle.crell_program.specs.declared.crell_answers.answer.Answer.{Answer}

-- a sink before the program and after it: what it tells of the bytes written, how many bytes it was sure to take, and its count of
-- faults
pub record SinkSeen : Type 0 where
  pub before : Option (List ℕ)
  pub after : Option (List ℕ)
  pub room_left : ℕ
  pub faults : ℕ
  pub faults_after : ℕ

abbrev pub sink_seen : {K : Type 0} → (K → Option (List ℕ)) → (K → ℕ) → (K → ℕ) → K → K → SinkSeen
sink_seen written room_left faults old new =
    record { before = written old; after = written new; room_left = room_left old; faults = faults old; faults_after = faults new }

-- the sink got the text whole, and counted no fault where it was sure to take it
abbrev pub GotAll : SinkSeen → List ℕ → Type 0
GotAll sink text = (sink.after ≡ appended sink.before text) × (length text ≤ sink.room_left → sink.faults_after ≡ sink.faults)

-- The sink failed, which it has counted, after some first part of the text that isn't all of it. It wasn't sure to take it.
abbrev pub GotPart : SinkSeen → List ℕ → Type 0
GotPart sink text = HasRisen sink.faults sink.faults_after × (sink.room_left < length text)
    × ((part : List ℕ) × (rest : List ℕ) × (rest ≢ []) × (text ≡ part ++ rest) × (sink.after ≡ appended sink.before part))

-- the sink got nothing
abbrev pub GotNothing : SinkSeen → Type 0
GotNothing sink = sink.after ≡ sink.before

-- the sink wasn't asked
abbrev pub Untouched : SinkSeen → Type 0
Untouched sink = (sink.after ≡ sink.before) × (sink.faults_after ≡ sink.faults)

-- The status is the answer's, and both sinks got their texts; or it is 7, and out failed and err wasn't asked, or err failed
-- when out had its text.
abbrev pub IsDelivered : Answer → SinkSeen → SinkSeen → ℕ → Type 0
IsDelivered answer out err status =
    ((status ≡ answer.status) × GotAll out answer.out × GotAll err answer.err)
    ⊎ ((status ≡ 7) × GotPart out answer.out × Untouched err)
    ⊎ ((status ≡ 7) × GotAll out answer.out × GotPart err answer.err)
