-- What a sink holds that failed: a first part of its text, and nothing else.
use Rattle.std.specs.Prelude.{◌≡◌, ◌≢◌, ◌⊎◌, ◌<◌, ◌++◌, ℕ, List, [], length, take, codes, Some}
use Rattle.crell_program.specs.declared.crell_answers.answer.Answer.{Answer}
use Rattle.crell_program.specs.Delivery.{GotPart, IsDelivered, SinkSeen}

-- the sink tells these bytes before the program and after it
abbrev pub Tells : SinkSeen → List ℕ → List ℕ → Type 0
Tells sink before after = (sink.before ≡ Some before) × (sink.after ≡ Some after)

-- behind the bytes of before stand the first of the text's, fewer than it has
abbrev pub HoldsFirstPart : List ℕ → List ℕ → List ℕ → Type 0
HoldsFirstPart before after text = (n : ℕ) × (n < length text) × (after ≡ before ++ take n text)

abbrev pub PartsAreFirst : Type 0
PartsAreFirst = (sink : SinkSeen) (before after text : List ℕ) → Tells sink before after → GotPart sink text → HoldsFirstPart before after text

-- Under 7, which is the status of no answer: out holds a first part of its text, and err what it held before; or out holds its text whole, and err a
-- first part of its own.
abbrev pub FailuresLeaveFirstParts : Type 0
FailuresLeaveFirstParts =
    (answer : Answer) (out err : SinkSeen) (out_before out_after err_before err_after : List ℕ) → answer.status ≢ 7
    → Tells out out_before out_after → Tells err err_before err_after → IsDelivered answer out err 7
    → (HoldsFirstPart out_before out_after answer.out × (err_after ≡ err_before))
    ⊎ ((out_after ≡ out_before ++ answer.out) × HoldsFirstPart err_before err_after answer.err)

-- an empty sink that failed at its second byte, and holds these bytes
abbrev pub failed_with : List ℕ → SinkSeen
failed_with bytes = record { before = Some []; after = Some bytes; room_left = 1; faults = 0; faults_after = 1 }

-- Of `no` such a sink may hold `n`, or nothing; it doesn't hold all of it, nor its last part, nor other bytes. And one that counted no fault didn't
-- get a part.
pub record PartsOfExamples : Type 0 where
  pub first : GotPart (failed_with (codes "n")) (codes "no")
  pub nothing : GotPart (failed_with []) (codes "no")
  pub whole : GotPart (failed_with (codes "no")) (codes "no") → ⊥
  pub last : GotPart (failed_with (codes "o")) (codes "no") → ⊥
  pub other : GotPart (failed_with (codes "yes")) (codes "no") → ⊥
  pub uncounted : GotPart (record (failed_with (codes "n")) { faults_after = 0 }) (codes "no") → ⊥
