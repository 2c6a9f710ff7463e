-- A run over texts in memory, with a shelf that fails nowhere and two sinks that are sure to take so many bytes.
use Rattle.std.specs.Prelude.{◌≡◌, ◌⊎◌, ◌≤◌, ◌^◌, ◌-◌, ℕ, List, [], length, Option, Some}
use Rattle.erhl_assert.specs.declared.verdict.ModuleVerdict.{ModuleVerdict}
use Rattle.erhl_assert.specs.Steps.{Rules}
use Rattle.crell_io.specs.MemShelf.{ShelfState, held}
use Rattle.crell_io.specs.MemSink.{SinkState, sure_room}
use Rattle.crell_program.specs.declared.crell_answers.answer.Answer.{Answer}
use Rattle.crell_program.specs.CommandLine.Words.{Command}
use Rattle.crell_program.specs.Due.{shelf_seen, IsDue}
use Rattle.crell_program.specs.Delivery.{sink_seen}
use Rattle.crell_program.specs.Rows.{Run, KeepsRows, NoFault}
use Rattle.crell_program.specs.Statuses.{HasVerdict, IsRefinementOfBytes}
use Rattle.crell_program.specs.CrellAnswers.VerdictText.{verdict_status, verdict_answer}

-- a shelf of these entries that wasn't asked yet, and of whose calls none is to fail
abbrev pub new_shelf : List (List ℕ × List ℕ) → ShelfState
new_shelf entries = record { entries = entries; failing = []; calls = 0; faults = 0; taken = 0 }

-- a sink with that much room that wasn't asked yet, and of whose calls none is to fail
abbrev pub new_sink : ℕ → SinkState
new_sink room = record { written = []; room = room; most = 2 ^ 64 - 1; failing = []; calls = 0; faults = 0 }

-- the run over these entries and sinks with that much room, which end so
abbrev pub memory_run : Rules → Option Command → List (List ℕ × List ℕ) → ℕ → ShelfState → SinkState → SinkState → Run
memory_run rules command entries room shelf out err = record {
  rules = rules;
  command = command;
  shelf = shelf_seen (λ (s : ShelfState). held s.entries) (λ (s : ShelfState). s.faults) (λ (s : ShelfState). s.taken) (new_shelf entries) shelf;
  out = sink_seen (λ (s : SinkState). Some s.written) sure_room (λ (s : SinkState). s.faults) (new_sink room) out;
  err = sink_seen (λ (s : SinkState). Some s.written) sure_room (λ (s : SinkState). s.faults) (new_sink room) err;
}

-- the sinks are sure to take the answer's texts
abbrev pub Fits : Run → Answer → Type 0
Fits run answer = (length answer.out ≤ run.out.room_left) × (length answer.err ≤ run.err.room_left)

-- where the sinks have room for an answer's texts they are sure to take them
abbrev pub TextsWithinRoomFit : Type 0
TextsWithinRoomFit =
    (rules : Rules) (command : Option Command) (entries : List (List ℕ × List ℕ)) (room : ℕ) (shelf : ShelfState) (out err : SinkState) (answer : Answer)
    → length answer.out ≤ room → length answer.err ≤ room → Fits (memory_run rules command entries room shelf out err) answer

-- how such a run ends
pub record EndsWell (run : Run) (status : ℕ) : Type 0 where
  pub rows : KeepsRows run status
  pub headline : status ≡ 0 → IsRefinementOfBytes run.shelf.told run.command
  -- No call of the shelf fails, and no call of a sink where the sinks are sure to take the texts of an answer that is due.
  pub shelf_well : run.shelf.faults_after ≡ 0
  pub no_fault : ((answer : Answer) → IsDue run.rules run.shelf run.command answer → Fits run answer) → NoFault run
  -- Where the files are there within their limits, and the sinks are sure to take the verdict's text: no call fails, and the
  -- status is the verdict's, or memory was refused.
  pub judged : (known : ℕ) → HasVerdict run.rules run.shelf.told run.command (λ a. (v : ModuleVerdict) × (a ≡ Some v) × Fits run (verdict_answer v) × (verdict_status v ≡ known))
      → NoFault run × ((status ≡ known) ⊎ (status ≡ 8))
