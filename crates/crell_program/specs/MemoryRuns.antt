-- Runs over texts in memory that meet the premises of what `EndsWell` says of them.
use Rattle.std.specs.Prelude.{◌≡◌, ◌⊎◌, ◌≤◌, ℕ, List, [], ◌∷◌, length, None, Some}
use Rattle.ir_core.specs.declared.limits.Limit.TheVariants as limit
use Rattle.ir_core.specs.declared.modules.Module.{Module}
use Rattle.ir_core.specs.Limits.{limit_number, text_limit}
use Rattle.hint_format.specs.Form.{HintsOf}
use Rattle.erhl_assert.specs.declared.hints.Hints.{Hints}
use Rattle.erhl_assert.specs.declared.verdict.ModuleVerdict.{ModuleVerdict}
use Rattle.crell_program.specs.PairAnswer.{pair_answer}
use Rattle.erhl_assert.specs.Steps.{Rules}
use Rattle.crell_io.specs.MemShelf.{ShelfState}
use Rattle.crell_io.specs.MemSink.{SinkState}
use Rattle.crell_program.specs.declared.command_line.request.Listing.{Listing}
use Rattle.crell_program.specs.declared.crell_answers.answer.Answer.{Answer}
use Rattle.crell_program.specs.CommandLine.Examples.{a, b, h}
use Rattle.crell_program.specs.CommandLine.Words.{Command, Check, Print}
use Rattle.crell_program.specs.CrellAnswers.Answer.{absent}
use Rattle.crell_program.specs.CrellAnswers.VerdictText.{verdict_answer, verdict_status}
use Rattle.crell_program.specs.Due.{IsDue}
use Rattle.ir_reader.specs.Faults.{SpellsWellFormed}
use Rattle.crell_program.specs.InMemory.{EndsWell, Fits, memory_run}
use Rattle.crell_program.specs.Rows.{NoFault, Run}

-- no call fails, and the run ends with that status, or memory was refused
abbrev pub EndsWith : Run → ℕ → ℕ → Type 0
EndsWith run status due = NoFault run × ((status ≡ due) ⊎ (status ≡ 8))

-- `defs` or `fmt`, over no file: where the sinks have room for the line that says so the status is 10
abbrev pub AbsentFilesAreTold : Type 0
AbsentFilesAreTold =
    (rules : Rules) (listing : Listing) (file : List ℕ) (room status : ℕ) (shelf : ShelfState) (out err : SinkState)
    → let run = memory_run rules (Some (Print listing file)) [] room shelf out err in
    length (absent file).err ≤ room → EndsWell run status → EndsWith run status 10

-- check a.ll b.ll h.json
abbrev pub checking : Command
checking = Check (record { source = a; target = b; hints = h })

abbrev pub three_files : List ℕ → List ℕ → List ℕ → List (List ℕ × List ℕ)
three_files source target hints = (a, source) ∷ (b, target) ∷ (h, hints) ∷ []

-- `check` over three texts of their forms, within their limits, on which the checker has a verdict: where the sinks have room for its line the
-- status is the verdict's
abbrev pub PairsAreAnswered : Type 0
PairsAreAnswered =
    (rules : Rules) (source target hints : List ℕ) (s t : Module) (proof : Hints) (v : ModuleVerdict) (room status : ℕ) (shelf : ShelfState) (out err : SinkState)
    → let run = memory_run rules (Some checking) (three_files source target hints) room shelf out err in
    length source ≤ text_limit → length target ≤ text_limit → length hints ≤ limit_number limit.Json
    → SpellsWellFormed source s → SpellsWellFormed target t → HintsOf hints proof → pair_answer rules s t proof ≡ Some v
    → length (verdict_answer v).out ≤ room → EndsWell run status → EndsWith run status (verdict_status v)

-- To words that are no command's a text of any length is due, so no room is sure to be enough, and the premise of `no_fault` isn't met.
abbrev pub NoRoomFitsUsage : Type 0
NoRoomFitsUsage =
    (rules : Rules) (entries : List (List ℕ × List ℕ)) (room : ℕ) (shelf : ShelfState) (out err : SinkState)
    → let run = memory_run rules None entries room shelf out err in
    ((answer : Answer) → IsDue run.rules run.shelf run.command answer → Fits run answer) → ⊥

-- But where they get status 2, and err holds no more bytes than it has room for, no call failed.
abbrev pub UsageWithinRoomFits : Type 0
UsageWithinRoomFits =
    (rules : Rules) (entries : List (List ℕ × List ℕ)) (room : ℕ) (shelf : ShelfState) (out err : SinkState)
    → let run = memory_run rules None entries room shelf out err in
    length err.written ≤ room → EndsWell run 2 → NoFault run
