-- A run of the program, and the rows of its table of statuses.
use Rattle.std.specs.Prelude.{◌≡◌, ◌≢◌, ◌⊎◌, ℕ, List, [], Option, None, Some}
use Rattle.erhl_assert.specs.declared.verdict.ModuleVerdict.TheVariants as modules
use Rattle.erhl_assert.specs.Steps.{Rules}
use Rattle.crell_io.specs.Count.{HasRisen}
use Rattle.json_forms.specs.declared.failure.Fault.{Fault}
use Rattle.crell_program.specs.declared.crell_answers.answer.Answer.{Answer}
use Rattle.crell_program.specs.CommandLine.Words.{Command}
use Rattle.crell_program.specs.Command.{files_of}
use Rattle.crell_program.specs.Due.{ShelfSeen, IsDue}
use Rattle.crell_program.specs.Delivery.{SinkSeen, IsDelivered, GotAll, GotNothing, Untouched}
use Rattle.crell_program.specs.Statuses.{IsAnswer, IsInvalid, HasNoVerdict, SomeFileIsUnfit, IsPlace, IsPassedLimit, HintsAreAtFault, HintsHaveFault, fault_status, SomeFileIsLonger, SomeFileIsMissing, HoldsAll, FirstIsUnfit, IsListed, HasListing, HasVerdict, FirstUnheld, IsAbsent, IsOverlong, IsStatus}

-- the rules, the command that the words name, and the shelf and the sinks before the run and after it
pub record Run : Type 0 where
  pub rules : Rules
  pub command : Option Command
  pub shelf : ShelfSeen
  pub out : SinkSeen
  pub err : SinkSeen

-- The status is that of the answer that is due, delivered; or memory was refused, which is status 8, and no sink was asked.
abbrev pub IsAnswered : Run → ℕ → Type 0
IsAnswered run status =
    ((answer : Answer) × IsDue run.rules run.shelf run.command answer × IsDelivered answer run.out run.err status)
    ⊎ ((status ≡ 8) × Untouched run.out × Untouched run.err)

-- a sink failed
abbrev pub WritingFailed : Run → Type 0
WritingFailed run = HasRisen run.out.faults run.out.faults_after ⊎ HasRisen run.err.faults run.err.faults_after

-- no count of faults rises
abbrev pub NoFault : Run → Type 0
NoFault run = (HasRisen run.shelf.faults run.shelf.faults_after → ⊥) × (HasRisen run.out.faults run.out.faults_after → ⊥) × (HasRisen run.err.faults run.err.faults_after → ⊥)

-- The rows of the table. All of them follow from the first.
pub record KeepsRows (run : Run) (status : ℕ) : Type 0 where
  -- Which answer is due, and that it is delivered; or memory was refused, and no sink was asked.
  pub answered : IsAnswered run status
  -- `defs` has printed the lines of its file's module, `fmt` the module, with names where it is asked for them, and exactly that.
  pub listed : status ≡ 0 → HasListing run.shelf.told run.command (λ text. GotAll run.out text)
  -- The checker refuses the pair.
  pub refused : status ≡ 1 → IsAnswer IsInvalid run.rules run.shelf.told run.command
  -- The words are no command's; then nothing is written to out, and to err a text that says so, whole, which isn't empty. Memory may be refused to
  -- such words too.
  pub usage : status ≡ 2 → run.command ≡ None
  pub usage_shown : status ≡ 2 → GotNothing run.out × ((text : List ℕ) × (text ≢ []) × GotAll run.err text)
  pub no_command : run.command ≡ None → (status ≡ 2) ⊎ (status ≡ 8) ⊎ ((status ≡ 7) × HasRisen run.err.faults run.err.faults_after)
  -- A text spells no module, within the limits; a module isn't well-formed; hints aren't of their form; reading failed; writing
  -- failed; a file, the lines of a function, the depth of types and constants, memory that is wanted at once, a text of the hints, or the
  -- facts that are known, pass a limit; a file is absent.
  pub unfit : status ≡ 3 → SomeFileIsUnfit 3 run.shelf.told run.command
  pub ill_formed : status ≡ 4 → SomeFileIsUnfit 4 run.shelf.told run.command
  pub hints_unfit : status ≡ 5 → HintsAreAtFault IsPlace run.shelf.told run.command
  pub read_failed : status ≡ 6 → HasRisen run.shelf.faults run.shelf.faults_after
  pub write_failed : status ≡ 7 → WritingFailed run
  pub too_long : status ≡ 9 → SomeFileIsLonger run.shelf run.command ⊎ SomeFileIsUnfit 9 run.shelf.told run.command
      ⊎ HintsAreAtFault IsPassedLimit run.shelf.told run.command ⊎ IsAnswer HasNoVerdict run.rules run.shelf.told run.command
  pub absent : status ≡ 10 → SomeFileIsMissing run.shelf run.command
  -- Nothing is written to out but under 0 and 1, and a first part of it under 7.
  pub out_kept : status ≢ 0 → status ≢ 1 → status ≢ 7 → GotNothing run.out
  -- Where all of its files are told and within their limits, and no count of faults rises: the status is that of the first fault of
  -- the first module that has one, 3, 4 or 9; else 5 or 9 where the hints have a first fault, as it is; else 0 under `defs` and `fmt`, and under `check`
  -- 9 where too many facts are known, and else the verdict's; or memory was refused.
  pub unread : (fault : ℕ) → HoldsAll run.shelf.told run.command (λ command. FirstIsUnfit fault (files_of command)) → NoFault run
      → (status ≡ fault) ⊎ (status ≡ 8)
  pub hints_unread : (fault : Fault) → HoldsAll run.shelf.told run.command (HintsHaveFault fault) → NoFault run
      → (status ≡ fault_status fault) ⊎ (status ≡ 8)
  pub printed : HoldsAll run.shelf.told run.command IsListed → NoFault run → (status ≡ 0) ⊎ (status ≡ 8)
  pub valid : HasVerdict run.rules run.shelf.told run.command (λ v. v ≡ Some modules.Valid) → NoFault run → (status ≡ 0) ⊎ (status ≡ 8)
  pub invalid : HasVerdict run.rules run.shelf.told run.command IsInvalid → NoFault run → (status ≡ 1) ⊎ (status ≡ 8)
  pub too_many_facts : HasVerdict run.rules run.shelf.told run.command HasNoVerdict → NoFault run → (status ≡ 9) ⊎ (status ≡ 8)
  -- Where the first of the files that isn't told to be held within its limit is told to be absent, or to be longer, and no
  -- count of faults rises: the status is 10, or 9; or memory was refused.
  pub missing : FirstUnheld IsAbsent run.shelf.told run.command → NoFault run → (status ≡ 10) ⊎ (status ≡ 8)
  pub overlong : FirstUnheld IsOverlong run.shelf.told run.command → NoFault run → (status ≡ 9) ⊎ (status ≡ 8)
  pub statuses : IsStatus status
