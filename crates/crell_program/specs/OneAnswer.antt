-- The answer that is due is one, where the shelf tells of each file and counts no fault.
use Rattle.std.specs.Prelude.{◌≡◌, ◌≢◌, ◌⊎◌, ℕ, List, [], None, Some}
use Rattle.std.specs.List.{AllByRecursion}
use Rattle.erhl_assert.specs.Steps.{Rules}
use Rattle.crell_io.specs.Count.{HasRisen}
use Rattle.crell_io.specs.Shelf.{Told}
use Rattle.crell_io.specs.Shelf.Told.{Untold}
use Rattle.crell_program.specs.declared.crell_answers.answer.Answer.{Answer}
use Rattle.crell_program.specs.CommandLine.Words.{Command}
use Rattle.crell_program.specs.Command.{File, files_of}
use Rattle.crell_program.specs.CrellAnswers.Answer.{usage}
use Rattle.crell_program.specs.Due.{ShelfSeen, IsDue}
use Rattle.crell_program.specs.Rows.{IsAnswered, KeepsRows, NoFault, Run}

-- of each of the command's files the shelf tells that there is none such, or its bytes
abbrev pub TellsEach : (List ℕ → Told) → Command → Type 0
TellsEach told command = AllByRecursion (λ (file : File). told file.name ≢ Untold) (files_of command)

-- Then one answer is due to the command, its status and both of its texts.
abbrev pub DueIsOne : Type 0
DueIsOne =
    (rules : Rules) (shelf : ShelfSeen) (command : Command) (a b : Answer) → (HasRisen shelf.faults shelf.faults_after → ⊥) → TellsEach shelf.told command
    → IsDue rules shelf (Some command) a → IsDue rules shelf (Some command) b → a ≡ b

-- and a run that no fault is counted in has one status, or memory was refused
abbrev pub StatusIsOne : Type 0
StatusIsOne =
    (run : Run) (command : Command) (s t : ℕ) → run.command ≡ Some command → TellsEach run.shelf.told command → NoFault run
    → IsAnswered run s → IsAnswered run t → (s ≡ t) ⊎ (s ≡ 8) ⊎ (t ≡ 8)

-- Answers that are due to words that are no command's differ on err alone.
abbrev pub UsagesDifferOnErr : Type 0
UsagesDifferOnErr =
    (rules : Rules) (shelf : ShelfSeen) (a b : Answer) → IsDue rules shelf None a → IsDue rules shelf None b → (a.status ≡ b.status) × (a.out ≡ b.out)

-- None of them is empty there, so err tells more bytes behind a run of status 2 than before it.
pub record UsageIsSaid : Type 0 where
  pub some : (rules : Rules) (shelf : ShelfSeen) → IsDue rules shelf None (usage []) → ⊥
  pub shown : (run : Run) (before : List ℕ) → run.err.before ≡ Some before → KeepsRows run 2 → run.err.after ≡ Some before → ⊥
