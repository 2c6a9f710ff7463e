-- Which answer is due: the words, then the files in their order, then their forms in their order, then the work. The first
-- cause decides.
use Rattle.std.specs.Prelude.{◌≡◌, ◌≢◌, ◌⊎◌, ◌≤◌, ◌<◌, ℕ, List, [], ◌∷◌, length, Option, None, Some, Ok, Err}
use Rattle.ir_core.specs.declared.modules.Module.{Module}
use Rattle.ir_core.specs.declared.limits.Limit.TheVariants as limit
use Rattle.ir_reader.specs.declared.fault.ModuleFault.{ModuleFault}
use Rattle.json_forms.specs.declared.failure.Fault.{Fault}
use Rattle.json_forms.specs.Forms.{Reading}
use Rattle.hint_format.specs.Form.{IsHintReading}
use Rattle.erhl_assert.specs.declared.hints.Hints.{Hints}
use Rattle.erhl_assert.specs.Steps.{Rules}
use Rattle.crell_program.specs.PairAnswer.{pair_answer}
use Rattle.erhl_assert.specs.declared.verdict.ModuleVerdict.{ModuleVerdict}
use Rattle.crell_io.specs.Count.{HasRisen, HasRisenAbove}
use Rattle.crell_io.specs.Shelf.{Told, IfTold}
use Rattle.crell_io.specs.Shelf.Told.{NoSuch}
use Rattle.crell_program.specs.declared.command_line.request.Listing.{Listing}
use Rattle.crell_program.specs.declared.command_line.request.Listing.TheVariants.{Definitions, ModuleItself, NamedModule}
use Rattle.crell_program.specs.CommandLine.Words.{CheckFiles, Command, Check, Print}
use Rattle.crell_program.specs.Command.{File, limit_of, most_bytes, files_of}
use Rattle.crell_program.specs.Modules.{SpellsOnly}
use Rattle.ir_reader.specs.Faults.{IsAtFault}
use Rattle.crell_program.specs.declared.crell_answers.answer.Answer.{Answer}
use Rattle.crell_program.specs.CrellAnswers.Answer.{usage, module_fault, at_fault, printed, read_failed, past_limit, absent}
use Rattle.crell_program.specs.CrellAnswers.VerdictText.{verdict_answer}
use Rattle.crell_program.specs.DefinitionText.Lines.{AreLines}
use Rattle.ir_printer.specs.Printed.{printed_module}
use Rattle.ir_rename.specs.Named.{named_all}

-- what came of asking for a file
pub data Got : Type 0 where
  Held : List ℕ → Got
  Missing : Got
  Long : Got
  Broken : Got

-- The shelf before the program and after it: what it tells of names, and its two counts.
pub record ShelfSeen : Type 0 where
  pub told : List ℕ → Told
  pub faults : ℕ
  pub faults_after : ℕ
  pub taken : ℕ
  pub taken_after : ℕ

abbrev pub shelf_seen : {S : Type 0} → (S → List ℕ → Told) → (S → ℕ) → (S → ℕ) → S → S → ShelfSeen
shelf_seen told faults taken old new =
    record { told = told old; faults = faults old; faults_after = faults new; taken = taken old; taken_after = taken new }

-- What may come of asking for a file: its bytes, as the shelf tells them; that it is missing, where the shelf tells so; that
-- it is too long, where more bytes were taken; or that reading failed, where a fault was counted in the run.
abbrev pub MayCome : ShelfSeen → File → Got → Type 0
MayCome shelf file (Held bytes) = (length bytes ≤ most_bytes file) × IfTold (shelf.told file.name) (λ held. bytes ≡ held)
MayCome shelf file Missing = shelf.told file.name ≡ NoSuch
MayCome shelf file Long =
    HasRisenAbove (most_bytes file) shelf.taken shelf.taken_after × IfTold (shelf.told file.name) (λ held. most_bytes file < length held)
MayCome shelf file Broken = HasRisen shelf.faults shelf.faults_after

-- a file that isn't held is the answer's cause; one that is held leads on
abbrev pub DueAfter : Got → File → Answer → (List ℕ → Type 0) → Type 0
DueAfter (Held bytes) file answer next = next bytes
DueAfter Missing file answer next = answer ≡ absent file.name
DueAfter Long file answer next = answer ≡ past_limit (limit_of file.form) file.name
DueAfter Broken file answer next = answer ≡ read_failed file.name

-- one file is judged
abbrev pub DueOfFile : ShelfSeen → File → Answer → (List ℕ → Type 0) → Type 0
DueOfFile shelf file answer next = (got : Got) × MayCome shelf file got × DueAfter got file answer next

-- files are judged one after another; where all are held, their bytes lead on
abbrev pub DueOfFiles : ShelfSeen → List File → Answer → (List (List ℕ) → Type 0) → Type 0
DueOfFiles shelf [] answer next = next []
DueOfFiles shelf (file ∷ files) answer next =
    DueOfFile shelf file answer (λ bytes. DueOfFiles shelf files answer (λ more. next (bytes ∷ more)))

-- a hint file's text is read as these hints, or as this first fault, and as nothing else
abbrev pub IsReadOnlyAs : List ℕ → Reading Hints → Type 0
IsReadOnlyAs text due = IsHintReading text due × ((other : Reading Hints) → IsHintReading text other → other ≡ due)

-- a module's text is judged: its first fault is the answer's cause, and its module leads on
abbrev pub DueOfModule : List ℕ → List ℕ → Answer → (Module → Type 0) → Type 0
DueOfModule name text answer next =
    ((fault : ModuleFault) × IsAtFault text fault × (answer ≡ module_fault fault text name))
    ⊎ ((m : Module) × SpellsOnly text m × next m)

-- a hint file's text is judged: its first fault is the answer's cause, and its hints lead on
abbrev pub DueOfHints : List ℕ → List ℕ → Answer → (Hints → Type 0) → Type 0
DueOfHints name text answer next =
    ((fault : Fault) × IsReadOnlyAs text (Err fault) × (answer ≡ at_fault fault name)) ⊎ ((h : Hints) × IsReadOnlyAs text (Ok h) × next h)

-- the checker's verdict, or that too many facts are known for one, which is said of the source's file
abbrev pub checked : Option ModuleVerdict → List ℕ → Answer
checked (Some v) source = verdict_answer v
checked None source = past_limit limit.Facts source

-- the three texts of `check` are judged, and then the pair
abbrev pub DueOfCheck : Rules → CheckFiles → Answer → List ℕ → List ℕ → List ℕ → Type 0
DueOfCheck rules names answer source target hints =
    DueOfModule names.source source answer (λ s.
    DueOfModule names.target target answer (λ t.
    DueOfHints names.hints hints answer (λ h. answer ≡ checked (pair_answer rules s t h) names.source)))

-- The text is what is listed of the module: for each block of its functions what is defined at its start; or the module itself, or with
-- texts for its numbers.
abbrev pub Lists : Listing → Module → List ℕ → Type 0
Lists Definitions m text = AreLines m.functions text
Lists ModuleItself m text = text ≡ printed_module m
Lists NamedModule m text = text ≡ printed_module (named_all m)

-- what is listed of the module is printed
abbrev pub IsListing : Listing → Module → Answer → Type 0
IsListing listing m answer = (text : List ℕ) × Lists listing m text × (answer ≡ printed text)

-- the text of `defs` or `fmt` is judged, and then what is listed of its module is printed
abbrev pub DueOfListing : Listing → List ℕ → Answer → List ℕ → Type 0
DueOfListing listing file answer text = DueOfModule file text answer (λ m. IsListing listing m answer)

-- the texts of a command's files are there, one for each
abbrev pub DueOfTexts : Rules → Command → Answer → List (List ℕ) → Type 0
DueOfTexts rules (Check names) answer (source ∷ target ∷ hints ∷ []) = DueOfCheck rules names answer source target hints
DueOfTexts rules (Check names) answer [] = ⊥
DueOfTexts rules (Check names) answer (source ∷ []) = ⊥
DueOfTexts rules (Check names) answer (source ∷ target ∷ []) = ⊥
DueOfTexts rules (Check names) answer (source ∷ target ∷ hints ∷ text ∷ more) = ⊥
DueOfTexts rules (Print listing file) answer (text ∷ []) = DueOfListing listing file answer text
DueOfTexts rules (Print listing file) answer [] = ⊥
DueOfTexts rules (Print listing file) answer (text ∷ other ∷ more) = ⊥

-- The answer that is due to these words; to those that are no command's, any text that says so, which isn't empty.
abbrev pub IsDue : Rules → ShelfSeen → Option Command → Answer → Type 0
IsDue rules shelf None answer = (text : List ℕ) × (text ≢ []) × (answer ≡ usage text)
IsDue rules shelf (Some command) answer = DueOfFiles shelf (files_of command) answer (DueOfTexts rules command answer)
