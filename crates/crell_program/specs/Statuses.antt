-- What the statuses say of the words and the files.
use Rattle.std.specs.Prelude.{◌≡◌, ◌≢◌, ◌↔◌, ◌⊎◌, ◌≤◌, ◌<◌, ◌==◌, ℕ, List, [], ◌∷◌, length, Option, None, Some, IsTrue}
use Rattle.std.specs.List.{list_any, AllByRecursion, AllZip}
use Rattle.ir_core.specs.declared.modules.Module.{Module}
use Rattle.ir_machine.specs.Refinement.{Refines}
use Rattle.ir_lexer.specs.declared.fault.TextFault.{TextFault}
use Rattle.ir_lexer.specs.declared.fault.TextFault.TheVariants as text
use Rattle.ir_reader.specs.declared.fault.ModuleFault.{ModuleFault}
use Rattle.ir_reader.specs.declared.fault.ModuleFault.TheVariants as faults
use Rattle.ir_core.specs.declared.limits.Limit.{Limit}
use Rattle.json_forms.specs.declared.failure.Fault.{Fault}
use Rattle.json_forms.specs.declared.failure.Fault.TheVariants.{At, Past}
use Rattle.hint_format.specs.Form.{HintsOf, IsHintFault}
use Rattle.erhl_assert.specs.declared.hints.Hints.{Hints}
use Rattle.erhl_assert.specs.declared.verdict.ModuleVerdict.{ModuleVerdict}
use Rattle.erhl_assert.specs.declared.verdict.ModuleVerdict.TheVariants as modules
use Rattle.erhl_assert.specs.Steps.{Rules}
use Rattle.crell_program.specs.PairAnswer.{pair_answer}
use Rattle.crell_io.specs.Shelf.{Told, IfTold, IsBytesAnd}
use Rattle.crell_io.specs.Shelf.Told.{NoSuch}
use Rattle.crell_program.specs.declared.command.Form.{Form}
use Rattle.crell_program.specs.declared.command.Form.TheVariants.{ModuleText, HintFile}
use Rattle.crell_program.specs.CommandLine.Words.{Command, Check, Print}
use Rattle.crell_program.specs.Command.{File, most_bytes, files_of}
use Rattle.crell_program.specs.Due.{ShelfSeen, Missing, Long, MayCome, Lists}
use Rattle.crell_program.specs.Modules.{SpellsOne, SpellsOnly}
use Rattle.ir_reader.specs.Faults.{IsAtFault, SpellsWellFormed}
use Rattle.module_spelling.specs.Spells.{Spells}

-- Each of the texts spells one module, and the target's refines the source's: whatever it shows, the source's may show too, unless that has
-- undefined behaviour first.
abbrev pub AreRefined : List ℕ → List ℕ → Type 0
AreRefined source target =
    SpellsOne source × SpellsOne target × ((s t : Module) → Spells source s → Spells target t → Refines s t)

-- of texts that spell these modules alone it says that these refine, and no more
abbrev pub RefinementIsOfModules : Type 0
RefinementIsOfModules =
    (source target : List ℕ) (s t : Module) → SpellsOnly source s → SpellsOnly target t → AreRefined source target ↔ Refines s t

-- The texts of a command's files are such that the command has done what it is for. Those of `check` refine; that of `defs` or `fmt` spells one module,
-- and the rows say what is printed of it.
abbrev pub IsRefinement : (List ℕ → Told) → Command → Type 0
IsRefinement told (Check names) = IfTold (told names.source) (λ source. IfTold (told names.target) (λ target. AreRefined source target))
IsRefinement told (Print listing file) = IfTold (told file) (SpellsOne)

-- THE HEADLINE. The words are a command's, and if the shelf tells what it holds under the source's and the target's names,
-- these bytes spell two modules, of which the target's refines the source's, if the command is `check`.
abbrev pub IsRefinementOfBytes : (List ℕ → Told) → Option Command → Type 0
IsRefinementOfBytes told None = ⊥
IsRefinementOfBytes told (Some command) = IsRefinement told command

-- one of the files is such
abbrev pub SomeOf : (File → Type 0) → List File → Type 0
SomeOf P [] = ⊥
SomeOf P (file ∷ files) = P file ⊎ SomeOf P files

-- the words are a command's, and one of its files is such
abbrev pub SomeFile : (File → Type 0) → Option Command → Type 0
SomeFile P None = ⊥
SomeFile P (Some command) = SomeOf P (files_of command)

-- one of a command's files is to hold hints
abbrev pub ReadsHints : Command → Type 0
ReadsHints command = SomeOf (λ file. file.form ≡ HintFile) (files_of command)

-- one of the files may come as missing, or as longer than its limit
abbrev pub SomeFileIsMissing : ShelfSeen → Option Command → Type 0
SomeFileIsMissing shelf command = SomeFile (λ file. MayCome shelf file Missing) command

abbrev pub SomeFileIsLonger : ShelfSeen → Option Command → Type 0
SomeFileIsLonger shelf command = SomeFile (λ file. MayCome shelf file Long) command

-- the status that a fault of a module's text has
abbrev pub text_status : TextFault → ℕ
text_status (text.Limit limit) = 9
text_status text.Memory = 8
text_status _ = 3

abbrev pub module_status : ModuleFault → ℕ
module_status (faults.Text f) = text_status f
module_status (faults.Shape f) = 4
module_status (faults.Undefined function u) = 4
module_status faults.Memory = 8

-- the text is a module's, and its first fault has that status
abbrev pub IsUnfit : ℕ → Form → List ℕ → Type 0
IsUnfit status ModuleText text = (fault : ModuleFault) × IsAtFault text fault × (module_status fault ≡ status)
IsUnfit status HintFile text = ⊥

-- the text is of its form: a module's spells one that is well-formed
abbrev pub IsFit : Form → List ℕ → Type 0
IsFit ModuleText text = (m : Module) × SpellsWellFormed text m
IsFit HintFile text = (h : Hints) × HintsOf text h

-- a place is first at fault; a text passes a limit before that
abbrev pub IsPlace : Fault → Type 0
IsPlace fault = (path : List ℕ) × (fault ≡ At path)

abbrev pub IsPassedLimit : Fault → Type 0
IsPassedLimit fault = (limit : Limit) × (fault ≡ Past limit)

-- the text is that of a well-formed module, or that of hints whose first fault is such
abbrev pub HasFault : (Fault → Type 0) → Form → List ℕ → Type 0
HasFault P ModuleText text = IsFit ModuleText text
HasFault P HintFile text = (fault : Fault) × P fault × IsHintFault text fault

-- none of the files is told to be absent
abbrev pub NoneIsAbsent : (List ℕ → Told) → List File → Type 0
NoneIsAbsent told files = AllByRecursion (λ file. told file.name ≢ NoSuch) files

-- If the shelf tells all of the files, their texts are such. (A file that is told to be absent, where those before it are told,
-- is against this.)
abbrev pub IfAllTold : (List ℕ → Told) → List File → (List (List ℕ) → Type 0) → Type 0
IfAllTold told [] P = P []
IfAllTold told (file ∷ files) P = IfTold (told file.name) (λ text. IfAllTold told files (λ texts. P (text ∷ texts)))

-- the shelf tells all of the files, they are within their limits, and their texts are such
abbrev pub HoldsAllOf : (List ℕ → Told) → List File → (List (List ℕ) → Type 0) → Type 0
HoldsAllOf told [] P = P []
HoldsAllOf told (file ∷ files) P =
    IsBytesAnd (told file.name) (λ text. (length text ≤ most_bytes file) × HoldsAllOf told files (λ texts. P (text ∷ texts)))

-- the words are a command's, and that is so of its files
abbrev pub HoldsAll : (List ℕ → Told) → Option Command → (Command → List (List ℕ) → Type 0) → Type 0
HoldsAll told None P = ⊥
HoldsAll told (Some command) P = HoldsAllOf told (files_of command) (P command)

-- Of the texts, one for each file, the first that isn't of its form is a module's, and its first fault has that status.
abbrev pub FirstIsUnfit : ℕ → List File → List (List ℕ) → Type 0
FirstIsUnfit status [] texts = ⊥
FirstIsUnfit status (file ∷ files) [] = ⊥
FirstIsUnfit status (file ∷ files) (text ∷ texts) =
    IsUnfit status file.form text ⊎ (IsFit file.form text × FirstIsUnfit status files texts)

-- The command reads hints. Of the texts, one for each file, those of modules are well-formed modules', and the first fault of the hints is
-- this.
abbrev pub HintsHaveFault : Fault → Command → List (List ℕ) → Type 0
HintsHaveFault fault command texts = ReadsHints command × AllZip (λ (file : File). HasFault (λ f. f ≡ fault) file.form) (files_of command) texts

-- the status that a fault of hints has
abbrev pub fault_status : Fault → ℕ
fault_status (At path) = 5
fault_status (Past limit) = 9

-- The texts are of their forms, and what the checker answers on them is such.
abbrev pub AreJudged : Rules → (Option ModuleVerdict → Type 0) → Command → List (List ℕ) → Type 0
AreJudged rules P (Check names) (source ∷ target ∷ hints ∷ []) =
    (s : Module) × (t : Module) × (h : Hints) × SpellsWellFormed source s × SpellsWellFormed target t × HintsOf hints h × P (pair_answer rules s t h)
AreJudged rules P (Check names) [] = ⊥
AreJudged rules P (Check names) (source ∷ []) = ⊥
AreJudged rules P (Check names) (source ∷ target ∷ []) = ⊥
AreJudged rules P (Check names) (source ∷ target ∷ hints ∷ text ∷ more) = ⊥
AreJudged rules P (Print listing file) texts = ⊥

-- The words are a command's, and none of its files is told to be absent. One of them is to hold a module, and if it is told, its
-- first fault has that status.
abbrev pub SomeFileIsUnfit : ℕ → (List ℕ → Told) → Option Command → Type 0
SomeFileIsUnfit status told None = ⊥
SomeFileIsUnfit status told (Some command) =
    NoneIsAbsent told (files_of command)
    × SomeOf (λ file. (file.form ≢ HintFile) × IfTold (told file.name) (IsUnfit status file.form)) (files_of command)

-- The words are a command's that reads hints, and none of its files is told to be absent. Each module, if it is told, is well-formed, and
-- the first fault of the hints, if they are told, is such.
abbrev pub HintsAreAtFault : (Fault → Type 0) → (List ℕ → Told) → Option Command → Type 0
HintsAreAtFault P told None = ⊥
HintsAreAtFault P told (Some command) =
    ReadsHints command
    × NoneIsAbsent told (files_of command)
    × AllByRecursion (λ file. IfTold (told file.name) (HasFault P file.form)) (files_of command)

-- the checker has a verdict, and refuses
abbrev pub IsInvalid : Option ModuleVerdict → Type 0
IsInvalid answer = (v : ModuleVerdict) × (answer ≡ Some v) × (v ≢ modules.Valid)

-- too many facts are known
abbrev pub HasNoVerdict : Option ModuleVerdict → Type 0
HasNoVerdict answer = answer ≡ None

-- The words are a command's that reads hints, and none of its files is told to be absent. Each, if it is told, is of its form. If all
-- are told, what the checker answers on them is such.
abbrev pub IsAnswer : (Option ModuleVerdict → Type 0) → Rules → (List ℕ → Told) → Option Command → Type 0
IsAnswer P rules told None = ⊥
IsAnswer P rules told (Some command) =
    ReadsHints command
    × NoneIsAbsent told (files_of command)
    × AllByRecursion (λ file. IfTold (told file.name) (IsFit file.form)) (files_of command)
    × IfAllTold told (files_of command) (AreJudged rules P command)

-- the shelf tells all of the files, they are within their limits, and what the checker answers on their texts is such
abbrev pub HasVerdict : Rules → (List ℕ → Told) → Option Command → (Option ModuleVerdict → Type 0) → Type 0
HasVerdict rules told command P = HoldsAll told command (AreJudged rules P)

-- of the texts of `defs` or `fmt` there is one, which spells a well-formed module
abbrev pub IsListed : Command → List (List ℕ) → Type 0
IsListed (Check names) texts = ⊥
IsListed (Print listing file) texts = AllZip (λ (file : File). IsFit file.form) (files_of (Print listing file)) texts

-- Where the command is `defs` or `fmt`: the text of its file, if it is told, spells one module, which is well-formed; and what
-- is listed of it, the lines of its blocks with the registers that are defined at their starts, or the module, as it is or with names for its
-- numbers, is such.
abbrev pub HasListing : (List ℕ → Told) → Option Command → (List ℕ → Type 0) → Type 0
HasListing told None P = Unit {0}
HasListing told (Some (Check names)) P = Unit {0}
HasListing told (Some (Print listing file)) P =
    (text : List ℕ) × IfTold (told file) (λ held. text ≡ held)
    × ((m : Module) × SpellsOnly text m × ((listed : List ℕ) × Lists listing m listed × P listed))

-- told to be absent
abbrev pub IsAbsent : (List ℕ → Told) → File → Type 0
IsAbsent told file = told file.name ≡ NoSuch

-- told, and longer than its limit
abbrev pub IsOverlong : (List ℕ → Told) → File → Type 0
IsOverlong told file = IsBytesAnd (told file.name) (λ held. most_bytes file < length held)

-- told, and within its limit
abbrev pub IsHeldWithin : (List ℕ → Told) → File → Type 0
IsHeldWithin told file = IsBytesAnd (told file.name) (λ held. length held ≤ most_bytes file)

-- the first of the files that isn't told to be held within its limit is such
abbrev pub FirstUnheldOf : ((List ℕ → Told) → File → Type 0) → (List ℕ → Told) → List File → Type 0
FirstUnheldOf P told [] = ⊥
FirstUnheldOf P told (file ∷ files) = P told file ⊎ (IsHeldWithin told file × FirstUnheldOf P told files)

-- the words are a command's, and that is so of its files
abbrev pub FirstUnheld : ((List ℕ → Told) → File → Type 0) → (List ℕ → Told) → Option Command → Type 0
FirstUnheld P told None = ⊥
FirstUnheld P told (Some command) = FirstUnheldOf P told (files_of command)

-- the statuses that there are
abbrev pub IsStatus : ℕ → Type 0
IsStatus status = IsTrue (list_any (λ known. known == status) (0 ∷ 1 ∷ 2 ∷ 3 ∷ 4 ∷ 5 ∷ 6 ∷ 7 ∷ 8 ∷ 9 ∷ 10 ∷ []))
