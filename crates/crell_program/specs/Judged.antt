-- What is told of a command's files, where it is told of each, meets one of the premises under which the rows fix the status.
use Rattle.std.specs.Prelude.{◌≡◌, ◌<◌, ◌⊎◌, ℕ, List, Option, Some}
use Rattle.std.specs.List.{AllByRecursion}
use Rattle.ir_core.specs.declared.modules.Module.{Module}
use Rattle.ir_reader.specs.declared.fault.ModuleFault.{ModuleFault}
use Rattle.json_forms.specs.declared.failure.Fault.{Fault}
use Rattle.hint_format.specs.Form.{HintsOf, IsHintFault}
use Rattle.erhl_assert.specs.declared.hints.Hints.{Hints}
use Rattle.erhl_assert.specs.declared.verdict.ModuleVerdict.TheVariants as modules
use Rattle.erhl_assert.specs.Steps.{Rules}
use Rattle.crell_io.specs.Count.{last_count}
use Rattle.crell_io.specs.Shelf.{Told}
use Rattle.crell_io.specs.Shelf.Told.{NoSuch, Bytes}
use Rattle.crell_program.specs.CommandLine.Words.{Command}
use Rattle.crell_program.specs.declared.command.Form.{Form}
use Rattle.crell_program.specs.declared.command.Form.TheVariants.{ModuleText, HintFile}
use Rattle.crell_program.specs.Command.{File, files_of}
use Rattle.ir_reader.specs.Faults.{IsAtFault, SpellsWellFormed}
use Rattle.crell_program.specs.Rows.{Run, NoFault}
use Rattle.crell_program.specs.Statuses.{HoldsAll, FirstIsUnfit, HintsHaveFault, IsListed, HasVerdict, IsInvalid, HasNoVerdict, FirstUnheld, IsAbsent, IsOverlong}

-- The text is judged: it spells a well-formed module, or something is first at fault in it; or it is that of hints, or
-- something is first at fault in them.
abbrev pub IsJudged : Form → List ℕ → Type 0
IsJudged ModuleText text = ((m : Module) × SpellsWellFormed text m) ⊎ ((fault : ModuleFault) × IsAtFault text fault)
IsJudged HintFile text = ((h : Hints) × HintsOf text h) ⊎ ((fault : Fault) × IsHintFault text fault)

-- the file is told to be absent, or its bytes are told, which are judged
abbrev pub IsToldJudged : (List ℕ → Told) → File → Type 0
IsToldJudged told file = (told file.name ≡ NoSuch) ⊎ ((held : List ℕ) × (told file.name ≡ Bytes held) × IsJudged file.form held)

-- a status of a fault of a module's text
abbrev pub IsTextStatus : ℕ → Type 0
IsTextStatus status = (status ≡ 3) ⊎ (status ≡ 4) ⊎ (status ≡ 9)

-- One of the premises holds: the first file that isn't held within its limit is absent, or longer; or all are held, and a module is first at fault,
-- or the hints are; or the module of `defs` or `fmt` is listed; or the checker says valid, or invalid, or nothing.
abbrev pub MeetsOne : Rules → (List ℕ → Told) → Option Command → Type 0
MeetsOne rules told command =
    FirstUnheld IsAbsent told command
    ⊎ FirstUnheld IsOverlong told command
    ⊎ ((status : ℕ) × IsTextStatus status × HoldsAll told command (λ known. FirstIsUnfit status (files_of known)))
    ⊎ ((fault : Fault) × HoldsAll told command (HintsHaveFault fault))
    ⊎ HoldsAll told command IsListed
    ⊎ HasVerdict rules told command (λ said. said ≡ Some modules.Valid)
    ⊎ HasVerdict rules told command IsInvalid
    ⊎ HasVerdict rules told command HasNoVerdict

-- whatever is told of a command's files, where of each it is told that it is absent, or bytes that are judged
abbrev pub RunsAreJudged : Type 0
RunsAreJudged =
    (rules : Rules) (told : List ℕ → Told) (command : Command) → AllByRecursion (IsToldJudged told) (files_of command) → MeetsOne rules told (Some command)

-- a count that stays, and isn't at its last value
abbrev pub Stays : ℕ → ℕ → Type 0
Stays old new = (new ≡ old) × (new < last_count)

-- where the three counts of faults stay there is no fault
abbrev pub StillRunsHaveNoFault : Type 0
StillRunsHaveNoFault =
    (run : Run) → Stays run.shelf.faults run.shelf.faults_after → Stays run.out.faults run.out.faults_after → Stays run.err.faults run.err.faults_after → NoFault run
