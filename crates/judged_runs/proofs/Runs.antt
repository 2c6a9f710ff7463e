-- What is told of a command's files is judged.
use Rattle.std.proofs.Common.{◌≡◌, ◌⊎◌, inl, inr, ℕ, List, [], ◌∷◌, refl}
use Rattle.std.specs.List.{AllByRecursion}
use Rattle.ir_core.specs.declared.modules.Module.{Module}
use Rattle.ir_core.specs.Ranges.{AreBytes}
use Rattle.ir_reader.specs.declared.fault.ModuleFault.{ModuleFault}
use Rattle.ir_reader.specs.Faults.{IsAtFault}
use Rattle.crell_io.specs.Shelf.{Told}
use Rattle.crell_io.specs.Shelf.Told.{Untold, NoSuch, Bytes}
use Rattle.crell_program.specs.declared.command.Form.{Form}
use Rattle.crell_program.specs.declared.command.Form.TheVariants.{ModuleText, HintFile}
use Rattle.crell_program.specs.Command.{File}
use Rattle.crell_program.specs.Judged.{IsJudged, IsToldJudged}
use Rattle.renaming_laws.specs.Judged.{IsFitting, TextsAreJudged}
use Rattle.judged_runs.specs.HintFiles.{HintFilesAreJudged}
use Rattle.judged_runs.specs.Runs.{IsTold}

module_judged : (bytes : List ℕ) → ((m : Module) × IsFitting bytes m) ⊎ ((f : ModuleFault) × IsAtFault bytes f) → IsJudged ModuleText bytes
module_judged bytes (inl (m, fits)) = inl (m, fits.1)
module_judged bytes (inr at_fault) = inr at_fault

module _ (modules : TextsAreJudged) (hints : HintFilesAreJudged) where
  text_judged : (form : Form) (bytes : List ℕ) → AreBytes bytes → IsJudged form bytes
  text_judged ModuleText bytes are = module_judged bytes (modules bytes are)
  text_judged HintFile bytes are = hints bytes

  file_judged : (name : List ℕ) (form : Form) (told : List ℕ → Told) (t : Told) → told name ≡ t → IsTold t → IsToldJudged told (record { name = name; form = form })
  file_judged name form told Untold is none = absurd none
  file_judged name form told NoSuch is absent = inl is
  file_judged name form told (Bytes held) is are = inr (held, is, text_judged form held are)

  pub files_judged : (told : List ℕ → Told) (files : List File) → AllByRecursion (λ (file : File). IsTold (told file.name)) files → AllByRecursion (IsToldJudged told) files
  files_judged told [] all = tt
  files_judged told (file ∷ files) (is, all) = (file_judged file.name file.form told (told file.name) refl is, files_judged told files all)
