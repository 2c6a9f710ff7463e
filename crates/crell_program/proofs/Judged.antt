-- What is told of a command's files meets one of the premises under which the rows fix the status.
use Rattle.std.proofs.Common.{◌≡◌, ◌≢◌, ◌⊎◌, ⊎_elim, ◌≤◌, ◌<◌, ℕ, List, [], ◌∷◌, length, Option, None, Some, refl, sym, subst, inl, inr, arith}
use Rattle.std.proofs.lemmas.Bool.{cases_lt}
use Rattle.std.specs.List.{AllByRecursion, AllZip}
use Rattle.ir_core.specs.declared.modules.Module.{Module}
use Rattle.ir_lexer.specs.declared.fault.TextFault.{TextFault}
use Rattle.ir_lexer.specs.declared.fault.TextFault.TheVariants as text
use Rattle.ir_reader.specs.declared.fault.ModuleFault.{ModuleFault}
use Rattle.ir_reader.specs.declared.fault.ModuleFault.TheVariants as faults
use Rattle.hint_format.specs.Form.{HintsOf}
use Rattle.erhl_assert.specs.declared.hints.Hints.{Hints}
use Rattle.erhl_assert.specs.declared.verdict.ModuleVerdict.{ModuleVerdict}
use Rattle.erhl_assert.specs.declared.verdict.ModuleVerdict.TheVariants as modules
use Rattle.crell_program.specs.PairAnswer.{pair_answer}
use Rattle.erhl_assert.specs.Steps.{Rules}
use Rattle.crell_io.specs.Count.{HasRisen}
use Rattle.crell_io.specs.Shelf.{Told, IsBytesAnd}
use Rattle.crell_io.specs.Shelf.Told.{Bytes}
use Rattle.crell_program.specs.declared.command_line.request.Listing.{Listing}
use Rattle.crell_program.specs.CommandLine.Words.{CheckFiles, Command, Check, Print}
use Rattle.crell_program.specs.declared.command.Form.TheVariants.{ModuleText, HintFile}
use Rattle.crell_program.specs.Command.{File, most_bytes, files_of}
use Rattle.ir_reader.specs.Faults.{IsAtFault, SpellsWellFormed}
use Rattle.crell_program.specs.Judged.{IsJudged, IsToldJudged, IsTextStatus, MeetsOne, RunsAreJudged, Stays, StillRunsHaveNoFault}
use Rattle.crell_program.specs.Statuses.{HoldsAllOf, FirstIsUnfit, HintsHaveFault, IsListed, AreJudged, IsInvalid, HasNoVerdict, FirstUnheldOf, IsAbsent, IsOverlong, module_status, text_status}

-- ---- the files that are held

-- the texts are told, one of each file, and within the limits
abbrev AreToldWithin : (List ℕ → Told) → List File → List (List ℕ) → Type 0
AreToldWithin told [] [] = Unit {0}
AreToldWithin told (file ∷ files) (text ∷ texts) = (told file.name ≡ Bytes text) × (length text ≤ most_bytes file) × AreToldWithin told files texts
AreToldWithin told [] (text ∷ texts) = ⊥
AreToldWithin told (file ∷ files) [] = ⊥

abbrev AllJudged : List File → List (List ℕ) → Type 0
AllJudged = AllZip (λ (file : File). IsJudged file.form)

within_told : (t : Told) (text : List ℕ) (P : List ℕ → Type 0) → t ≡ Bytes text → P text → IsBytesAnd t P
within_told t text P is p = subst (λ x. IsBytesAnd x P) (sym is) p

-- what is so of these texts is so of what is held
holds : (told : List ℕ → Told) (files : List File) (texts : List (List ℕ)) (P : List (List ℕ) → Type 0) → AreToldWithin told files texts → P texts → HoldsAllOf told files P
holds told [] [] P are p = p
holds told (file ∷ files) (text ∷ texts) P (is, short, more) p =
    within_told (told file.name) text (λ held. (length held ≤ most_bytes file) × HoldsAllOf told files (λ ts. P (held ∷ ts))) is
    (short, holds told files texts (λ ts. P (text ∷ ts)) more p)
holds told [] (text ∷ texts) P are p = absurd are
holds told (file ∷ files) [] P are p = absurd are

-- the files are judged, or the first that isn't held within its limit is absent, or longer
abbrev Gathered : (List ℕ → Told) → List File → Type 0
Gathered told files =
    FirstUnheldOf IsAbsent told files
    ⊎ FirstUnheldOf IsOverlong told files
    ⊎ ((texts : List (List ℕ)) × AreToldWithin told files texts × AllJudged files texts)

one_more : (told : List ℕ → Told) (file : File) (files : List File) (held : List ℕ) → told file.name ≡ Bytes held → length held ≤ most_bytes file → IsJudged file.form held
    → Gathered told files → Gathered told (file ∷ files)
one_more told file files held is short judged (inl absent) =
    inl (inr (within_told (told file.name) held (λ h. length h ≤ most_bytes file) is short, absent))
one_more told file files held is short judged (inr (inl long)) =
    inr (inl (inr (within_told (told file.name) held (λ h. length h ≤ most_bytes file) is short, long)))
one_more told file files held is short judged (inr (inr (texts, are, all))) = inr (inr (held ∷ texts, (is, short, are), (judged, all)))

gathered : (told : List ℕ → Told) (files : List File) → AllByRecursion (IsToldJudged told) files → Gathered told files
gathered told [] all = inr (inr ([], tt, tt))
gathered told (file ∷ files) (inl absent, all) = inl (inl absent)
gathered told (file ∷ files) (inr (held, is, judged), all) =
    ⊎_elim
    (λ (long : most_bytes file < length held). inr (inl (inl (within_told (told file.name) held (λ h. most_bytes file < length h) is long))))
    (λ (short : length held ≤ most_bytes file). one_more told file files held is short judged (gathered told files all))
    (cases_lt (most_bytes file) (length held))

-- ---- statuses

text_status_is : (f : TextFault) → f ≢ text.Memory → IsTextStatus (text_status f)
text_status_is (text.Limit limit) told = inr (inr refl)
text_status_is text.Memory told = absurd (told refl)
text_status_is (text.BadByte place) told = inl refl
text_status_is (text.BadString place) told = inl refl
text_status_is (text.BadNumber place) told = inl refl
text_status_is (text.Expected place) told = inl refl
text_status_is (text.LeftOut place size) told = inl refl
text_status_is (text.Unknown place size) told = inl refl
text_status_is (text.Twice place size) told = inl refl
text_status_is (text.WrongNumber place expected) told = inl refl
text_status_is (text.WrongType place) told = inl refl

module_status_is : (bytes : List ℕ) (f : ModuleFault) → IsAtFault bytes f → IsTextStatus (module_status f)
module_status_is bytes (faults.Text f) is = text_status_is f is.0.1
module_status_is bytes (faults.Shape f) is = inr (inl refl)
module_status_is bytes (faults.Undefined function u) is = inr (inl refl)
module_status_is bytes faults.Memory is = absurd (is.1 refl)

-- ---- the texts of a command

module _ (rules : Rules) (told : List ℕ → Told) where
  module _ (names : CheckFiles) (source target hints : List ℕ) (are : AreToldWithin told (files_of (Check names)) (source ∷ target ∷ hints ∷ [])) where
    abbrev texts : List (List ℕ)
    texts = source ∷ target ∷ hints ∷ []

    unfit : (fault : ModuleFault) → IsTextStatus (module_status fault) → FirstIsUnfit (module_status fault) (files_of (Check names)) texts
        → MeetsOne rules told (Some (Check names))
    unfit fault is first = inr (inr (inl (module_status fault, is, holds told (files_of (Check names)) texts (FirstIsUnfit (module_status fault) (files_of (Check names))) are first)))

    verdict : (s t : Module) (h : Hints) → SpellsWellFormed source s → SpellsWellFormed target t → HintsOf hints h
        → (said : Option ModuleVerdict) → pair_answer rules s t h ≡ said → MeetsOne rules told (Some (Check names))
    verdict s t h sp tp hp None e =
        inr (inr (inr (inr (inr (inr (inr (holds told (files_of (Check names)) texts (AreJudged rules HasNoVerdict (Check names)) are (s, t, h, sp, tp, hp, e))))))))
    verdict s t h sp tp hp (Some modules.Valid) e =
        inr (inr (inr (inr (inr (inl
        (holds told (files_of (Check names)) texts (AreJudged rules (λ said. said ≡ Some modules.Valid) (Check names)) are (s, t, h, sp, tp, hp, e)))))))
    verdict s t h sp tp hp (Some (modules.Differs what)) e =
        inr (inr (inr (inr (inr (inr (inl
        (holds told (files_of (Check names)) texts (AreJudged rules IsInvalid (Check names)) are (s, t, h, sp, tp, hp, (modules.Differs what, e, λ same. cc)))))))))
    verdict s t h sp tp hp (Some (modules.Refused function block spot reason)) e =
        inr (inr (inr (inr (inr (inr (inl
        (holds told (files_of (Check names)) texts (AreJudged rules IsInvalid (Check names)) are
        (s, t, h, sp, tp, hp, (modules.Refused function block spot reason, e, λ same. cc)))))))))

    of_hints : (s t : Module) → SpellsWellFormed source s → SpellsWellFormed target t → IsJudged HintFile hints → MeetsOne rules told (Some (Check names))
    of_hints s t sp tp (inl (h, hp)) = verdict s t h sp tp hp (pair_answer rules s t h) refl
    of_hints s t sp tp (inr (fault, is)) =
        inr (inr (inr (inl (
          fault,
          holds told (files_of (Check names)) texts (HintsHaveFault fault (Check names)) are
              (inr (inr (inl refl)), ((s, sp), ((t, tp), ((fault, refl, is), tt)))),
        ))))

    of_target : (s : Module) → SpellsWellFormed source s → IsJudged ModuleText target → IsJudged HintFile hints → MeetsOne rules told (Some (Check names))
    of_target s sp (inl (t, tp)) judged = of_hints s t sp tp judged
    of_target s sp (inr (fault, is)) judged = unfit fault (module_status_is target fault is) (inr ((s, sp), inl (fault, is, refl)))

    of_source : IsJudged ModuleText source → IsJudged ModuleText target → IsJudged HintFile hints → MeetsOne rules told (Some (Check names))
    of_source (inl (s, sp)) also judged = of_target s sp also judged
    of_source (inr (fault, is)) also judged = unfit fault (module_status_is source fault is) (inl (fault, is, refl))

  module _ (listing : Listing) (name file_text : List ℕ) (are : AreToldWithin told (files_of (Print listing name)) (file_text ∷ [])) where
    of_file : IsJudged ModuleText file_text → MeetsOne rules told (Some (Print listing name))
    of_file (inl (m, mp)) =
        inr (inr (inr (inr (inl (holds told (files_of (Print listing name)) (file_text ∷ []) (IsListed (Print listing name)) are ((m, mp), tt))))))
    of_file (inr (fault, is)) =
        inr (inr (inl (
          module_status fault,
          module_status_is file_text fault is,
          holds told (files_of (Print listing name)) (file_text ∷ []) (FirstIsUnfit (module_status fault) (files_of (Print listing name))) are (inl (fault, is, refl)),
        )))

  of_texts : (command : Command) (texts : List (List ℕ)) → AreToldWithin told (files_of command) texts → AllJudged (files_of command) texts → MeetsOne rules told (Some command)
  of_texts (Check names) (source ∷ target ∷ hints ∷ []) are (a, (b, (c, end))) = of_source names source target hints are a b c
  of_texts (Check names) [] are all = absurd all
  of_texts (Check names) (source ∷ []) are all = absurd all.1
  of_texts (Check names) (source ∷ target ∷ []) are all = absurd all.1.1
  of_texts (Check names) (source ∷ target ∷ hints ∷ more ∷ others) are all = absurd all.1.1.1
  of_texts (Print listing name) (file_text ∷ []) are (a, end) = of_file listing name file_text are a
  of_texts (Print listing name) [] are all = absurd all
  of_texts (Print listing name) (file_text ∷ more ∷ others) are all = absurd all.1

  of_gathered : (command : Command) → Gathered told (files_of command) → MeetsOne rules told (Some command)
  of_gathered command (inl absent) = inl absent
  of_gathered command (inr (inl long)) = inr (inl long)
  of_gathered command (inr (inr (texts, are, all))) = of_texts command texts are all

pub runs_are_judged : RunsAreJudged
runs_are_judged rules told command all = of_gathered rules told command (gathered told (files_of command) all)

-- ---- no fault

still : (old new : ℕ) → Stays old new → HasRisen old new → ⊥
still old new stays (inl risen) = absurd (omega (arith, stays.0, risen))
still old new stays (inr last) = absurd (omega (arith, stays.1, last))

pub still_runs_have_no_fault : StillRunsHaveNoFault
still_runs_have_no_fault run shelf out err = (
  still run.shelf.faults run.shelf.faults_after shelf,
  still run.out.faults run.out.faults_after out,
  still run.err.faults run.err.faults_after err,
)
