-- Where all is well the status is the verdict's.
use Rattle.std.proofs.Common.{◌≡◌, ◌≢◌, ◌⊎◌, ◌≤◌, ◌<◌, ℕ, List, [], ◌∷◌, length, Option, None, Some, Ok, Err, refl, sym, ◌∙◌, ap, subst, inl, inr, arith}
use Rattle.ir_core.specs.declared.modules.Module.{Module}
use Rattle.ir_core.specs.Limits.{text_limit}
use Rattle.ir_reader.specs.declared.fault.ModuleFault.{ModuleFault}
use Rattle.json_forms.specs.declared.failure.Fault.{Fault}
use Rattle.json_forms.specs.declared.failure.Fault.TheVariants.{At, Past}
use Rattle.json_forms.specs.Forms.{Reading}
use Rattle.hint_format.specs.Form.{HintsOf, IsHintFault}
use Rattle.erhl_assert.specs.declared.hints.Hints.{Hints}
use Rattle.erhl_assert.specs.declared.verdict.ModuleVerdict.{ModuleVerdict}
use Rattle.erhl_assert.specs.declared.verdict.ModuleVerdict.TheVariants as modules
use Rattle.erhl_assert.specs.Steps.{Rules}
use Rattle.crell_program.specs.PairAnswer.{pair_answer}
use Rattle.crell_io.specs.Count.{HasRisen}
use Rattle.crell_io.specs.Shelf.{Told, IfTold}
use Rattle.crell_io.specs.Shelf.Told.{NoSuch, Bytes}
use Rattle.crell_program.specs.declared.crell_answers.answer.Answer.{Answer}
use Rattle.crell_program.specs.declared.command_line.request.Listing.{Listing}
use Rattle.crell_program.specs.CrellAnswers.Answer.{module_fault, at_fault}
use Rattle.crell_program.specs.CommandLine.Words.{CheckFiles, Command, Check, Print}
use Rattle.crell_program.specs.Command.{File, most_bytes, files_of}
use Rattle.crell_program.specs.CrellAnswers.VerdictText.{verdict_status}
use Rattle.crell_program.specs.Due.{ShelfSeen, Held, Missing, Long, Broken, DueOfFile, DueOfFiles, DueOfCheck, DueOfListing, DueOfTexts, checked}
use Rattle.ir_reader.specs.Faults.{IsAtFault, SpellsWellFormed}
use Rattle.ir_reader.specs.Laws.{FaultsAreOfOneKind, FaultsExcludeModules}
use Rattle.crell_program.specs.Delivery.{SinkSeen, IsDelivered}
use Rattle.crell_program.specs.Rows.{Run, IsAnswered, NoFault}
use Rattle.crell_program.specs.Statuses.{HoldsAllOf, HoldsAll, HasVerdict, AreJudged, FirstIsUnfit, IsInvalid, HasNoVerdict, module_status, HintsHaveFault, fault_status, IsListed, IsAbsent, IsOverlong, FirstUnheldOf, FirstUnheld}
use Rattle.crell_program.proofs.Bytes.{told_bytes}
use Rattle.crell_program.proofs.FaultStatus.{module_fault_status, one_status}

isnt_missing : (bytes : List ℕ) → Bytes bytes ≡ NoSuch → ⊥
isnt_missing bytes e = cc

-- a file that is told and within its limit is held, where no fault is counted
held : (shelf : ShelfSeen) (file : File) (answer : Answer) (next : List ℕ → Type 0) (bytes : List ℕ)
    → shelf.told file.name ≡ Bytes bytes → length bytes ≤ most_bytes file → (HasRisen shelf.faults shelf.faults_after → ⊥)
    → DueOfFile shelf file answer next → next bytes
held shelf file answer next bytes told within fine (Held read, m, d) =
    let P : Told → Type 0 = λ t. IfTold t (λ h. read ≡ h) in
    let e : read ≡ bytes = subst P told m.1 in subst next e d
held shelf file answer next bytes told within fine (Missing, m, d) = absurd (isnt_missing bytes (sym told ∙ m))
held shelf file answer next bytes told within fine (Long, m, d) =
    let P : Told → Type 0 = λ t. IfTold t (λ h. most_bytes file < length h) in
    let e : most_bytes file < length bytes = subst P told m.1 in absurd (omega arith)
held shelf file answer next bytes told within fine (Broken, m, d) = absurd (fine m)

-- of hints and faults, as readings
pub hints_same : (a b : Hints) → ◌≡◌ {A = Reading Hints} (Ok a) (Ok b) → a ≡ b
hints_same a b e = cc

pub faults_same : (a b : Fault) → ◌≡◌ {A = Reading Hints} (Err a) (Err b) → a ≡ b
faults_same a b e = cc

pub not_both : (h : Hints) (fault : Fault) → ◌≡◌ {A = Reading Hints} (Ok h) (Err fault) → ⊥
not_both h fault e = cc

-- the texts of files are within the files' limits
abbrev pub AreWithin : List File → List (List ℕ) → Type 0
AreWithin [] [] = Unit {0}
AreWithin (file ∷ files) (text ∷ texts) = (length text ≤ most_bytes file) × AreWithin files texts
AreWithin [] (text ∷ texts) = ⊥
AreWithin (file ∷ files) [] = ⊥

answer_of_texts : FaultsExcludeModules → (rules : Rules) (names : CheckFiles) (answer : Answer) (source target hints : List ℕ) (s t : Module) (h : Hints)
    → length source ≤ text_limit → length target ≤ text_limit
    → SpellsWellFormed source s → SpellsWellFormed target t → HintsOf hints h → DueOfCheck rules names answer source target hints
    → answer ≡ checked (pair_answer rules s t h) names.source
answer_of_texts excludes rules names answer source target hints s t h short also sp tp hp (inl (f, is, e)) = absurd (excludes source f s short is sp)
answer_of_texts excludes rules names answer source target hints s t h short also sp tp hp (inr (s2, sq, inl (f, is, e))) =
    absurd (excludes target f t also is tp)
answer_of_texts excludes rules names answer source target hints s t h short also sp tp hp (inr (s2, sq, inr (t2, tq, inl (fault, is, e)))) =
    absurd (not_both h fault (is.1 (Ok h) hp))
answer_of_texts excludes rules names answer source target hints s t h short also sp tp hp (inr (s2, sq, inr (t2, tq, inr (h2, hq, e)))) =
    let es : s2 ≡ s = sym (sq.1 s sp.0) in
    let et : t2 ≡ t = sym (tq.1 t tp.0) in
    let eh : h2 ≡ h = sym (hints_same h h2 (hq.1 (Ok h) hp)) in
    e ∙ (ap (λ (x : Module). checked (pair_answer rules x t2 h2) names.source) es
    ∙ (ap (λ (x : Module). checked (pair_answer rules s x h2) names.source) et ∙ ap (λ (x : Hints). checked (pair_answer rules s t x) names.source) eh))

-- no sink counts a fault
abbrev pub SinksAreFine : SinkSeen → SinkSeen → Type 0
SinksAreFine out err = (HasRisen out.faults out.faults_after → ⊥) × (HasRisen err.faults err.faults_after → ⊥)

pub delivered_well : (answer : Answer) (out err : SinkSeen) (status : ℕ) → SinksAreFine out err → IsDelivered answer out err status → status ≡ answer.status
delivered_well answer out err status fine (inl (e, to_out, to_err)) = e
delivered_well answer out err status fine (inr (inl (e, part, nothing))) = absurd (fine.0 part.0)
delivered_well answer out err status fine (inr (inr (e, all, part))) = absurd (fine.1 part.0)

-- the texts, that the answer is due to them, and that they are within the limits
pub due_well : (shelf : ShelfSeen) (files : List File) (P : List (List ℕ) → Type 0) (answer : Answer) (next : List (List ℕ) → Type 0)
    → (HasRisen shelf.faults shelf.faults_after → ⊥) → HoldsAllOf shelf.told files P → DueOfFiles shelf files answer next
    → (texts : List (List ℕ)) × P texts × next texts × AreWithin files texts
due_well shelf [] P answer next fine has due = ([], has, due, tt)
due_well shelf (file ∷ files) P answer next fine has due =
    let a = told_bytes (shelf.told file.name) _ has in
    let rest = due_well shelf files (λ texts. P (a.0 ∷ texts)) answer (λ texts. next (a.0 ∷ texts)) fine a.2.1
    (held shelf file answer _ a.0 a.1 a.2.0 fine due) in
    (a.0 ∷ rest.0, rest.1, rest.2, (a.2.0, rest.3))

-- Where all is well the status is that of an answer that is due to the texts; or memory was refused.
pub all_well : (rules : Rules) (shelf : ShelfSeen) (out err : SinkSeen) (command : Option Command) (P : Command → List (List ℕ) → Type 0) (known status : ℕ)
    → ((command : Command) (answer : Answer) (texts : List (List ℕ)) → AreWithin (files_of command) texts → P command texts
    → DueOfTexts rules command answer texts → answer.status ≡ known)
    → IsAnswered (record { rules = rules; command = command; shelf = shelf; out = out; err = err }) status → HoldsAll shelf.told command P
    → NoFault (record { rules = rules; command = command; shelf = shelf; out = out; err = err }) → (status ≡ known) ⊎ (status ≡ 8)
all_well rules shelf out err None P known status leads answered has fine = absurd has
all_well rules shelf out err (Some command) P known status leads (inl (answer, due, delivered)) has fine =
    let well = due_well shelf (files_of command) (P command) answer (DueOfTexts rules command answer) fine.0 has due in
    inl (delivered_well answer out err status (fine.1, fine.2) delivered ∙ leads command answer well.0 well.3 well.1 well.2)
all_well rules shelf out err (Some command) P known status leads (inr (e, nothing, silent)) has fine = inr e

status_of_valid : (said : Option ModuleVerdict) (file : List ℕ) → said ≡ Some modules.Valid → (checked said file).status ≡ 0
status_of_valid said file e = ap (λ (x : Option ModuleVerdict). (checked x file).status) e

status_of_other : (v : ModuleVerdict) → v ≢ modules.Valid → verdict_status v ≡ 1
status_of_other modules.Valid other = absurd (other refl)
status_of_other (modules.Differs what) other = refl
status_of_other (modules.Refused function block spot reason) other = refl

status_of_invalid : (said : Option ModuleVerdict) (file : List ℕ) → IsInvalid said → (checked said file).status ≡ 1
status_of_invalid said file (v, e, other) = ap (λ (x : Option ModuleVerdict). (checked x file).status) e ∙ status_of_other v other

status_of_none : (said : Option ModuleVerdict) (file : List ℕ) → HasNoVerdict said → (checked said file).status ≡ 9
status_of_none said file e = ap (λ (x : Option ModuleVerdict). (checked x file).status) e

-- what is so of the answer to what the checker says is so of an answer that is due to texts of which it says such
pub judged_as : FaultsExcludeModules → (rules : Rules) (P : Option ModuleVerdict → Type 0) (Q : Answer → Type 0)
    → ((said : Option ModuleVerdict) (file : List ℕ) → P said → Q (checked said file))
    → (command : Command) (answer : Answer) (texts : List (List ℕ)) → AreWithin (files_of command) texts → AreJudged rules P command texts
    → DueOfTexts rules command answer texts → Q answer
judged_as excludes rules P Q leads (Check names) answer (source ∷ target ∷ hints ∷ []) within (s, t, h, sp, tp, hp, p) due =
    subst Q (sym (answer_of_texts excludes rules names answer source target hints s t h within.0 within.1.0 sp tp hp due))
    (leads (pair_answer rules s t h) names.source p)
judged_as excludes rules P Q leads (Check names) answer [] within judged due = absurd due
judged_as excludes rules P Q leads (Check names) answer (source ∷ []) within judged due = absurd due
judged_as excludes rules P Q leads (Check names) answer (source ∷ target ∷ []) within judged due = absurd due
judged_as excludes rules P Q leads (Check names) answer (source ∷ target ∷ hints ∷ text ∷ more) within judged due = absurd due
judged_as excludes rules P Q leads (Print listing file) answer texts within judged due = absurd judged

-- where the checker says such, the status is this one
pub judged_so : FaultsExcludeModules → (P : Option ModuleVerdict → Type 0) (known : ℕ) → ((said : Option ModuleVerdict) (file : List ℕ) → P said → (checked said file).status ≡ known)
    → (run : Run) (status : ℕ) → IsAnswered run status → HasVerdict run.rules run.shelf.told run.command P → NoFault run → (status ≡ known) ⊎ (status ≡ 8)
judged_so excludes P known leads run status =
    all_well run.rules run.shelf run.out run.err run.command (AreJudged run.rules P) known status
    (judged_as excludes run.rules P (λ a. a.status ≡ known) leads)

pub valid : FaultsExcludeModules → (run : Run) (status : ℕ) → IsAnswered run status → HasVerdict run.rules run.shelf.told run.command (λ v. v ≡ Some modules.Valid) → NoFault run → (status ≡ 0) ⊎ (status ≡ 8)
valid excludes = judged_so excludes (λ v. v ≡ Some modules.Valid) 0 status_of_valid

pub invalid : FaultsExcludeModules → (run : Run) (status : ℕ) → IsAnswered run status → HasVerdict run.rules run.shelf.told run.command IsInvalid → NoFault run → (status ≡ 1) ⊎ (status ≡ 8)
invalid excludes = judged_so excludes IsInvalid 1 status_of_invalid

pub too_many_facts : FaultsExcludeModules → (run : Run) (status : ℕ) → IsAnswered run status → HasVerdict run.rules run.shelf.told run.command HasNoVerdict → NoFault run → (status ≡ 9) ⊎ (status ≡ 8)
too_many_facts excludes = judged_so excludes HasNoVerdict 9 status_of_none

module _ (kinds : FaultsAreOfOneKind) (excludes : FaultsExcludeModules) where
  -- the status is that of a first fault of the text
  by_fault : (text file : List ℕ) (answer : Answer) (f g : ModuleFault) (known : ℕ) → length text ≤ text_limit → IsAtFault text f → answer ≡ module_fault f text file
      → IsAtFault text g → module_status g ≡ known → answer.status ≡ known
  by_fault text file answer f g known short is e also same =
      ap (λ (a : Answer). a.status) e ∙ module_fault_status f text file ∙ one_status kinds text f g short is also ∙ same

  unread_check : (rules : Rules) (names : CheckFiles) (answer : Answer) (source target hints : List ℕ) (known : ℕ) → length source ≤ text_limit → length target ≤ text_limit
      → FirstIsUnfit known (files_of (Check names)) (source ∷ target ∷ hints ∷ []) → DueOfCheck rules names answer source target hints → answer.status ≡ known
  unread_check rules names answer source target hints known short also (inl (g, first, same)) (inl (f, is, e)) =
      by_fault source names.source answer f g known short is e first same
  unread_check rules names answer source target hints known short also (inl (g, first, same)) (inr (s, sp, due)) =
      absurd (excludes source g s short first sp.0)
  unread_check rules names answer source target hints known short also (inr ((m, fit), rest)) (inl (f, is, e)) =
      absurd (excludes source f m short is fit)
  unread_check rules names answer source target hints known short also (inr (fit, inl (g, first, same))) (inr (s, sp, inl (f, is, e))) =
      by_fault target names.target answer f g known also is e first same
  unread_check rules names answer source target hints known short also (inr (fit, inl (g, first, same))) (inr (s, sp, inr (t, tp, due))) =
      absurd (excludes target g t also first tp.0)
  unread_check rules names answer source target hints known short also (inr (fit, inr ((m, fit_too), rest))) (inr (s, sp, inl (f, is, e))) =
      absurd (excludes target f m also is fit_too)
  unread_check rules names answer source target hints known short also (inr (fit, inr (fit_too, inl none))) (inr (s, sp, inr (t, tp, due))) = absurd none
  unread_check rules names answer source target hints known short also (inr (fit, inr (fit_too, inr (fit_hints, none)))) (inr (s, sp, inr (t, tp, due))) = absurd none

  unread_listing : (listing : Listing) (file : List ℕ) (answer : Answer) (text : List ℕ) (known : ℕ) → length text ≤ text_limit
      → FirstIsUnfit known (files_of (Print listing file)) (text ∷ []) → DueOfListing listing file answer text → answer.status ≡ known
  unread_listing listing file answer text known short (inl (g, first, same)) (inl (f, is, e)) = by_fault text file answer f g known short is e first same
  unread_listing listing file answer text known short (inl (g, first, same)) (inr (m, sp, due)) = absurd (excludes text g m short first sp.0)
  unread_listing listing file answer text known short (inr (fit, none)) due = absurd none

  unread_texts : (rules : Rules) (known : ℕ) (command : Command) (answer : Answer) (texts : List (List ℕ)) → AreWithin (files_of command) texts
      → FirstIsUnfit known (files_of command) texts → DueOfTexts rules command answer texts → answer.status ≡ known
  unread_texts rules known (Check names) answer (source ∷ target ∷ hints ∷ []) within unfit due =
      unread_check rules names answer source target hints known within.0 within.1.0 unfit due
  unread_texts rules known (Check names) answer [] within unfit due = absurd due
  unread_texts rules known (Check names) answer (source ∷ []) within unfit due = absurd due
  unread_texts rules known (Check names) answer (source ∷ target ∷ []) within unfit due = absurd due
  unread_texts rules known (Check names) answer (source ∷ target ∷ hints ∷ text ∷ more) within unfit due = absurd due
  unread_texts rules known (Print listing file) answer (text ∷ []) within unfit due = unread_listing listing file answer text known within.0 unfit due
  unread_texts rules known (Print listing file) answer [] within unfit due = absurd due
  unread_texts rules known (Print listing file) answer (text ∷ other ∷ more) within unfit due = absurd due

  pub unread : (run : Run) (status : ℕ) → IsAnswered run status → (fault : ℕ)
      → HoldsAll run.shelf.told run.command (λ command. FirstIsUnfit fault (files_of command)) → NoFault run → (status ≡ fault) ⊎ (status ≡ 8)
  unread run status answered fault =
      all_well run.rules run.shelf run.out run.err run.command (λ command. FirstIsUnfit fault (files_of command)) fault status
      (unread_texts run.rules fault) answered

fault_has_status : (fault : Fault) (answer : Answer) (file : List ℕ) → answer ≡ at_fault fault file → answer.status ≡ fault_status fault
fault_has_status (At path) answer file e = ap (λ (a : Answer). a.status) e
fault_has_status (Past limit) answer file e = ap (λ (a : Answer). a.status) e

hints_unread_check : FaultsExcludeModules → (rules : Rules) (fault : Fault) (names : CheckFiles) (answer : Answer) (source target hints : List ℕ) (s t : Module)
    → length source ≤ text_limit → length target ≤ text_limit
    → SpellsWellFormed source s → SpellsWellFormed target t → IsHintFault hints fault → DueOfCheck rules names answer source target hints
    → answer.status ≡ fault_status fault
hints_unread_check excludes rules fault names answer source target hints s t short also sp tp hp (inl (f, is, e)) = absurd (excludes source f s short is sp)
hints_unread_check excludes rules fault names answer source target hints s t short also sp tp hp (inr (s2, sq, inl (f, is, e))) =
    absurd (excludes target f t also is tp)
hints_unread_check excludes rules fault names answer source target hints s t short also sp tp hp (inr (s2, sq, inr (t2, tq, inl (found, is, e)))) =
    fault_has_status found answer names.hints e ∙ ap fault_status (sym (faults_same fault found (is.1 (Err fault) hp)))
hints_unread_check excludes rules fault names answer source target hints s t short also sp tp hp (inr (s2, sq, inr (t2, tq, inr (h, hq, e)))) =
    absurd (not_both h fault (sym (hq.1 (Err fault) hp)))

hints_unread_texts : FaultsExcludeModules → (rules : Rules) (fault : Fault) (command : Command) (answer : Answer) (texts : List (List ℕ))
    → AreWithin (files_of command) texts → HintsHaveFault fault command texts → DueOfTexts rules command answer texts → answer.status ≡ fault_status fault
hints_unread_texts excludes rules fault (Check names) answer (source ∷ target ∷ hints ∷ []) within (reads, (fit_source, (fit_target, ((found, is, first), none)))) due =
    hints_unread_check excludes rules fault names answer source target hints fit_source.0 fit_target.0 within.0 within.1.0 fit_source.1 fit_target.1
    (subst (λ (f : Fault). IsHintFault hints f) is first) due
hints_unread_texts excludes rules fault (Check names) answer [] within unfit due = absurd due
hints_unread_texts excludes rules fault (Check names) answer (source ∷ []) within unfit due = absurd due
hints_unread_texts excludes rules fault (Check names) answer (source ∷ target ∷ []) within unfit due = absurd due
hints_unread_texts excludes rules fault (Check names) answer (source ∷ target ∷ hints ∷ text ∷ more) within unfit due = absurd due
hints_unread_texts excludes rules fault (Print listing file) answer texts within (inl form, fit) due = absurd (cc)
hints_unread_texts excludes rules fault (Print listing file) answer texts within (inr none, fit) due = absurd none

pub hints_unread : FaultsExcludeModules → (run : Run) (status : ℕ) → IsAnswered run status → (fault : Fault)
    → HoldsAll run.shelf.told run.command (HintsHaveFault fault) → NoFault run → (status ≡ fault_status fault) ⊎ (status ≡ 8)
hints_unread excludes run status answered fault =
    all_well run.rules run.shelf run.out run.err run.command (HintsHaveFault fault) (fault_status fault) status
    (hints_unread_texts excludes run.rules fault) answered

-- what is listed of a well-formed module is printed
listed_texts : FaultsExcludeModules → (rules : Rules) (command : Command) (answer : Answer) (texts : List (List ℕ))
    → AreWithin (files_of command) texts → IsListed command texts → DueOfTexts rules command answer texts → answer.status ≡ 0
listed_texts excludes rules (Check names) answer texts within listed due = absurd listed
listed_texts excludes rules (Print listing file) answer (text ∷ []) within listed (inl (f, is, e)) =
    absurd (excludes text f listed.0.0 within.0 is listed.0.1)
listed_texts excludes rules (Print listing file) answer (text ∷ []) within listed (inr (m, sp, due)) = ap (λ (a : Answer). a.status) due.2
listed_texts excludes rules (Print listing file) answer [] within listed due = absurd due
listed_texts excludes rules (Print listing file) answer (text ∷ other ∷ more) within listed due = absurd due

pub printed : FaultsExcludeModules → (run : Run) (status : ℕ) → IsAnswered run status → HoldsAll run.shelf.told run.command IsListed → NoFault run
    → (status ≡ 0) ⊎ (status ≡ 8)
printed excludes run status =
    all_well run.rules run.shelf run.out run.err run.command IsListed 0 status (listed_texts excludes run.rules)

-- a file that is told to be absent decides, where no fault is counted
absent_decides : (shelf : ShelfSeen) (answer : Answer) (file : File) (next : List ℕ → Type 0)
    → (HasRisen shelf.faults shelf.faults_after → ⊥) → IsAbsent shelf.told file → DueOfFile shelf file answer next → answer.status ≡ 10
absent_decides shelf answer file next fine none (Held read, m, d) =
    let P : Told → Type 0 = λ t. IfTold t (λ h. read ≡ h) in
    let e : ⊥ = subst P none m.1 in absurd e
absent_decides shelf answer file next fine none (Missing, m, d) = ap (λ (a : Answer). a.status) d
absent_decides shelf answer file next fine none (Long, m, d) =
    let P : Told → Type 0 = λ t. IfTold t (λ h. most_bytes file < length h) in
    let e : ⊥ = subst P none m.1 in absurd e
absent_decides shelf answer file next fine none (Broken, m, d) = absurd (fine m)

-- so does one that is told to be longer than its limit
overlong_decides : (shelf : ShelfSeen) (answer : Answer) (file : File) (next : List ℕ → Type 0)
    → (HasRisen shelf.faults shelf.faults_after → ⊥) → IsOverlong shelf.told file → DueOfFile shelf file answer next → answer.status ≡ 9
overlong_decides shelf answer file next fine long (Held read, m, d) =
    let b = told_bytes (shelf.told file.name) (λ held. most_bytes file < length held) long in
    let P : Told → Type 0 = λ t. IfTold t (λ h. read ≡ h) in
    let e : read ≡ b.0 = subst P b.1 m.1 in
    let same = ap (λ (l : List ℕ). length l) e in
    let above : most_bytes file < length b.0 = b.2 in
    let below : length read ≤ most_bytes file = m.0 in absurd (omega arith)
overlong_decides shelf answer file next fine long (Missing, m, d) =
    let b = told_bytes (shelf.told file.name) (λ held. most_bytes file < length held) long in absurd (isnt_missing b.0 (sym b.1 ∙ m))
overlong_decides shelf answer file next fine long (Long, m, d) = ap (λ (a : Answer). a.status) d
overlong_decides shelf answer file next fine long (Broken, m, d) = absurd (fine m)

-- the files before the first that isn't held within its limit lead on to it
unheld : (shelf : ShelfSeen) (P : (List ℕ → Told) → File → Type 0) (answer : Answer) (known : ℕ)
    → (HasRisen shelf.faults shelf.faults_after → ⊥)
    → ((file : File) (follows : List ℕ → Type 0) → P shelf.told file → DueOfFile shelf file answer follows → answer.status ≡ known)
    → (files : List File) (next : List (List ℕ) → Type 0) → FirstUnheldOf P shelf.told files → DueOfFiles shelf files answer next → answer.status ≡ known
unheld shelf P answer known fine decides [] next none due = absurd none
unheld shelf P answer known fine decides (file ∷ files) next (inl p) due = decides file _ p due
unheld shelf P answer known fine decides (file ∷ files) next (inr (a, p)) due =
    let text = told_bytes (shelf.told file.name) (λ held. length held ≤ most_bytes file) a in
    unheld shelf P answer known fine decides files (λ more. next (text.0 ∷ more)) p (held shelf file answer _ text.0 text.1 text.2 fine due)

first_decides : (rules : Rules) (shelf : ShelfSeen) (out err : SinkSeen) (command : Option Command)
    (P : (List ℕ → Told) → File → Type 0) (known status : ℕ)
    → ((answer : Answer) (file : File) (next : List ℕ → Type 0) → (HasRisen shelf.faults shelf.faults_after → ⊥)
    → P shelf.told file → DueOfFile shelf file answer next → answer.status ≡ known)
    → IsAnswered (record { rules = rules; command = command; shelf = shelf; out = out; err = err }) status → FirstUnheld P shelf.told command
    → NoFault (record { rules = rules; command = command; shelf = shelf; out = out; err = err }) → (status ≡ known) ⊎ (status ≡ 8)
first_decides rules shelf out err None P known status decides answered has fine = absurd has
first_decides rules shelf out err (Some command) P known status decides (inl (answer, due, delivered)) has fine =
    inl (delivered_well answer out err status (fine.1, fine.2) delivered ∙ unheld shelf P answer known fine.0
    (λ file next. decides answer file next fine.0) (files_of command) (DueOfTexts rules command answer) has due)
first_decides rules shelf out err (Some command) P known status decides (inr (e, nothing, silent)) has fine = inr e

pub missing : (run : Run) (status : ℕ) → IsAnswered run status → FirstUnheld IsAbsent run.shelf.told run.command → NoFault run → (status ≡ 10) ⊎ (status ≡ 8)
missing run status = first_decides run.rules run.shelf run.out run.err run.command IsAbsent 10 status (absent_decides run.shelf)

pub overlong : (run : Run) (status : ℕ) → IsAnswered run status → FirstUnheld IsOverlong run.shelf.told run.command → NoFault run → (status ≡ 9) ⊎ (status ≡ 8)
overlong run status = first_decides run.rules run.shelf run.out run.err run.command IsOverlong 9 status (overlong_decides run.shelf)
