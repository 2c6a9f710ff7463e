-- What each status says of the words, the files and the sinks.
use Rattle.std.proofs.Common.{◌≡◌, ◌≢◌, ◌⊎◌, ◌++◌, ℕ, zero, suc, List, [], ◌∷◌, Option, None, Some, Ok, refl, sym, ◌∙◌, ap, subst, inl, inr}
use Rattle.std.proofs.lemmas.List.{append-nil}
use Rattle.ir_core.specs.declared.modules.Module.{Module}
use Rattle.erhl_assert.specs.declared.hints.Hints.{Hints}
use Rattle.erhl_assert.specs.declared.verdict.ModuleVerdict.{ModuleVerdict}
use Rattle.erhl_assert.specs.declared.verdict.ModuleVerdict.TheVariants as modules
use Rattle.erhl_assert.specs.Steps.{Rules}
use Rattle.crell_program.specs.PairAnswer.{pair_answer}
use Rattle.ir_lexer.specs.declared.fault.TextFault.{TextFault}
use Rattle.ir_lexer.specs.declared.fault.TextFault.TheVariants as text
use Rattle.ir_reader.specs.declared.fault.ModuleFault.{ModuleFault}
use Rattle.ir_reader.specs.declared.fault.ModuleFault.TheVariants as faults
use Rattle.json_forms.specs.declared.failure.Fault.{Fault}
use Rattle.json_forms.specs.declared.failure.Fault.TheVariants.{At, Past}
use Rattle.crell_io.specs.Count.{HasRisen}
use Rattle.crell_io.specs.Shelf.{IfTold}
use Rattle.crell_io.specs.Sink.{appended}
use Rattle.crell_program.specs.declared.crell_answers.answer.Answer.{Answer}
use Rattle.crell_program.specs.CrellAnswers.Answer.{usage, module_fault, text_fault, at_fault, printed, read_failed, past_limit, absent}
use Rattle.crell_program.specs.declared.command_line.request.Listing.{Listing}
use Rattle.crell_program.specs.declared.command.Form.TheVariants.{ModuleText, HintFile}
use Rattle.crell_program.specs.CommandLine.Words.{CheckFiles, Command, Check, Print}
use Rattle.crell_program.specs.Command.{File, limit_of, files_of}
use Rattle.crell_program.specs.Due.{ShelfSeen, Held, Missing, Long, Broken, MayCome, DueOfFile, DueOfFiles, DueOfCheck, DueOfListing, DueOfTexts, IsReadOnlyAs, checked}
use Rattle.crell_program.specs.Modules.{SpellsOnly}
use Rattle.ir_reader.specs.Faults.{IsAtFault}
use Rattle.crell_program.specs.Delivery.{SinkSeen, GotAll, GotPart, GotNothing, IsDelivered}
use Rattle.crell_program.specs.Rows.{Run, IsAnswered, WritingFailed}
use Rattle.crell_program.specs.Statuses.{HasListing, ReadsHints, SomeOf, IsFit, HasFault, IsPlace, IsPassedLimit, HintsAreAtFault, IsAnswer, IsInvalid, HasNoVerdict, IsUnfit, module_status, text_status, AreJudged, NoneIsAbsent, SomeFileIsUnfit, SomeFileIsLonger, SomeFileIsMissing, IsStatus}
use Rattle.crell_program.proofs.Bytes.{if_told, TellsAll, if_all_told, none_absent}

-- what is said at a status
abbrev pub Says : Run → ℕ → Type 0
Says run zero = HasListing run.shelf.told run.command (λ text. GotAll run.out text)
Says run (suc zero) = IsAnswer IsInvalid run.rules run.shelf.told run.command
Says run (suc (suc zero)) = (run.command ≡ None) × GotNothing run.out × ((text : List ℕ) × (text ≢ []) × GotAll run.err text)
Says run (suc (suc (suc zero))) = SomeFileIsUnfit 3 run.shelf.told run.command × GotNothing run.out
Says run (suc (suc (suc (suc zero)))) = SomeFileIsUnfit 4 run.shelf.told run.command × GotNothing run.out
Says run (suc (suc (suc (suc (suc zero))))) = HintsAreAtFault IsPlace run.shelf.told run.command × GotNothing run.out
Says run (suc (suc (suc (suc (suc (suc zero)))))) = HasRisen run.shelf.faults run.shelf.faults_after × GotNothing run.out
Says run (suc (suc (suc (suc (suc (suc (suc zero))))))) = WritingFailed run
Says run (suc (suc (suc (suc (suc (suc (suc (suc zero)))))))) = GotNothing run.out
Says run (suc (suc (suc (suc (suc (suc (suc (suc (suc zero))))))))) =
    (SomeFileIsLonger run.shelf run.command ⊎ SomeFileIsUnfit 9 run.shelf.told run.command ⊎ HintsAreAtFault IsPassedLimit run.shelf.told run.command
    ⊎ IsAnswer HasNoVerdict run.rules run.shelf.told run.command) × GotNothing run.out
Says run (suc (suc (suc (suc (suc (suc (suc (suc (suc (suc zero)))))))))) = SomeFileIsMissing run.shelf run.command × GotNothing run.out
Says run (suc (suc (suc (suc (suc (suc (suc (suc (suc (suc (suc n))))))))))) = ⊥

-- both sinks got the answer's texts, and then its status says what is so
abbrev SaysOf : Run → Answer → Type 0
SaysOf run answer = GotAll run.out answer.out → GotAll run.err answer.err → Says run answer.status

along : (run : Run) (a b : Answer) → a ≡ b → SaysOf run b → SaysOf run a
along run a b e says = let P : Answer → Type 0 = λ x. SaysOf run x in subst P (sym e) says

appended_nothing : (written : Option (List ℕ)) → appended written [] ≡ written
appended_nothing None = refl
appended_nothing (Some bytes) = ap (λ (b : List ℕ). Some b) (append-nil bytes)

nothing_of : (sink : SinkSeen) → GotAll sink [] → GotNothing sink
nothing_of sink got = got.0 ∙ appended_nothing sink.before

part_isnt_empty : (part rest : List ℕ) → rest ≢ [] → [] ≡ part ++ rest → ⊥
part_isnt_empty [] rest some e = some (sym e)
part_isnt_empty (x ∷ part) rest some e = cc

-- no first part is written of a text that is empty
part_of_nothing : (sink : SinkSeen) → GotPart sink [] → ⊥
part_of_nothing sink part = part_isnt_empty part.2.0 part.2.1 part.2.2 part.2.3

-- a run whose words are a command's
abbrev command_run : Rules → ShelfSeen → SinkSeen → SinkSeen → Command → Run
command_run rules shelf out err command = record { rules = rules; command = Some command; shelf = shelf; out = out; err = err }

-- a run whose words are no command's
abbrev other_run : Rules → ShelfSeen → SinkSeen → SinkSeen → Run
other_run rules shelf out err = record { rules = rules; command = None; shelf = shelf; out = out; err = err }

some_isnt_none : (command : Command) → Some command ≢ None
some_isnt_none command e = cc

module _ (rules : Rules) (shelf : ShelfSeen) (out err : SinkSeen) (command : Command) where
  abbrev this : Run
  this = command_run rules shelf out err command

  -- the verdict on the texts, or none
  says_checked : Says this 0 → (said : Option ModuleVerdict) (source : List ℕ) → (IsInvalid said → IsAnswer IsInvalid rules shelf.told (Some command))
      → (HasNoVerdict said → IsAnswer HasNoVerdict rules shelf.told (Some command)) → SaysOf this (checked said source)
  says_checked fine None source invalid none = λ to_out to_err. (inr (inr (inr (none refl))), nothing_of out to_out)
  says_checked fine (Some modules.Valid) source invalid none = λ to_out to_err. fine
  says_checked fine (Some (modules.Differs what)) source invalid none = λ to_out to_err. invalid (modules.Differs what, refl, λ e. cc)
  says_checked fine (Some (modules.Refused function block spot reason)) source invalid none =
      λ to_out to_err. invalid (modules.Refused function block spot reason, refl, λ e. cc)

  says_text_fault : (f : TextFault) (bytes file : List ℕ) → f ≢ text.Memory → SomeFileIsUnfit (text_status f) shelf.told (Some command)
      → SaysOf this (text_fault f bytes file)
  says_text_fault (text.Limit l) bytes file said unfit = λ to_out to_err. (inr (inl unfit), nothing_of out to_out)
  says_text_fault text.Memory bytes file said unfit = absurd (said refl)
  says_text_fault (text.BadByte place) bytes file said unfit = λ to_out to_err. (unfit, nothing_of out to_out)
  says_text_fault (text.BadString place) bytes file said unfit = λ to_out to_err. (unfit, nothing_of out to_out)
  says_text_fault (text.BadNumber place) bytes file said unfit = λ to_out to_err. (unfit, nothing_of out to_out)
  says_text_fault (text.Expected place) bytes file said unfit = λ to_out to_err. (unfit, nothing_of out to_out)
  says_text_fault (text.LeftOut place size) bytes file said unfit = λ to_out to_err. (unfit, nothing_of out to_out)
  says_text_fault (text.Unknown place size) bytes file said unfit = λ to_out to_err. (unfit, nothing_of out to_out)
  says_text_fault (text.Twice place size) bytes file said unfit = λ to_out to_err. (unfit, nothing_of out to_out)
  says_text_fault (text.WrongNumber place expected) bytes file said unfit = λ to_out to_err. (unfit, nothing_of out to_out)
  says_text_fault (text.WrongType place) bytes file said unfit = λ to_out to_err. (unfit, nothing_of out to_out)

  -- the first fault of a module's text
  says_unfit : (f : ModuleFault) (bytes file : List ℕ) → IsAtFault bytes f → SomeFileIsUnfit (module_status f) shelf.told (Some command)
      → SaysOf this (module_fault f bytes file)
  says_unfit (faults.Text f) bytes file is unfit = says_text_fault f bytes file is.0.1 unfit
  says_unfit (faults.Shape f) bytes file is unfit = λ to_out to_err. (unfit, nothing_of out to_out)
  says_unfit (faults.Undefined function u) bytes file is unfit = λ to_out to_err. (unfit, nothing_of out to_out)
  says_unfit faults.Memory bytes file is unfit = absurd (is.1 refl)

  says_fault : (fault : Fault) (file : List ℕ) → ((P : Fault → Type 0) → P fault → HintsAreAtFault P shelf.told (Some command)) → SaysOf this (at_fault fault file)
  says_fault (At path) file at = λ to_out to_err. (at IsPlace (path, refl), nothing_of out to_out)
  says_fault (Past limit) file at = λ to_out to_err. (inr (inr (inl (at IsPassedLimit (limit, refl)))), nothing_of out to_out)

  -- a file decides, or leads on with its bytes
  by_file : (answer : Answer) (file : File) (next : List ℕ → Type 0)
      → (MayCome shelf file Missing → SomeFileIsMissing shelf (Some command))
      → (MayCome shelf file Long → SomeFileIsLonger shelf (Some command))
      → ((text : List ℕ) → IfTold (shelf.told file.name) (λ held. text ≡ held) → next text → SaysOf this answer)
      → DueOfFile shelf file answer next → SaysOf this answer
  by_file answer file next missing longer leads (Held text, m, d) = leads text m.1 d
  by_file answer file next missing longer leads (Missing, m, d) = along this answer (absent file.name) d (λ to_out to_err. (missing m, nothing_of out to_out))
  by_file answer file next missing longer leads (Long, m, d) =
      along this answer (past_limit (limit_of file.form) file.name) d (λ to_out to_err. (inl (longer m), nothing_of out to_out))
  by_file answer file next missing longer leads (Broken, m, d) = along this answer (read_failed file.name) d (λ to_out to_err. (m, nothing_of out to_out))

  by_files : (answer : Answer) (files : List File) (next : List (List ℕ) → Type 0)
      → (SomeOf (λ file. MayCome shelf file Missing) files → SomeFileIsMissing shelf (Some command))
      → (SomeOf (λ file. MayCome shelf file Long) files → SomeFileIsLonger shelf (Some command))
      → ((texts : List (List ℕ)) → TellsAll shelf.told files texts → next texts → SaysOf this answer)
      → DueOfFiles shelf files answer next → SaysOf this answer
  by_files answer [] next missing longer leads due = leads [] tt due
  by_files answer (file ∷ files) next missing longer leads due =
      by_file answer file (λ text. DueOfFiles shelf files answer (λ more. next (text ∷ more))) (λ m. missing (inl m)) (λ l. longer (inl l)) (λ text told.
      by_files answer files (λ more. next (text ∷ more)) (λ m. missing (inr m)) (λ l. longer (inr l)) (λ texts all. leads (text ∷ texts) (told, all))) due

module _ (rules : Rules) (shelf : ShelfSeen) (out err : SinkSeen) (names : CheckFiles) (source target hints : List ℕ)
    (told : TellsAll shelf.told (files_of (Check names)) (source ∷ target ∷ hints ∷ [])) where
  abbrev checks : Run
  checks = command_run rules shelf out err (Check names)

  present : NoneIsAbsent shelf.told (files_of (Check names))
  present = none_absent shelf.told (files_of (Check names)) (source ∷ target ∷ hints ∷ []) told

  reads : ReadsHints (Check names)
  reads = inr (inr (inl refl))

  pub says_check : (answer : Answer) → DueOfCheck rules names answer source target hints → SaysOf checks answer
  says_check answer (inl (f, is, e)) =
      let unfit : IsUnfit (module_status f) ModuleText source = (f, is, refl) in
      along checks answer (module_fault f source names.source) e
      (says_unfit rules shelf out err (Check names) f source names.source is
      (present, inl ((λ e. cc), if_told _ source (IsUnfit (module_status f) ModuleText) told.0 unfit)))
  says_check answer (inr (s, sp, inl (f, is, e))) =
      let unfit : IsUnfit (module_status f) ModuleText target = (f, is, refl) in
      along checks answer (module_fault f target names.target) e
      (says_unfit rules shelf out err (Check names) f target names.target is
      (present, inr (inl ((λ e. cc), if_told _ target (IsUnfit (module_status f) ModuleText) told.1.0 unfit))))
  says_check answer (inr (s, sp, inr (t, tp, inl (fault, is, e)))) =
      along checks answer (at_fault fault names.hints) e
      (says_fault rules shelf out err (Check names) fault names.hints (λ P p. (
        reads,
        present,
        (
          if_told _ source (HasFault P ModuleText) told.0 (s, sp.0),
          (if_told _ target (HasFault P ModuleText) told.1.0 (t, tp.0), (if_told _ hints (HasFault P HintFile) told.1.1.0 (fault, p, is.0), tt)),
        ),
      )))
  says_check answer (inr (s, sp, inr (t, tp, inr (h, hp, e)))) =
      along checks answer (checked (pair_answer rules s t h) names.source) e
      (says_checked rules shelf out err (Check names) tt (pair_answer rules s t h) names.source
      (answered IsInvalid s sp t tp h hp) (answered HasNoVerdict s sp t tp h hp))
    where
      answered : (P : Option ModuleVerdict → Type 0) (s : Module) → SpellsOnly source s → (t : Module) → SpellsOnly target t → (h : Hints) → IsReadOnlyAs hints (Ok h)
          → P (pair_answer rules s t h) → IsAnswer P rules shelf.told (Some (Check names))
      answered P s sp t tp h hp p = (
        reads,
        present,
        (
          if_told _ source (IsFit ModuleText) told.0 (s, sp.0),
          (if_told _ target (IsFit ModuleText) told.1.0 (t, tp.0), (if_told _ hints (IsFit HintFile) told.1.1.0 (h, hp.0), tt)),
        ),
        if_all_told shelf.told (files_of (Check names)) (source ∷ target ∷ hints ∷ []) (AreJudged rules P (Check names)) told (s, t, h, sp.0, tp.0, hp.0, p),
      )

module _ (rules : Rules) (shelf : ShelfSeen) (out err : SinkSeen) (listing : Listing) (file text : List ℕ)
    (told : TellsAll shelf.told (files_of (Print listing file)) (text ∷ [])) where
  pub says_listing : (answer : Answer) → DueOfListing listing file answer text → SaysOf (command_run rules shelf out err (Print listing file)) answer
  says_listing answer (inl (f, is, e)) =
      let unfit : IsUnfit (module_status f) ModuleText text = (f, is, refl) in
      let present : NoneIsAbsent shelf.told (files_of (Print listing file)) = none_absent shelf.told (files_of (Print listing file)) (text ∷ []) told in
      along (command_run rules shelf out err (Print listing file)) answer (module_fault f text file) e
      (says_unfit rules shelf out err (Print listing file) f text file is
      (present, inl ((λ e. cc), if_told _ text (IsUnfit (module_status f) ModuleText) told.0 unfit)))
  says_listing answer (inr (m, sp, due)) =
      along (command_run rules shelf out err (Print listing file)) answer (printed due.0) due.2
      (λ to_out to_err. (text, told.0, (m, sp, (due.0, due.1, to_out))))

says_texts : (rules : Rules) (shelf : ShelfSeen) (out err : SinkSeen) (command : Command) (answer : Answer) (texts : List (List ℕ))
    → TellsAll shelf.told (files_of command) texts → DueOfTexts rules command answer texts → SaysOf (command_run rules shelf out err command) answer
says_texts rules shelf out err (Check names) answer (source ∷ target ∷ hints ∷ []) told due = says_check rules shelf out err names source target hints told answer due
says_texts rules shelf out err (Check names) answer [] told due = absurd due
says_texts rules shelf out err (Check names) answer (source ∷ []) told due = absurd due
says_texts rules shelf out err (Check names) answer (source ∷ target ∷ []) told due = absurd due
says_texts rules shelf out err (Check names) answer (source ∷ target ∷ hints ∷ text ∷ more) told due = absurd due
says_texts rules shelf out err (Print listing file) answer (text ∷ []) told due = says_listing rules shelf out err listing file text told answer due
says_texts rules shelf out err (Print listing file) answer [] told due = absurd due
says_texts rules shelf out err (Print listing file) answer (text ∷ other ∷ more) told due = absurd due

module _ (rules : Rules) (shelf : ShelfSeen) (out err : SinkSeen) (command : Command) where
  says_files : (answer : Answer) → DueOfFiles shelf (files_of command) answer (DueOfTexts rules command answer) → SaysOf (command_run rules shelf out err command) answer
  says_files answer due =
      by_files rules shelf out err command answer (files_of command) (DueOfTexts rules command answer) (λ m. m) (λ l. l)
      (λ texts told texts_due. says_texts rules shelf out err command answer texts told texts_due) due

  said_of_command : (answer : Answer) (status : ℕ) → DueOfFiles shelf (files_of command) answer (DueOfTexts rules command answer)
      → IsDelivered answer out err status → Says (command_run rules shelf out err command) status
  said_of_command answer status due (inl (e, to_out, to_err)) =
      let P : ℕ → Type 0 = λ n. Says (command_run rules shelf out err command) n in
      subst P (sym e) (says_files answer due to_out to_err)
  said_of_command answer status due (inr (inl (e, part, nothing))) =
      let P : ℕ → Type 0 = λ n. Says (command_run rules shelf out err command) n in
      subst P (sym e) (inl part.0)
  said_of_command answer status due (inr (inr (e, all, part))) =
      let P : ℕ → Type 0 = λ n. Says (command_run rules shelf out err command) n in
      subst P (sym e) (inr part.0)

-- other words than a command's get a text that says so
said_of_others : (rules : Rules) (shelf : ShelfSeen) (out err : SinkSeen) (text : List ℕ) (status : ℕ) → text ≢ []
    → IsDelivered (usage text) out err status → Says (other_run rules shelf out err) status
said_of_others rules shelf out err text status some (inl (e, to_out, to_err)) =
    let P : ℕ → Type 0 = λ n. Says (other_run rules shelf out err) n in subst P (sym e) (refl, nothing_of out to_out, (text, some, to_err))
said_of_others rules shelf out err text status some (inr (inl (e, part, nothing))) = absurd (part_of_nothing out part)
said_of_others rules shelf out err text status some (inr (inr (e, all, part))) =
    let P : ℕ → Type 0 = λ n. Says (other_run rules shelf out err) n in subst P (sym e) (inr part.0)

said_by : (rules : Rules) (shelf : ShelfSeen) (out err : SinkSeen) (command : Option Command) (status : ℕ)
    → IsAnswered (record { rules = rules; command = command; shelf = shelf; out = out; err = err }) status
    → Says (record { rules = rules; command = command; shelf = shelf; out = out; err = err }) status
said_by rules shelf out err None status (inl (answer, due, delivered)) =
    let P : Answer → Type 0 = λ a. IsDelivered a out err status in said_of_others rules shelf out err due.0 status due.1 (subst P due.2 delivered)
said_by rules shelf out err (Some command) status (inl (answer, due, delivered)) = said_of_command rules shelf out err command answer status due delivered
said_by rules shelf out err command status (inr (e, to_out, to_err)) =
    let P : ℕ → Type 0 = λ n. Says (record { rules = rules; command = command; shelf = shelf; out = out; err = err }) n in subst P (sym e) to_out.0

pub said : (run : Run) (status : ℕ) → IsAnswered run status → Says run status
said run status answered = said_by run.rules run.shelf run.out run.err run.command status answered

-- what is said at that status
pub said_at : (run : Run) (status known : ℕ) → IsAnswered run status → status ≡ known → Says run known
said_at run status known answered e = let P : ℕ → Type 0 = λ n. Says run n in subst P e (said run status answered)

-- out gets something only under 0 and 1, or where a sink failed
pub kept : (run : Run) (status : ℕ) → Says run status → status ≢ 0 → status ≢ 1 → status ≢ 7 → GotNothing run.out
kept run zero s a b d = absurd (a refl)
kept run (suc zero) s a b d = absurd (b refl)
kept run (suc (suc zero)) s a b d = s.1
kept run (suc (suc (suc zero))) s a b d = s.1
kept run (suc (suc (suc (suc zero)))) s a b d = s.1
kept run (suc (suc (suc (suc (suc zero))))) s a b d = s.1
kept run (suc (suc (suc (suc (suc (suc zero)))))) s a b d = s.1
kept run (suc (suc (suc (suc (suc (suc (suc zero))))))) s a b d = absurd (d refl)
kept run (suc (suc (suc (suc (suc (suc (suc (suc zero)))))))) s a b d = s
kept run (suc (suc (suc (suc (suc (suc (suc (suc (suc zero))))))))) s a b d = s.1
kept run (suc (suc (suc (suc (suc (suc (suc (suc (suc (suc zero)))))))))) s a b d = s.1
kept run (suc (suc (suc (suc (suc (suc (suc (suc (suc (suc (suc n))))))))))) s a b d = absurd s

pub is_status : (run : Run) (status : ℕ) → Says run status → IsStatus status
is_status run zero s = refl
is_status run (suc zero) s = refl
is_status run (suc (suc zero)) s = refl
is_status run (suc (suc (suc zero))) s = refl
is_status run (suc (suc (suc (suc zero)))) s = refl
is_status run (suc (suc (suc (suc (suc zero))))) s = refl
is_status run (suc (suc (suc (suc (suc (suc zero)))))) s = refl
is_status run (suc (suc (suc (suc (suc (suc (suc zero))))))) s = refl
is_status run (suc (suc (suc (suc (suc (suc (suc (suc zero)))))))) s = refl
is_status run (suc (suc (suc (suc (suc (suc (suc (suc (suc zero))))))))) s = refl
is_status run (suc (suc (suc (suc (suc (suc (suc (suc (suc (suc zero)))))))))) s = refl
is_status run (suc (suc (suc (suc (suc (suc (suc (suc (suc (suc (suc n))))))))))) s = absurd s

-- where the words are no command's, three statuses are left
other_status_by : (rules : Rules) (shelf : ShelfSeen) (out err : SinkSeen) (command : Option Command) (status : ℕ)
    → IsAnswered (record { rules = rules; command = command; shelf = shelf; out = out; err = err }) status
    → command ≡ None → (status ≡ 2) ⊎ (status ≡ 8) ⊎ ((status ≡ 7) × HasRisen err.faults err.faults_after)
other_status_by rules shelf out err (Some command) status answered e = absurd (some_isnt_none command e)
other_status_by rules shelf out err None status (inl (answer, due, inl (e, to_out, to_err))) none = inl (e ∙ ap (λ (a : Answer). a.status) due.2)
other_status_by rules shelf out err None status (inl (answer, due, inr (inl (e, part, nothing)))) none =
    let P : Answer → Type 0 = λ a. GotPart out a.out in absurd (part_of_nothing out (subst P due.2 part))
other_status_by rules shelf out err None status (inl (answer, due, inr (inr (e, all, part)))) none = inr (inr (e, part.0))
other_status_by rules shelf out err None status (inr (e, to_out, to_err)) none = inr (inl e)

pub other_status : (run : Run) (status : ℕ) → IsAnswered run status
    → run.command ≡ None → (status ≡ 2) ⊎ (status ≡ 8) ⊎ ((status ≡ 7) × HasRisen run.err.faults run.err.faults_after)
other_status run status answered = other_status_by run.rules run.shelf run.out run.err run.command status answered
