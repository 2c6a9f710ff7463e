-- A run over texts in memory counts no fault.
use Rattle.std.proofs.Common.{◌≡◌, ◌⊎◌, ◌≤◌, ◌<◌, ℕ, List, [], length, Option, None, Some, refl, sym, ap, ◌∙◌, subst, inl, inr, arith}
use Rattle.erhl_assert.specs.declared.verdict.ModuleVerdict.{ModuleVerdict}
use Rattle.erhl_assert.specs.Steps.{Rules}
use Rattle.crell_io.specs.Count.{HasRisen}
use Rattle.crell_io.specs.Shelf.{StaysWell}
use Rattle.crell_io.specs.MemShelf.{ShelfState, held}
use Rattle.crell_io.specs.MemSink.{SinkState, sure_room}
use Rattle.crell_program.specs.declared.crell_answers.answer.Answer.{Answer}
use Rattle.crell_program.specs.CommandLine.Words.{Command}
use Rattle.crell_program.specs.Command.{files_of}
use Rattle.crell_program.specs.CrellAnswers.VerdictText.{verdict_status, verdict_answer}
use Rattle.crell_program.specs.Due.{ShelfSeen, shelf_seen, IsDue, DueOfTexts, checked}
use Rattle.ir_reader.specs.Laws.{FaultsExcludeModules}
use Rattle.crell_program.specs.Delivery.{SinkSeen, sink_seen, IsDelivered}
use Rattle.crell_program.specs.Rows.{Run, IsAnswered, KeepsRows, NoFault}
use Rattle.crell_program.specs.Statuses.{HasVerdict, AreJudged, IsRefinementOfBytes}
use Rattle.crell_program.specs.InMemory.{new_shelf, new_sink, memory_run, Fits, TextsWithinRoomFit, EndsWell}
use Rattle.crell_program.proofs.Completeness.{SinksAreFine, due_well, all_well, judged_as}

pub texts_within_room_fit : TextsWithinRoomFit
texts_within_room_fit rules command entries room shelf out err answer to_out to_err = (omega (arith, to_out), omega (arith, to_err))

pub not_risen : (old new : ℕ) → new ≡ old → old ≡ 0 → HasRisen old new → ⊥
not_risen old new e z (inl risen) = absurd (omega arith)
not_risen old new e z (inr last) = absurd (omega arith)

-- sinks that are sure to take the texts of the answer that they get count no fault
sinks_fine : (answer : Answer) (out err : SinkSeen) (status : ℕ) → out.faults ≡ 0 → err.faults ≡ 0
    → length answer.out ≤ out.room_left → length answer.err ≤ err.room_left → IsDelivered answer out err status → SinksAreFine out err
sinks_fine answer out err status a b f g (inl (e, to_out, to_err)) = (not_risen _ _ (to_out.1 f) a, not_risen _ _ (to_err.1 g) b)
sinks_fine answer out err status a b f g (inr (inl (e, part, nothing))) = let none : out.room_left < length answer.out = part.1 in absurd (omega arith)
sinks_fine answer out err status a b f g (inr (inr (e, all, part))) = let none : err.room_left < length answer.err = part.1 in absurd (omega arith)

module _ (rules : Rules) (shelf : ShelfSeen) (out err : SinkSeen) (a : out.faults ≡ 0) (b : err.faults ≡ 0)
    (fine : HasRisen shelf.faults shelf.faults_after → ⊥) where
  abbrev run_of : Option Command → Run
  run_of command = record { rules = rules; command = command; shelf = shelf; out = out; err = err }

  spared : (command : Option Command) (status : ℕ) → IsAnswered (run_of command) status
      → ((answer : Answer) → IsDue rules shelf command answer → Fits (run_of command) answer) → NoFault (run_of command)
  spared command status (inl (answer, due, delivered)) fits =
      let f = fits answer due in
      let s = sinks_fine answer out err status a b f.0 f.1 delivered in (fine, s.0, s.1)
  spared command status (inr (e, nothing, silent)) fits = (fine, not_risen _ _ nothing.1 a, not_risen _ _ silent.1 b)

  -- an answer that is due to texts with such a verdict
  due_as : FaultsExcludeModules → (P : Option ModuleVerdict → Type 0) (Q : Answer → Type 0) → ((said : Option ModuleVerdict) (file : List ℕ) → P said → Q (checked said file))
      → (command : Option Command) → HasVerdict rules shelf.told command P → (answer : Answer) → IsDue rules shelf command answer → Q answer
  due_as excludes P Q leads None has answer due = absurd has
  due_as excludes P Q leads (Some command) has answer due =
      let well = due_well shelf (files_of command) (AreJudged rules P command) answer (DueOfTexts rules command answer) fine has due in
      judged_as excludes rules P Q leads command answer well.0 well.3 well.1 well.2

  status_as : FaultsExcludeModules → (known : ℕ) (P : Option ModuleVerdict → Type 0) → ((said : Option ModuleVerdict) (file : List ℕ) → P said → (checked said file).status ≡ known)
      → (command : Option Command) (status : ℕ)
      → IsAnswered (run_of command) status → HasVerdict rules shelf.told command P → NoFault (run_of command) → (status ≡ known) ⊎ (status ≡ 8)
  status_as excludes known P leads command status =
      all_well rules shelf out err command (AreJudged rules P) known status (judged_as excludes rules P (λ answer. answer.status ≡ known) leads)

  judged : FaultsExcludeModules → (known : ℕ) (command : Option Command) (status : ℕ) → IsAnswered (run_of command) status
      → HasVerdict rules shelf.told command (λ a. (v : ModuleVerdict) × (a ≡ Some v) × Fits (run_of command) (verdict_answer v) × (verdict_status v ≡ known))
      → NoFault (run_of command) × ((status ≡ known) ⊎ (status ≡ 8))
  judged excludes known command status answered has =
      let P : Option ModuleVerdict → Type 0 = λ a. (v : ModuleVerdict) × (a ≡ Some v) × Fits (run_of command) (verdict_answer v) × (verdict_status v ≡ known) in
      let room : (said : Option ModuleVerdict) (file : List ℕ) → P said → Fits (run_of command) (checked said file) =
      λ said file p. subst (λ x. Fits (run_of command) (checked x file)) (sym p.1) p.2 in
      let same : (said : Option ModuleVerdict) (file : List ℕ) → P said → (checked said file).status ≡ known =
      λ said file p. ap (λ (x : Option ModuleVerdict). (checked x file).status) p.1 ∙ p.3 in
      let no_fault = spared command status answered (λ answer due. due_as excludes P (Fits (run_of command)) room command has answer due) in
      (no_fault, status_as excludes known P same command status answered has no_fault)

module _ (rules : Rules) (command : Option Command) (entries : List (List ℕ × List ℕ)) (room status : ℕ) (shelf_now : ShelfState) (out_now err_now : SinkState) where
  abbrev run_from : ShelfState → SinkState → SinkState → Run
  run_from shelf out err = record {
    rules = rules;
    command = command;
    shelf = shelf_seen (λ (s : ShelfState). held s.entries) (λ (s : ShelfState). s.faults) (λ (s : ShelfState). s.taken) shelf shelf_now;
    out = sink_seen (λ (s : SinkState). Some s.written) sure_room (λ (s : SinkState). s.faults) out out_now;
    err = sink_seen (λ (s : SinkState). Some s.written) sure_room (λ (s : SinkState). s.faults) err err_now;
  }

  abbrev this : Run
  this = memory_run rules command entries room shelf_now out_now err_now

  ends : FaultsExcludeModules → KeepsRows this status → (status ≡ 0 → IsRefinementOfBytes (held entries) command) → shelf_now.faults ≡ 0 → EndsWell this status
  ends excludes rows headline well =
      let fine : HasRisen 0 shelf_now.faults → ⊥ = not_risen 0 shelf_now.faults well refl in record {
        rows = rows;
        headline = headline;
        shelf_well = well;
        no_fault = spared rules this.shelf this.out this.err refl refl fine command status rows.answered;
        judged = λ known. judged rules this.shelf this.out this.err refl refl fine excludes known command status rows.answered;
      }

  pub ends_well : FaultsExcludeModules → (shelf : ShelfState) (out err : SinkState) → shelf ≡ new_shelf entries → out ≡ new_sink room → err ≡ new_sink room
      → KeepsRows (run_from shelf out err) status → (status ≡ 0 → IsRefinementOfBytes (held shelf.entries) command)
      → StaysWell (λ (s : ShelfState). s.failing ≡ []) (λ (s : ShelfState). s.faults) shelf shelf_now → EndsWell this status
  ends_well excludes shelf out err a b c rows headline well =
      let R : ShelfState → SinkState → SinkState → Type 0 = λ s o e. KeepsRows (run_from s o e) status in
      let H : ShelfState → Type 0 = λ s. status ≡ 0 → IsRefinementOfBytes (held s.entries) command in
      let W : ShelfState → Type 0 = λ s. StaysWell (λ (x : ShelfState). x.failing ≡ []) (λ (x : ShelfState). x.faults) s shelf_now in
      let kept : R (new_shelf entries) (new_sink room) (new_sink room) =
      subst (λ s. R s (new_sink room) (new_sink room)) a (subst (λ o. R shelf o (new_sink room)) b (subst (λ e. R shelf out e) c rows)) in
      let stays : W (new_shelf entries) = subst W a well in
      ends excludes kept (subst H a headline) (stays refl).1
