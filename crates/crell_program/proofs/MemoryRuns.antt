-- Runs over texts in memory that meet the premises of what is said of them.
use Rattle.std.proofs.Common.{◌≡◌, ◌≢◌, ◌≤◌, ◌<◌, ℕ, zero, suc, List, [], ◌∷◌, length, None, Some, refl, sym, subst, inl, inr, arith}
use Rattle.erhl_assert.specs.Steps.{Rules}
use Rattle.crell_io.specs.MemShelf.{ShelfState}
use Rattle.crell_io.specs.MemSink.{SinkState}
use Rattle.crell_program.specs.declared.command_line.request.Listing.{Listing}
use Rattle.crell_program.specs.declared.crell_answers.answer.Answer.{Answer}
use Rattle.crell_program.specs.CommandLine.Words.{Print}
use Rattle.crell_program.specs.CrellAnswers.Answer.{absent, usage}
use Rattle.crell_program.specs.CrellAnswers.VerdictText.{verdict_answer, verdict_status}
use Rattle.crell_program.specs.Delivery.{GotAll}
use Rattle.crell_program.specs.Due.{Held, Missing, Long, Broken, IsDue}
use Rattle.crell_program.specs.InMemory.{Fits, memory_run}
use Rattle.crell_program.specs.MemoryRuns.{AbsentFilesAreTold, NoRoomFitsUsage, PairsAreAnswered, UsageWithinRoomFits, checking, three_files}
use Rattle.crell_program.specs.Rows.{IsAnswered, NoFault, Run}
use Rattle.crell_program.proofs.InMemory.{not_risen, texts_within_room_fit}

module _ (rules : Rules) (listing : Listing) (file : List ℕ) (room : ℕ) (shelf : ShelfState) (out err : SinkState) where
  abbrev this : Run
  this = memory_run rules (Some (Print listing file)) [] room shelf out err

  absent_fits : length (absent file).err ≤ room → Fits this (absent file)
  absent_fits fits = texts_within_room_fit rules (Some (Print listing file)) [] room shelf out err (absent file) (omega arith) fits

  due_fits : shelf.faults ≡ 0 → length (absent file).err ≤ room → (answer : Answer) → IsDue this.rules this.shelf this.command answer → Fits this answer
  due_fits well fits answer (Held bytes, m, d) = absurd m.1
  due_fits well fits answer (Missing, m, d) = subst (Fits this) (sym d) (absent_fits fits)
  due_fits well fits answer (Long, m, d) = absurd m.1
  due_fits well fits answer (Broken, m, d) = absurd (not_risen 0 shelf.faults well refl m)

pub absent_files_are_told : AbsentFilesAreTold
absent_files_are_told rules listing file room status shelf out err fits ends =
    let fine = ends.no_fault (due_fits rules listing file room shelf out err ends.shelf_well fits) in (fine, ends.rows.missing (inl refl) fine)

pub pairs_are_answered : PairsAreAnswered
pairs_are_answered rules source target hints s t proof v room status shelf out err short also least sp tp hp e fits ends =
    let room_for : Fits (memory_run rules (Some checking) (three_files source target hints) room shelf out err) (verdict_answer v) =
    texts_within_room_fit rules (Some checking) (three_files source target hints) room shelf out err (verdict_answer v) fits (omega arith) in
    ends.judged (verdict_status v) (short, (also, (least, (s, t, proof, sp, tp, hp, (v, e, room_for, refl)))))

-- a text of that many bytes and one more
abbrev long_text : ℕ → List ℕ
long_text zero = 0 ∷ []
long_text (suc n) = 0 ∷ long_text n

is_long : (n : ℕ) → n < length (long_text n)
is_long zero = omega arith
is_long (suc n) = let more : n < length (long_text n) = is_long n in omega arith

isnt_empty : (n : ℕ) → long_text n ≢ []
isnt_empty zero e = cc
isnt_empty (suc n) e = cc

pub no_room_fits_usage : NoRoomFitsUsage
no_room_fits_usage rules entries room shelf out err fits =
    let fit : Fits (memory_run rules None entries room shelf out err) (usage (long_text room)) = fits (usage (long_text room)) (long_text room, isnt_empty room, refl) in
    let long = is_long room in absurd (omega (arith, fit.1, long))

same_some : (a b : List ℕ) → Some a ≡ Some b → a ≡ b
same_some a b same = cc

module _ (rules : Rules) (entries : List (List ℕ × List ℕ)) (room : ℕ) (shelf : ShelfState) (out err : SinkState) where
  abbrev usage_run : Run
  usage_run = memory_run rules None entries room shelf out err

  told_usage : length err.written ≤ room → shelf.faults ≡ 0 → (text : List ℕ) → GotAll usage_run.out [] → GotAll usage_run.err text → NoFault usage_run
  told_usage fits well text to_out to_err =
      let same : err.written ≡ text = same_some err.written text to_err.0 in
      let short : length text ≤ room = subst (λ (l : List ℕ). length l ≤ room) same fits in
      let both : Fits usage_run (usage text) = texts_within_room_fit rules None entries room shelf out err (usage text) (omega arith) short in
      (not_risen 0 shelf.faults well refl, not_risen 0 out.faults (to_out.1 both.0) refl, not_risen 0 err.faults (to_err.1 both.1) refl)

  answered_usage : length err.written ≤ room → shelf.faults ≡ 0 → IsAnswered usage_run 2 → NoFault usage_run
  answered_usage fits well (inl (answer, (text, some, is), inl (e, to_out, to_err))) =
      told_usage fits well text (subst (λ (a : Answer). GotAll usage_run.out a.out) is to_out) (subst (λ (a : Answer). GotAll usage_run.err a.err) is to_err)
  answered_usage fits well (inl (answer, due, inr (inl (e, part, kept)))) = absurd (omega (arith, e))
  answered_usage fits well (inl (answer, due, inr (inr (e, all, part)))) = absurd (omega (arith, e))
  answered_usage fits well (inr (e, kept, silent)) = absurd (omega (arith, e))

pub usage_within_room_fits : UsageWithinRoomFits
usage_within_room_fits rules entries room shelf out err fits ends = answered_usage rules entries room shelf out err fits ends.shelf_well ends.rows.answered
