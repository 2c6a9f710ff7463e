-- While no limit is passed what is written down is that of all trees, and the watch is told all.
use Rattle.std.proofs.Common.{◌≡◌, ℕ, Option, None, Some, refl, ap, sym, ◌∙◌}
use Rattle.derivation_writer.specs.Watching.{begun, reduced, shifted, unless_marked}
use Rattle.derivation_writer.specs.Writing as writing
use Rattle.derivation_writer.specs.declared.reading.Reading.{Reading}
use Rattle.module_derivations.specs.FlatMarks.Flat.{Written}
use Rattle.ir_core.specs.declared.limits.Limit.{Limit}
use Rattle.predictive.proofs.Keeping.{Keeps}
use Rattle.derivation_writer.specs.TokenLimits.Watched as watched
use Rattle.derivation_writer.specs.declared.token_limits.watch.Watch.{Watch}

-- ---- what is written down

abbrev pub AgreesUnmarked : Reading → Written → Type 0
AgreesUnmarked s w = s.watch.mark ≡ None → s.writer ≡ w

-- what was marked before is marked
unmarked_before : (m : Option Limit) (next w : Watch) → w.mark ≡ m → (watched.unless_marked m next w).mark ≡ None → m ≡ None
unmarked_before None next w e h = refl
unmarked_before (Some l) next w e h = cc

begin_agrees : (s : Reading) (w : Written) (p : ℕ) → AgreesUnmarked s w → AgreesUnmarked (begun s p) (writing.begun w p)
begin_agrees s w p h = λ none.
    ap (λ m. unless_marked m (writing.begun s.writer p) s.writer) none
    ∙ ap (λ v. writing.begun v p) (h (sym (watched.begun_unmarked s.watch p) ∙ none))

shift_agrees : (s : Reading) (w : Written) (k : ℕ) → AgreesUnmarked s w → AgreesUnmarked (shifted s k) (writing.shifted w k)
shift_agrees s w k h = λ none.
    ap (λ m. unless_marked m (writing.shifted s.writer k) s.writer) none
    ∙ ap (λ v. writing.shifted v k) (h (unmarked_before s.watch.mark (watched.marked s.watch) s.watch refl none))

reduce_agrees : (s : Reading) (w : Written) (p : ℕ) → AgreesUnmarked s w → AgreesUnmarked (reduced s p) (writing.reduced w p)
reduce_agrees s w p h = λ none. h (sym (watched.reduced_unmarked s.watch p) ∙ none)

pub writers_agree : Keeps AgreesUnmarked begun shifted reduced writing.begun writing.shifted writing.reduced
writers_agree = record { begin = begin_agrees; shift = shift_agrees; reduce = reduce_agrees }

-- ---- the watch

abbrev pub IsWatch : Reading → Watch → Type 0
IsWatch s w = s.watch ≡ w

pub watches : Keeps IsWatch begun shifted reduced watched.begun watched.shifted watched.reduced
watches = record {
  begin = λ s w p e. ap (λ w. watched.begun w p) e;
  shift = λ s w k e. ap (λ w. watched.shifted w k) e;
  reduce = λ s w p e. ap (λ w. watched.reduced w p) e;
}
