-- What a run writes down, and what its marks say.
use Rattle.std.proofs.Common.{◌≡◌, ℕ, List, map, Result, Ok, Err, ap, sym, ◌∙◌, subst, refl, arith}
use Rattle.std.proofs.lemmas.Bool.{ltb-true}
use Rattle.derivation_writer.specs.Writing.{IsDerived}
use Rattle.derivation_writer.specs.declared.stop.Stop.{Stop}
use Rattle.derivation_writer.specs.declared.stop.Stop.TheVariants as stop
use Rattle.module_derivations.specs.FlatMarks.Flat.{mark_of}
use Rattle.module_derivations.specs.Ahead.{ahead, marks, seen}
use Rattle.module_derivations.specs.Derivations.{AreMeant}
use Rattle.module_grammar.specs.Sorts.{Sort}
use Rattle.module_grammar.specs.Symbols.{Symbol, kind_of}
use Rattle.module_grammar.specs.Texts.{IsWritten}
use Rattle.module_spelling.specs.Context.{AreKinds, all_seen}
use Rattle.module_spelling.specs.Faults.{IsStuck, PassesLimit}
use Rattle.derivation_writer.proofs.ReadMarks.AsSeen.{as_seen}
use Rattle.derivation_writer.specs.ReadMarks.Reading.{IsMarked, IsReadAs, IsReading}
use Rattle.derivation_writer.specs.ReadMarks.Runs.{IsRun, IsStart, unread_by}
use Rattle.derivation_writer.specs.declared.read_marks.unread.Unread.{Unread}
use Rattle.derivation_writer.specs.declared.read_marks.unread.Unread.TheVariants as unread
use Rattle.predictive.specs.Grammar.{yield}

-- ---- a run

pub told : (n : ℕ) (kinds : List ℕ) (s : Stop) → IsDerived n kinds (Err s) → IsRun n kinds (Err (unread_by s))
told n kinds (stop.Stuck k) why = why
told n kinds (stop.Limit l) why = why

pub run_stopped :
    (n : ℕ) (kinds : List ℕ) (r : Result (List ℕ) Stop) (s : Stop) → r ≡ Err s → IsDerived n kinds r → (u : Unread) → u ≡ unread_by s
    → IsRun n kinds (Err u)
run_stopped n kinds r s e derived u is =
    subst (λ u. IsRun n kinds (Err u)) (sym is) (told n kinds s (subst (λ r. IsDerived n kinds r) e derived))

-- ---- what is read

module _ (n : ℕ) (x : Sort) (own : List Symbol) (kinds : List ℕ) (are : AreKinds own kinds) where
  unread_as : (u : Unread) → IsRun n kinds (Err u) → IsReading x n (all_seen own kinds) (Err u)
  unread_as (unread.Stuck k) why = subst (λ ks. IsStuck n ks k) (sym are.1) why
  unread_as (unread.Limit l) why = (why.0, subst (λ ks. PassesLimit n ks why.0 l) (sym are.1) why.1)

  -- what stands in front of a derivation's marks is what the symbols are written of
  read_as : AreMeant n x → (numbers : List ℕ) → IsDerived n kinds (Ok numbers) → IsReadAs x n (all_seen own kinds) (seen x (ahead own (map mark_of numbers)))
  read_as mean numbers derived =
      let f = derived.0 in
      let yields : yield f ≡ map kind_of (all_seen own kinds) = derived.2 ∙ sym are.1 in
      let same : ahead own (map mark_of numbers) ≡ ahead (all_seen own kinds) (marks f) =
      ap (λ ms. ahead own ms) derived.4 ∙ as_seen own kinds are f derived.2 in
      record {
        written =
            subst (λ t. IsWritten x t (all_seen own kinds)) (sym (ap (λ ps. seen x ps) same)) (mean f (all_seen own kinds) derived.1 yields).written;
        derivation = f;
        formed = derived.1;
        yields = yields;
        within = derived.3;
      }

pub marked : (n : ℕ) (x : Sort) (kinds : List ℕ) → AreMeant n x → (r : Result (List ℕ) Unread) → IsRun n kinds r → IsMarked x n kinds r
marked n x kinds mean (Ok numbers) run own are = read_as n x own kinds are mean numbers run
marked n x kinds mean (Err u) run own are = unread_as n x own kinds are u run

-- ---- where a text may begin

pub module_starts : IsStart 0
module_starts = record { typed = ltb-true 0 92 refl; ends = (ltb-true 0 94 refl, refl); other = λ e. absurd (omega (arith, e)) }

pub called_starts : IsStart 38
called_starts = record { typed = ltb-true 38 92 refl; ends = (ltb-true 38 94 refl, refl); other = λ e. absurd (omega (arith, e)) }

pub declared_starts : IsStart 7
declared_starts = record { typed = ltb-true 7 92 refl; ends = (ltb-true 7 94 refl, refl); other = λ e. absurd (omega (arith, e)) }

pub type_starts : IsStart 33
type_starts = record { typed = ltb-true 33 92 refl; ends = (ltb-true 33 94 refl, refl); other = λ e. absurd (omega (arith, e)) }

pub local_starts : IsStart 76
local_starts = record { typed = ltb-true 76 92 refl; ends = (ltb-true 76 94 refl, refl); other = λ e. absurd (omega (arith, e)) }

pub global_starts : IsStart 42
global_starts = record { typed = ltb-true 42 92 refl; ends = (ltb-true 42 94 refl, refl); other = λ e. absurd (omega (arith, e)) }

pub expression_starts : IsStart 74
expression_starts = record { typed = ltb-true 74 92 refl; ends = (ltb-true 74 94 refl, refl); other = λ e. absurd (omega (arith, e)) }
