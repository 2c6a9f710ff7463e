-- What a parser's run writes down, or why it writes nothing.
use Rattle.std.proofs.Common.{◌≡◌, ℕ, List, [], ◌∷◌, ◌++◌, map, take, MatchOption, Option, None, Some, Ok, Err, refl, ap, sym, ◌∙◌, subst}
use Rattle.std.specs.Prelude.{IfSome}
use Rattle.derivation_writer.proofs.Kept.{AgreesUnmarked, IsWatch, watches, writers_agree}
use Rattle.derivation_writer.proofs.Limits.{Begun, none_in_all, passed_before, passed_in_all, stuck}
use Rattle.derivation_writer.specs.Watching.{begun, first, reduced, shifted, stop_by}
use Rattle.derivation_writer.specs.Writing as writing
use Rattle.derivation_writer.specs.Writing.{IsDerived, written_by}
use Rattle.derivation_writer.specs.declared.reading.Reading.{Reading}
use Rattle.derivation_writer.specs.declared.stop.Stop.{Stop}
use Rattle.module_derivations.proofs.FlatMarks.Running.{writes}
use Rattle.module_derivations.specs.FlatMarks.Flat.{Written}
use Rattle.ir_core.specs.declared.limits.Limit.{Limit}
use Rattle.module_derivations.specs.Ahead.{chosen, marks, says}
use Rattle.module_grammar.specs.Sets.{sets}
use Rattle.module_grammar.specs.Tokens.{token_grammar}
use Rattle.module_spelling.specs.Opened.{IsWithin}
use Rattle.predictive.proofs.Keeping.{kept_some, kept_trees}
use Rattle.predictive.specs.Grammar.{Forest, Forms, IsFirstFault, after_some, after_trees, yield}
use Rattle.predictive.specs.Predictive.{MayEnd}
use Rattle.predictive.specs.declared.symbol.Symbol.TheVariants.{Non}
use Rattle.derivation_writer.specs.TokenLimits.Laws.{base_number}
use Rattle.derivation_writer.specs.TokenLimits.Watched as watched
use Rattle.derivation_writer.specs.TokenLimits.Watched.{fresh}
use Rattle.derivation_writer.specs.declared.token_limits.watch.Watch.{Watch}

-- ---- what the parser answers

abbrev pub Answers : ℕ → List ℕ → Reading → Reading → Option ℕ → Type 0
Answers n kinds old new fault =
    MatchOption fault
    ((f : Forest) × Forms token_grammar f (Non n ∷ []) × (yield f ≡ kinds) × (new ≡ after_trees begun shifted reduced f old))
    (λ place. IsFirstFault token_grammar (Non n ∷ []) kinds place)

abbrev pub Marks : ℕ → List ℕ → Reading → Reading → Option ℕ → Type 0
Marks n kinds old new fault =
    IfSome fault (λ place.
    (more : List ℕ) (f : Forest) → Forms token_grammar f (Non n ∷ []) → yield f ≡ take place kinds ++ more
    → (after_some begun shifted reduced place f old).watch.mark ≡ new.watch.mark)

-- a derivation is written down, no token of which passes a limit
abbrev pub IsWhole : ℕ → List ℕ → Written → Type 0
IsWhole n kinds w = (f : Forest) × Forms token_grammar f (Non n ∷ []) × (yield f ≡ kinds) × IsWithin f × (w.marks ≡ marks f)

module _ (n : ℕ) (ends : MayEnd sets n) (other : n ≡ base_number → ⊥) (kinds : List ℕ) where
  mark_of_all : (f : Forest) → (after_trees begun shifted reduced f first).watch.mark ≡ (after_trees watched.begun watched.shifted watched.reduced f fresh).mark
  mark_of_all f =
      ap (λ (w : Watch). w.mark) (kept_trees IsWatch begun shifted reduced watched.begun watched.shifted watched.reduced watches f first fresh refl)

  mark_of_some :
      (place : ℕ) (f : Forest)
      → (after_some begun shifted reduced place f first).watch.mark ≡ (after_some watched.begun watched.shifted watched.reduced place f fresh).mark
  mark_of_some place f =
      ap (λ (w : Watch). w.mark) (kept_some IsWatch begun shifted reduced watched.begun watched.shifted watched.reduced watches place f first fresh refl)

  -- all is read within the limits: the marks of the trees are written down
  whole :
      (f : Forest) → Forms token_grammar f (Non n ∷ []) → yield f ≡ kinds → (new : Reading) → new ≡ after_trees begun shifted reduced f first → new.watch.mark ≡ None
      → IsWhole n kinds new.writer
  whole f formed e new is unmarked =
      let none : (after_trees begun shifted reduced f first).watch.mark ≡ None = ap (λ (s : Reading). s.watch.mark) (sym is) ∙ unmarked in
      let agrees = kept_trees AgreesUnmarked begun shifted reduced writing.begun writing.shifted writing.reduced writers_agree f first (written_by 0 []) (λ u. refl) none in (
        f,
        formed,
        e,
        none_in_all n ends other kinds f formed (sym (mark_of_all f) ∙ none),
        ap (λ (s : Reading). s.writer.marks) is ∙ ap (λ (w : Written). w.marks) (agrees ∙ writes chosen says f 0 []),
      )

  begun_to :
      (place : ℕ) (new : Reading) (m : Option Limit) → new.watch.mark ≡ m → IsFirstFault token_grammar (Non n ∷ []) kinds place
      → Marks n kinds first new (Some place) → Begun n ends other kinds place m
  begun_to place new m e fault marks = record {
    within = fault.0;
    more = fault.1.0;
    forest = fault.1.1.0;
    formed = fault.1.1.1;
    yields = fault.1.1.2;
    marks = sym (mark_of_some place fault.1.1.0) ∙ marks fault.1.0 fault.1.1.0 fault.1.1.1 fault.1.1.2 ∙ e;
  }

  said :
      (m : Option Limit) (fault : Option ℕ) (new : Reading) → new.watch.mark ≡ m → Answers n kinds first new fault → Marks n kinds first new fault
      → MatchOption (stop_by m fault) (IsWhole n kinds new.writer) (λ s. IsDerived n kinds (Err s))
  said (Some l) None new e answer marks =
      passed_in_all n ends other kinds answer.0 answer.1 answer.2 l (sym (mark_of_all answer.0) ∙ ap (λ (s : Reading). s.watch.mark) (sym answer.3) ∙ e)
  said (Some l) (Some place) new e answer marks = passed_before n ends other kinds place l (begun_to place new (Some l) e answer marks)
  said None (Some place) new e answer marks = stuck n ends other kinds place answer (begun_to place new None e answer marks)
  said None None new e answer marks = whole answer.0 answer.1 answer.2 new answer.3 e

  pub run_said :
      (before new : Reading) → before ≡ first → (m : Option Limit) → m ≡ new.watch.mark → (fault : Option ℕ) → Answers n kinds before new fault
      → Marks n kinds before new fault → (o : Option Stop) → o ≡ stop_by m fault
      → MatchOption o (IsWhole n kinds new.writer) (λ s. IsDerived n kinds (Err s))
  run_said before new at m e fault answer marks o is =
      subst (λ o. MatchOption o (IsWhole n kinds new.writer) (λ s. IsDerived n kinds (Err s))) (sym is)
      (said m fault new (sym e) (subst (λ s. Answers n kinds s new fault) at answer) (subst (λ s. Marks n kinds s new fault) at marks))

-- ---- what is handed out

pub derived :
    (n : ℕ) (kinds : List ℕ) (w : Written) (Q : Stop → Type 0) (o : Option Stop) → o ≡ None → MatchOption o (IsWhole n kinds w) Q
    → (numbers : List ℕ) → ((place : ℕ) × (w ≡ written_by place numbers)) → IsDerived n kinds (Ok numbers)
derived n kinds w Q o none said numbers written =
    let run : IsWhole n kinds w = subst (λ o. MatchOption o (IsWhole n kinds w) Q) none said in
    (run.0, run.1, run.2, run.3, ap (λ (v : Written). v.marks) (sym written.1) ∙ run.4)

pub stopped :
    (n : ℕ) (kinds : List ℕ) (P : Type 0) (o : Option Stop) (s : Stop) → o ≡ Some s → MatchOption o P (λ s. IsDerived n kinds (Err s))
    → IsDerived n kinds (Err s)
stopped n kinds P o s some said = subst (λ o. MatchOption o P (λ s. IsDerived n kinds (Err s))) some said
