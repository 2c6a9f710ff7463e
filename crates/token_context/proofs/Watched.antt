-- What a parser's answer and its watch say of what stands between parentheses.
use Rattle.std.proofs.Common.{◌≡◌, ◌⊎◌, inl, inr, ℕ, true, List, [], ◌∷◌, MatchOption, Option, None, Some, ap, sym, ◌∙◌, subst, arith}
use Rattle.ir_core.specs.declared.limits.Limit.{Limit}
use Rattle.ir_core.specs.declared.limits.Limit.TheVariants as limit
use Rattle.module_grammar.specs.Tokens.{token_grammar}
use Rattle.module_spelling.specs.Context.{called_number, declared_number}
use Rattle.module_spelling.specs.Opened.{Passes}
use Rattle.predictive.specs.Grammar.{Forest, Forms, IsFirstFault, after_trees, yield}
use Rattle.predictive.proofs.Faults.{none_in_text}
use Rattle.predictive.specs.declared.symbol.Symbol.TheVariants.{Non}
use Rattle.token_context.proofs.Lineless.{lineless, no_lines_passed}
use Rattle.token_context.specs.Readings.{Reads, reading_of}
use Rattle.token_context.specs.declared.reading.Reading.{Reading}
use Rattle.token_context.specs.declared.reading.Reading.TheVariants.{Other}
use Rattle.derivation_writer.proofs.TokenLimits.Marks.{marked_all}
use Rattle.derivation_writer.specs.TokenLimits.Laws.{SaysWhole, base_number}
use Rattle.derivation_writer.specs.TokenLimits.Watched.{begun, fresh, reduced, shifted}
use Rattle.derivation_writer.specs.declared.token_limits.watch.Watch.{Watch}

abbrev pub IsStart : ℕ → Type 0
IsStart n = (n ≡ called_number) ⊎ (n ≡ declared_number)

no_base : (n : ℕ) → IsStart n → n ≡ base_number → ⊥
no_base n (inl is) e = absurd (omega (arith, is, e))
no_base n (inr is) e = absurd (omega (arith, is, e))

is_lineless : (n : ℕ) → IsStart n → lineless n ≡ true
is_lineless n (inl is) = ap lineless is
is_lineless n (inr is) = ap lineless is

-- all of it is read
abbrev pub IsReadTo : ℕ → List ℕ → Watch → Type 0
IsReadTo n kinds w = (f : Forest) × Forms token_grammar f (Non n ∷ []) × (yield f ≡ kinds) × (w ≡ after_trees begun shifted reduced f fresh)

says : (n : ℕ) (kinds : List ℕ) (w : Watch) (m : Option Limit) → IsStart n → m ≡ w.mark → (r : IsReadTo n kinds w) → SaysWhole r.0 m
says n kinds w m start e r = subst (λ m. SaysWhole r.0 m) (sym (e ∙ ap (λ (w : Watch). w.mark) r.3)) (marked_all n r.0 r.1 (no_base n start))

depth_passed : (n : ℕ) (f : Forest) (k : ℕ) (l : Limit) → IsStart n → Forms token_grammar f (Non n ∷ []) → Passes f k l → Passes f k limit.Depth
depth_passed n f k limit.Depth start formed p = p
depth_passed n f k limit.Lines start formed p = absurd (no_lines_passed n f k (is_lineless n start) formed p)
depth_passed n f k limit.Text start formed p = absurd p
depth_passed n f k limit.Json start formed p = absurd p
depth_passed n f k limit.Block start formed p = absurd p
depth_passed n f k limit.Facts start formed p = absurd p

reads_by : (n : ℕ) (kinds : List ℕ) (w : Watch) (m : Option Limit) → IsStart n → m ≡ w.mark → IsReadTo n kinds w → Reads n kinds (reading_of m)
reads_by n kinds w None start e r = (r.0, r.1, r.2, says n kinds w None start e r)
reads_by n kinds w (Some l) start e r =
    let s : SaysWhole r.0 (Some l) = says n kinds w (Some l) start e r in
    (r.0, r.1, r.2, (s.0, depth_passed n r.0 s.0 l start r.1 s.2.0))

-- a parser's answer
abbrev pub Answers : ℕ → List ℕ → Watch → Watch → Option ℕ → Type 0
Answers n kinds old new fault =
    MatchOption fault
    ((f : Forest) × Forms token_grammar f (Non n ∷ []) × (yield f ≡ kinds) × (new ≡ after_trees begun shifted reduced f old))
    (λ place. IsFirstFault token_grammar (Non n ∷ []) kinds place)

pub read_within :
    (n : ℕ) (kinds : List ℕ) (fault : Option ℕ) (old new : Watch) (m : Option Limit) (reading : Reading) → IsStart n → old ≡ fresh → m ≡ new.mark
    → reading ≡ reading_of m → fault ≡ None → Answers n kinds old new fault → Reads n kinds reading
read_within n kinds fault old new m reading start first e is none answer =
    let r = subst (λ o. Answers n kinds old new o) none answer in
    subst (λ q. Reads n kinds q) (sym is)
    (reads_by n kinds new m start e (r.0, r.1, r.2, r.3 ∙ ap (λ w. after_trees begun shifted reduced r.0 w) first))

pub read_other :
    (n : ℕ) (kinds : List ℕ) (fault : Option ℕ) (old new : Watch) (place : ℕ) → fault ≡ Some place → Answers n kinds old new fault → Reads n kinds Other
read_other n kinds fault old new place some answer f formed e =
    none_in_text token_grammar (Non n ∷ []) kinds place (f, formed, e) (subst (λ o. Answers n kinds old new o) some answer)
