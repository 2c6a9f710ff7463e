use Rattle.std.proofs.Common.{◌≡◌, ℕ, suc, true, List, [], ◌∷◌, refl, sym, subst, arith}
use Rattle.std.proofs.lemmas.Bool.{true≢false}
use Rattle.predictive.specs.declared.symbol.Symbol.TheVariants.{Non}
use Rattle.predictive.specs.Examples.{brackets}
use Rattle.predictive.specs.Grammar.{End, Leaf, Node, Derives, Agree}
use Rattle.predictive.specs.Listed.{grammar_of, sets_of}
use Rattle.predictive.specs.Predictive.{first_row}
use Rattle.predictive.proofs.ByTest.{by_test}
use Rattle.predictive.specs.GrammarDecides.Selects.{first_of_text}
use Rattle.predictive.proofs.laws.examples.Goals as goal

pub returns-clause-yes : goal.returns-clause-yes
returns-clause-yes c = refl

pub returns-clause-word : goal.returns-clause-word
returns-clause-word c = (
  Node 1 (Leaf 0 (Node 0 End (Leaf 1 (Node 0 End End)))) End,
  (omega arith, refl, (refl, (omega arith, refl, tt, (refl, (omega arith, refl, tt, tt)))), tt),
  refl,
)

pub returns-clause-no : goal.returns-clause-no
returns-clause-no c = refl

no_row : (more : List ℕ) → Agree more (1 ∷ []) → Derives (grammar_of brackets) (Non 0 ∷ []) more → ⊥
no_row [] a d = a
no_row (k ∷ ks) a d =
    true≢false (sym (subst (λ k. first_row (sets_of brackets) (Non 0 ∷ []) (suc k) ≡ true) a
    (first_of_text (grammar_of brackets) (sets_of brackets) (by_test brackets refl) (Non 0 ∷ []) k ks d)))

pub returns-clause-fault : goal.returns-clause-fault
returns-clause-fault c = (omega arith, ([], (Node 0 End End, (omega arith, refl, tt, tt), refl)), no_row)
