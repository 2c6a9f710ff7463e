-- What is first at fault among tokens is one: a limit that is passed, or a token that isn't expected.
use Rattle.std.proofs.Common.{◌≡◌, ◌<◌, ◌≤◌, ◌+◌, ℕ, zero, suc, List, [], ◌∷◌, ◌++◌, length, map, take, drop, inl, inr, ⊎_elim, refl, ap, sym, ◌∙◌, subst, arith}
use Rattle.std.proofs.lemmas.Bool.{cases_order}
use Rattle.std.proofs.lemmas.List.{length-take}
use Rattle.ir_core.specs.declared.limits.Limit.{Limit}
use Rattle.ir_core.specs.declared.limits.Limit.TheVariants as limit
use Rattle.module_grammar.specs.Symbols.{Symbol, kind_of}
use Rattle.module_grammar.specs.Tokens.{token_grammar}
use Rattle.module_spelling.specs.Faults.{HasLimit, IsDeepAt, IsGrammarFault, IsRead, IsStuck, PassesLimit, module_number}
use Rattle.module_spelling.specs.Opened.{PassesFirst}
use Rattle.predictive.proofs.Faults.{one_fault}
use Rattle.predictive.specs.Grammar.{Agree, Forest, Forms, yield}
use Rattle.predictive.specs.declared.symbol.Symbol.TheVariants.{Non}
use Rattle.derivation_writer.specs.TokenLimits.Laws.{MarksFirst}
use Rattle.module_texts.proofs.Excluded.{module_may_end, no_limit, not_stuck, watched}
use Rattle.module_texts.proofs.Prefixes.{pass_both}
use Rattle.module_texts.proofs.Rises.{low_where_lines_pass}

-- ---- beginnings of texts

-- a longer beginning goes on from a shorter one
goes_on : (ks more : List ℕ) (a b : ℕ) → a ≤ b → take a ks ++ (drop a (take b ks) ++ more) ≡ take b ks ++ more
goes_on ks more zero b less = refl
goes_on ks more (suc a) zero less = absurd (omega arith)
goes_on [] more (suc a) (suc b) less = refl
goes_on (k ∷ ks) more (suc a) (suc b) less = ap (λ l. k ∷ l) (goes_on ks more a b (omega arith))

-- as the text does
agrees : (ks more : List ℕ) (a b : ℕ) → a < b → b ≤ length ks → Agree (drop a (take b ks) ++ more) (drop a ks)
agrees [] more a b less within = absurd (grind arith)
agrees (k ∷ ks) more a zero less within = absurd (omega arith)
agrees (k ∷ ks) more zero (suc b) less within = refl
agrees (k ∷ ks) more (suc a) (suc b) less within = agrees ks more a b (omega arith) (grind arith)

-- ---- limits

-- a first token past a limit is one
one_place : (f : Forest) (j k : ℕ) (l m : Limit) → PassesFirst f j l → PassesFirst f k m → j ≡ k
one_place f j k l m a b =
    ⊎_elim (λ same. same) (⊎_elim (λ less. absurd (b.1 j l less a.0)) (λ less. absurd (a.1 k m less b.0))) (cases_order j k)

-- and it passes one limit
one_passed : (f : Forest) → Forms token_grammar f (Non module_number ∷ []) → (k : ℕ) (l m : Limit) → PassesFirst f k l → PassesFirst f k m → l ≡ m
one_passed f formed k limit.Depth limit.Depth a b = refl
one_passed f formed k limit.Lines limit.Lines a b = refl
one_passed f formed k limit.Depth limit.Lines a b = absurd (low_where_lines_pass f (Non module_number ∷ []) formed k b a.0)
one_passed f formed k limit.Lines limit.Depth a b = absurd (low_where_lines_pass f (Non module_number ∷ []) formed k a b.0)
one_passed f formed k limit.Text m a b = absurd a.0
one_passed f formed k limit.Json m a b = absurd a.0
one_passed f formed k limit.Facts m a b = absurd a.0
one_passed f formed k limit.Block m a b = absurd a.0
one_passed f formed k l limit.Text a b = absurd b.0
one_passed f formed k l limit.Json a b = absurd b.0
one_passed f formed k l limit.Facts a b = absurd b.0
one_passed f formed k l limit.Block a b = absurd b.0

passed_at : (f : Forest) → Forms token_grammar f (Non module_number ∷ []) → (j k : ℕ) (l m : Limit) → PassesFirst f j l → PassesFirst f k m → l ≡ m
passed_at f formed j k l m a b =
    let same : j ≡ k = one_place f j k l m a b in
    one_passed f formed k l m (subst (λ n. PassesFirst f n l) same a) b

module _ (marks : MarksFirst) (kinds : List ℕ) where
  -- where one is passed no later than the other
  ordered : (j k : ℕ) (l m : Limit) → j ≤ k → PassesLimit module_number kinds j l → PassesLimit module_number kinds k m → l ≡ m
  ordered j k l m less (within, (more, f, formed, e, first)) (beyond, (rest, h, derived, d, later)) =
      let ks = take (j + 1) kinds in
      let n : length ks ≡ j + 1 = let full = length-take (j + 1) kinds in omega (arith, within, full) in
      let on : yield h ≡ ks ++ (drop (j + 1) (take (k + 1) kinds) ++ rest) = d ∙ sym (goes_on kinds rest (j + 1) (k + 1) (omega (arith, less))) in
      let both = pass_both marks module_number module_may_end f h (watched f formed) (watched h derived) ks more (drop (j + 1) (take (k + 1) kinds) ++ rest) e on j l (omega (arith, n)) first.0 in
      passed_at f formed j both.left l both.passed first both.left_first ∙ passed_at h derived both.right k both.passed m both.right_first later

  one_limit_passed : (j k : ℕ) (l m : Limit) → PassesLimit module_number kinds j l → PassesLimit module_number kinds k m → l ≡ m
  one_limit_passed j k l m a b =
      ⊎_elim (λ same. ordered j k l m (omega (arith, same)) a b)
      (⊎_elim (λ less. ordered j k l m (omega (arith, less)) a b) (λ less. sym (ordered k j m l (omega (arith, less)) b a))) (cases_order j k)

  -- behind a token that isn't expected nothing is read
  passed_where_stuck : (j k : ℕ) (l : Limit) → k ≤ j → PassesLimit module_number kinds j l → IsStuck module_number kinds k → ⊥
  passed_where_stuck j k l less (within, (more, f, formed, e, first)) stuck =
      stuck.0.2 (drop k (take (j + 1) kinds) ++ more) (agrees kinds more k (j + 1) (omega (arith, less)) (omega (arith, within)))
      (f, formed, e ∙ sym (goes_on kinds more k (j + 1) (omega (arith, less))))

  passed_or_stuck : (j k : ℕ) (l : Limit) → PassesLimit module_number kinds j l → IsStuck module_number kinds k → ⊥
  passed_or_stuck j k l passes stuck =
      ⊎_elim (λ same. passed_where_stuck j k l (omega (arith, same)) passes stuck)
      (⊎_elim (λ less. stuck.1 j l less passes) (λ less. passed_where_stuck j k l (omega (arith, less)) passes stuck)) (cases_order j k)

one_stuck : (kinds : List ℕ) (j k : ℕ) → IsStuck module_number kinds j → IsStuck module_number kinds k → j ≡ k
one_stuck kinds j k a b = one_fault token_grammar (Non module_number ∷ []) kinds j k a.0 b.0

module _ (marks : MarksFirst) (own symbols : List Symbol) where
  pub one_limit : (l m : Limit) → HasLimit own symbols l → HasLimit own symbols m → l ≡ m
  one_limit l m (inl a) (inl b) = one_limit_passed marks (map kind_of symbols) a.0 b.0 l m a.1 b.1
  one_limit l m (inl a) (inr b) = absurd (passed_or_stuck marks (map kind_of symbols) a.0 b.1.0 l a.1 b.1.1)
  one_limit l m (inr a) (inl b) = absurd (passed_or_stuck marks (map kind_of symbols) b.0 a.1.0 m b.1 a.1.1)
  one_limit l m (inr a) (inr b) = a.0 ∙ sym b.0

  pub limit_or_fault : (l : Limit) (k : ℕ) → HasLimit own symbols l → IsGrammarFault own symbols k → ⊥
  limit_or_fault l k (inl a) b = passed_or_stuck marks (map kind_of symbols) a.0 k l a.1 b.0
  limit_or_fault l k (inr a) b =
      let same : a.1.0 ≡ k = one_stuck (map kind_of symbols) a.1.0 k a.1.1 b.0 in
      b.1 (subst (IsDeepAt own) same a.1.2)

  pub one_grammar_fault : (j k : ℕ) → IsGrammarFault own symbols j → IsGrammarFault own symbols k → j ≡ k
  one_grammar_fault j k a b = one_stuck (map kind_of symbols) j k a.0 b.0

  pub limit_or_read : (l : Limit) → HasLimit own symbols l → IsRead symbols → ⊥
  limit_or_read l (inl a) r = no_limit marks (map kind_of symbols) a.0 l r.derivation r.formed r.yields r.within a.1
  limit_or_read l (inr a) r = not_stuck (map kind_of symbols) a.1.0 r.derivation r.formed r.yields a.1.1

  pub fault_or_read : (k : ℕ) → IsGrammarFault own symbols k → IsRead symbols → ⊥
  fault_or_read k a r = not_stuck (map kind_of symbols) k r.derivation r.formed r.yields a.0
