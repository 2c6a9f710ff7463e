-- How many lines begin in a part of a derivation, its tokens show.
use Rattle.std.proofs.Common.{◌≡◌, ◌≤◌, ◌+◌, ℕ, Bool, true, false, ◌||◌, cond, nat_eq, nat_le, List, [], ◌∷◌, ◌++◌, refl, ap, sym, ◌∙◌, subst, ◌⊎◌, inl, inr, arith}
use Rattle.std.specs.List.{AllByRecursion}
use Rattle.std.proofs.lemmas.Bool.{eqb-true, leb-true}
use Rattle.predictive.proofs.GapListing.{both}
use Rattle.ir_core.specs.Limits.{line_limit}
use Rattle.module_grammar.specs.Tokens.{token_grammar}
use Rattle.module_spelling.specs.Opened.{lines, lines_at, lines_in}
use Rattle.named_modules.proofs.Lists.{all_left, all_right}
use Rattle.predictive.specs.Grammar.{Forest, End, Leaf, Node, Forms, yield}
use Rattle.predictive.specs.declared.symbol.Symbol.{Symbol as Sign}
use Rattle.predictive.specs.declared.symbol.Symbol.TheVariants.{Kind, Non}
use Rattle.module_spelling.proofs.RuleTests.{Tested, call_end, has_token, is_inner, of_rule}

-- none of these passes the limit
abbrev pub AllFew : List ℕ → Type 0
AllFew = AllByRecursion (λ (n : ℕ). n ≤ line_limit)

nothing_left : (a b : List ℕ) → a ++ b ≡ [] → b ≡ []
nothing_left [] b e = e
nothing_left (x ∷ a) b e = cc

nothing_before : (a b : List ℕ) → a ++ b ≡ [] → a ≡ []
nothing_before [] b e = refl
nothing_before (x ∷ a) b e = cc

shows : (f : Forest) (s : List Sign) → Forms token_grammar f s → has_token s ≡ true → yield f ≡ [] → ⊥
shows End [] formed has e = cc
shows (Leaf k f) (Kind c ∷ s) formed has e = cc
shows (Node p kids f) (Non n ∷ s) formed has e =
    by (nat_eq n call_end) refl has
    (λ own. shows kids (token_grammar.right p) formed.2 own (nothing_before (yield kids) (yield f) e))
    (λ more. shows f s formed.3 more (nothing_left (yield kids) (yield f) e))
  where
    by : (b : Bool) → nat_eq n call_end ≡ b → (b || has_token s) ≡ true → (has_token (token_grammar.right p) ≡ true → ⊥) → (has_token s ≡ true → ⊥) → ⊥
    by true is has own more = own ((of_rule p formed.0).ended (formed.1 ∙ eqb-true n call_end is))
    by false is has own more = more has
shows End (y ∷ s) formed has e = absurd formed
shows (Leaf k f) [] formed has e = absurd formed
shows (Leaf k f) (Non n ∷ s) formed has e = absurd formed
shows (Node p kids f) [] formed has e = absurd formed
shows (Node p kids f) (Kind c ∷ s) formed has e = absurd formed

-- Where so many lines had begun before: none begins, and there is no token; or with those that begin they are within the limit.
abbrev pub Few : ℕ → Forest → Type 0
Few n f = ((lines_in f ≡ 0) × (yield f ≡ [])) ⊎ (n + lines_in f ≤ line_limit)

few_behind :
    (n p : ℕ) (kids f : Forest) → ((lines_at p ≡ 0) ⊎ (yield kids ≡ [] → ⊥)) → Few (n + lines_at p) kids → Few (n + lines_at p + lines_in kids) f
    → Few n (Node p kids f)
few_behind n p kids f shown inner (inr few) = inr (omega (arith, few))
few_behind n p kids f shown (inr few) (inl none) = inr (omega (arith, few, none.0))
few_behind n p kids f (inl no_line) (inl nothing) (inl none) =
    inl (omega (arith, no_line, nothing.0, none.0), ap (λ l. l ++ yield f) nothing.1 ∙ none.1)
few_behind n p kids f (inr shows) (inl nothing) (inl none) = absurd (shows nothing.1)

few_leaf : (n k : ℕ) (f : Forest) → n ≤ line_limit → Few n f → Few n (Leaf k f)
few_leaf n k f here (inl none) = inr (omega (arith, here, none.0))
few_leaf n k f here (inr few) = inr few

pub are_few : (n : ℕ) (f : Forest) (s : List Sign) → is_inner s ≡ true → Forms token_grammar f s → AllFew (lines n f) → Few n f
are_few n End s inner formed all = inl (refl, refl)
are_few n (Leaf k f) (Kind c ∷ s) inner formed all = few_leaf n k f all.0 (are_few n f s inner formed.1 all.1)
are_few n (Node p kids f) (Non m ∷ s) inner formed all =
    let parts = both (nat_le 2 m) (is_inner s) inner in
    let above : 2 ≤ m = leb-true 2 m parts.0 in
    let t : Tested p = of_rule p formed.0 in
    let left : 2 ≤ token_grammar.left p = subst (λ j. 2 ≤ j) (sym formed.1) above in
    let each : AllFew (lines (n + lines_at p) kids ++ lines (n + lines_at p + lines_in kids) f) =
    subst (λ b. AllFew (cond b (lines 0 kids ++ lines n f) (lines (n + lines_at p) kids ++ lines (n + lines_at p + lines_in kids) f))) (t.other left) all in
    few_behind n p kids f (shown p kids formed.2 t.shown)
    (are_few (n + lines_at p) kids (token_grammar.right p) (t.inner (omega (arith, left))) formed.2 (all_left (λ (n : ℕ). n ≤ line_limit) (lines (n + lines_at p) kids) (lines (n + lines_at p + lines_in kids) f) each))
    (are_few (n + lines_at p + lines_in kids) f s parts.1 formed.3 (all_right (λ (n : ℕ). n ≤ line_limit) (lines (n + lines_at p) kids) (lines (n + lines_at p + lines_in kids) f) each))
  where
    shown : (p : ℕ) (kids : Forest) → Forms token_grammar kids (token_grammar.right p) → (lines_at p ≡ 0) ⊎ (has_token (token_grammar.right p) ≡ true) → (lines_at p ≡ 0) ⊎ (yield kids ≡ [] → ⊥)
    shown p kids formed (inl none) = inl none
    shown p kids formed (inr has) = inr (λ e. shows kids (token_grammar.right p) formed has e)
are_few n (Leaf k f) [] inner formed all = absurd formed
are_few n (Leaf k f) (Non m ∷ s) inner formed all = absurd formed
are_few n (Node p kids f) [] inner formed all = absurd formed
are_few n (Node p kids f) (Kind c ∷ s) inner formed all = absurd formed
