-- What a parser of a predictive grammar does up to the shift of a token is told by the tokens up to there.
use Rattle.std.proofs.Common.{◌≡◌, ℕ, zero, suc, Bool, true, List, [], ◌∷◌, ◌++◌, take, Some, refl, ap, sym, ◌∙◌, subst, append_assoc}
use Rattle.std.proofs.lemmas.List.{append-nil}
use Rattle.predictive.specs.GrammarDecides.Selects.{chosen, followed, may_end_followed, rule_followed}
use Rattle.predictive.specs.Grammar.{Grammar, Forest, End, Leaf, Node, Forms, yield, Event, Begin, Shift, Reduce, events, until_shifted}
use Rattle.predictive.specs.Predictive.{Sets, IsFollowed, IsPredictive, MayEnd, ahead, at_end}
use Rattle.predictive.specs.declared.symbol.Symbol.{Symbol}
use Rattle.predictive.specs.declared.symbol.Symbol.TheVariants.{Kind, Non}

same_ahead : (n : ℕ) (t u : List ℕ) → take (suc n) t ≡ take (suc n) u → ahead t ≡ ahead u
same_ahead n [] [] e = refl
same_ahead n [] (k ∷ u) e = cc
same_ahead n (k ∷ t) [] e = cc
same_ahead n (k ∷ t) (j ∷ u) e = let same : k ≡ j = cc in ap suc same

-- the events are one up to each token up to which the tokens are
abbrev Agree : List ℕ → List ℕ → List Event → List Event → Type 0
Agree t u a b = (n : ℕ) → take n t ≡ take n u → until_shifted n a ≡ until_shifted n b

agree_shifted : (k j : ℕ) (t u : List ℕ) (a b : List Event) → Agree t u a b → Agree (k ∷ t) (j ∷ u) (Shift k ∷ a) (Shift j ∷ b)
agree_shifted k j t u a b is zero e = refl
agree_shifted k j t u a b is (suc n) e =
    let same : k ≡ j = cc in
    let rest : take n t ≡ take n u = cc in
    ap (λ k. Shift k ∷ until_shifted n a) same ∙ ap (λ es. Shift j ∷ es) (is n rest)

agree_reduced : (p : ℕ) (t u : List ℕ) (a b : List Event) → Agree t u a b → Agree t u (Reduce p ∷ a) (Reduce p ∷ b)
agree_reduced p t u a b is zero e = refl
agree_reduced p t u a b is (suc n) e = ap (λ es. Reduce p ∷ es) (is (suc n) e)

module _ (g : Grammar) (s : Sets) (is : IsPredictive g s) where
  -- trees of one row, whatever is behind them
  abbrev Known : Forest → Type 0
  Known f =
      (h : Forest) (row : List Symbol) → Forms g f row → Forms g h row → (next : ℕ → Bool) → IsFollowed s row next
      → (t u : List ℕ) → next (ahead t) ≡ true → next (ahead u) ≡ true → (a b : List Event) → Agree t u a b
      → Agree (yield f ++ t) (yield h ++ u) (events f ++ a) (events h ++ b)

  node :
      (p q m : ℕ) (kids hids f h : Forest) (row : List Symbol) → Known kids → Known f → Forms g (Node p kids f) (Non m ∷ row) → Forms g (Node q hids h) (Non m ∷ row)
      → (next : ℕ → Bool) → IsFollowed s (Non m ∷ row) next → (t u : List ℕ) → next (ahead t) ≡ true → next (ahead u) ≡ true → (a b : List Event) → Agree t u a b
      → Agree (yield kids ++ (yield f ++ t)) (yield hids ++ (yield h ++ u)) (Begin p ∷ (events kids ++ (Reduce p ∷ (events f ++ a)))) (Begin q ∷ (events hids ++ (Reduce q ∷ (events h ++ b))))
  node p q m kids hids f h row inside behind v w next allowed t u at au a b more zero e = refl
  node p q m kids hids f h row inside behind v w next allowed t u at au a b more (suc n) e =
      let x = chosen g s is p m kids f row v next allowed t at in
      let y = chosen g s is q m hids h row w next allowed u au in
      let rules : Some p ≡ Some q =
      sym x ∙ ap (λ l. s.table m l) (same_ahead n (yield kids ++ (yield f ++ t)) (yield hids ++ (yield h ++ u)) e) ∙ y in
      let same : p ≡ q = cc in
      let then : Agree (yield f ++ t) (yield h ++ u) (Reduce p ∷ (events f ++ a)) (Reduce p ∷ (events h ++ b)) =
      agree_reduced p (yield f ++ t) (yield h ++ u) (events f ++ a) (events h ++ b) (behind h row v.3 w.3 next allowed.2 t u at au a b more) in
      let inner = inside hids (g.right p) v.2 (subst (λ r. Forms g hids (g.right r)) (sym same) w.2) (s.follow m) (rule_followed g s is p m v.0 v.1)
      (yield f ++ t) (yield h ++ u) (followed g s is f m row v.3 next allowed t at) (followed g s is h m row w.3 next allowed u au)
      (Reduce p ∷ (events f ++ a)) (Reduce p ∷ (events h ++ b)) then (suc n) e in
      ap (λ es. Begin p ∷ es) inner ∙ ap (λ r. Begin r ∷ until_shifted (suc n) (events hids ++ (Reduce r ∷ (events h ++ b)))) same

  known : (f : Forest) → Known f
  known End End [] v w next allowed t u at au a b more = more
  known (Leaf k f) (Leaf j h) (Kind c ∷ row) v w next allowed t u at au a b more =
      agree_shifted k j (yield f ++ t) (yield h ++ u) (events f ++ a) (events h ++ b) (known f h row v.1 w.1 next allowed t u at au a b more)
  known (Node p kids f) (Node q hids h) (Non m ∷ row) v w next allowed t u at au a b more = λ n e.
      ap (λ es. until_shifted n (Begin p ∷ es)) (append_assoc (events kids) (Reduce p ∷ events f) a)
      ∙ node p q m kids hids f h row (known kids) (known f) v w next allowed t u at au a b more n
      (ap (take n) (sym (append_assoc (yield kids) (yield f) t)) ∙ e ∙ ap (take n) (append_assoc (yield hids) (yield h) u))
      ∙ ap (λ es. until_shifted n (Begin q ∷ es)) (sym (append_assoc (events hids) (Reduce q ∷ events h) b))
  known End h (x ∷ row) v w next allowed t u at au a b more = absurd v
  known End (Leaf j h) [] v w next allowed t u at au a b more = absurd w
  known End (Node q hids h) [] v w next allowed t u at au a b more = absurd w
  known (Leaf k f) h [] v w next allowed t u at au a b more = absurd v
  known (Leaf k f) h (Non m ∷ row) v w next allowed t u at au a b more = absurd v
  known (Leaf k f) End (Kind c ∷ row) v w next allowed t u at au a b more = absurd w
  known (Leaf k f) (Node q hids h) (Kind c ∷ row) v w next allowed t u at au a b more = absurd w
  known (Node p kids f) h [] v w next allowed t u at au a b more = absurd v
  known (Node p kids f) h (Kind c ∷ row) v w next allowed t u at au a b more = absurd v
  known (Node p kids f) End (Non m ∷ row) v w next allowed t u at au a b more = absurd w
  known (Node p kids f) (Leaf j h) (Non m ∷ row) v w next allowed t u at au a b more = absurd w

  -- two texts of a nonterminal that begin with the same tokens are read by the same acts up to there
  pub same_start :
      (start : ℕ) → MayEnd s start → (f h : Forest) → Forms g f (Non start ∷ []) → Forms g h (Non start ∷ []) → (n : ℕ) → take n (yield f) ≡ take n (yield h)
      → until_shifted n (events f) ≡ until_shifted n (events h)
  same_start start may f h v w n e =
      ap (until_shifted n) (sym (append-nil (events f)))
      ∙ known f h (Non start ∷ []) v w at_end (may_end_followed s start may) [] [] refl refl [] [] (λ m d. refl) n
      (ap (take n) (append-nil (yield f)) ∙ e ∙ ap (take n) (sym (append-nil (yield h))))
      ∙ ap (until_shifted n) (append-nil (events h))
