-- What a parser of a predictive grammar does up to a token depends on the tokens up to it alone: so do depths, lines and the limits that are passed.
use Rattle.std.proofs.Common.{◌≡◌, ◌<◌, ℕ, zero, suc, Bool, true, List, [], ◌∷◌, ◌++◌, length, Option, Some, None, refl, ap, sym, ◌∙◌, subst, append_assoc}
use Rattle.std.proofs.lemmas.List.{append-nil}
use Rattle.ir_core.specs.declared.limits.Limit.{Limit}
use Rattle.module_grammar.proofs.Predictive.{is_predictive}
use Rattle.module_grammar.specs.Sets.{sets}
use Rattle.module_grammar.specs.Tokens.{token_grammar}
use Rattle.module_spelling.specs.Opened.{Passes, PassesFirst}
use Rattle.predictive.specs.GrammarDecides.Selects.{chosen, followed, may_end_followed, rule_followed}
use Rattle.predictive.specs.declared.symbol.Symbol.{Symbol}
use Rattle.predictive.specs.declared.symbol.Symbol.TheVariants.{Kind, Non}
use Rattle.predictive.specs.Grammar.{Begin, End, Event, Forest, Forms, Grammar, Leaf, Node, Reduce, Shift, after_events, after_some, events, until_shifted, yield}
use Rattle.predictive.specs.Predictive.{IsFollowed, IsPredictive, MayEnd, Sets, ahead, at_end}
use Rattle.derivation_writer.specs.TokenLimits.Laws.{IsWatched, MarksFirst, SaysBefore}
use Rattle.derivation_writer.specs.TokenLimits.Watched.{begun, fresh, reduced, shifted}

-- ---- events

reduced_too : (p q n : ℕ) (xs ys : List Event) → p ≡ q → until_shifted n xs ≡ until_shifted n ys → until_shifted n (Reduce p ∷ xs) ≡ until_shifted n (Reduce q ∷ ys)
reduced_too p q zero xs ys same e = refl
reduced_too p q (suc n) xs ys same e = ap (λ r. Reduce r ∷ until_shifted (suc n) xs) same ∙ ap (λ es. Reduce q ∷ es) e

begun_too : (p q n : ℕ) (xs ys : List Event) → p ≡ q → until_shifted n xs ≡ until_shifted n ys → until_shifted n (Begin p ∷ xs) ≡ until_shifted n (Begin q ∷ ys)
begun_too p q zero xs ys same e = refl
begun_too p q (suc n) xs ys same e = ap (λ r. Begin r ∷ until_shifted (suc n) xs) same ∙ ap (λ es. Begin q ∷ es) e

shifted_too : (k j n : ℕ) (xs ys : List Event) → k ≡ j → until_shifted n xs ≡ until_shifted n ys → until_shifted (suc n) (Shift k ∷ xs) ≡ until_shifted (suc n) (Shift j ∷ ys)
shifted_too k j n xs ys same e = ap (λ i. Shift i ∷ until_shifted n xs) same ∙ ap (λ es. Shift j ∷ es) e

node_events : (p : ℕ) (kids f : Forest) (x : List Event) → events (Node p kids f) ++ x ≡ Begin p ∷ (events kids ++ (Reduce p ∷ (events f ++ x)))
node_events p kids f x = ap (λ es. Begin p ∷ es) (append_assoc (events kids) (Reduce p ∷ events f) x)

-- ---- trees whose tokens begin alike

module _ (g : Grammar) (s : Sets) (is : IsPredictive g s) where
  same_rule :
      (p q n : ℕ) (kids f hids h : Forest) (row : List Symbol) → Forms g (Node p kids f) (Non n ∷ row) → Forms g (Node q hids h) (Non n ∷ row)
      → (next : ℕ → Bool) → IsFollowed s (Non n ∷ row) next → (t u : List ℕ) → next (ahead t) ≡ true → next (ahead u) ≡ true
      → (k : ℕ) (ks more rest : List ℕ) → yield kids ++ (yield f ++ t) ≡ (k ∷ ks) ++ more → yield hids ++ (yield h ++ u) ≡ (k ∷ ks) ++ rest → p ≡ q
  same_rule p q n kids f hids h row a b next allowed t u at au k ks more rest e d =
      let x = chosen g s is p n kids f row a next allowed t at in
      let y = chosen g s is q n hids h row b next allowed u au in
      let rules : Some p ≡ Some q = sym x ∙ ap (λ l. s.table n (ahead l)) e ∙ sym (ap (λ l. s.table n (ahead l)) d) ∙ y in
      cc

  agree :
      (f h : Forest) (row : List Symbol) → Forms g f row → Forms g h row
      → (next : ℕ → Bool) → IsFollowed s row next → (t u : List ℕ) → next (ahead t) ≡ true → next (ahead u) ≡ true
      → (ks more rest : List ℕ) → yield f ++ t ≡ ks ++ more → yield h ++ u ≡ ks ++ rest → (x y : List Event)
      → ((left : List ℕ) → t ≡ left ++ more → u ≡ left ++ rest → until_shifted (length left) x ≡ until_shifted (length left) y)
      → until_shifted (length ks) (events f ++ x) ≡ until_shifted (length ks) (events h ++ y)
  agree End End [] a b next allowed t u at au ks more rest e d x y go = go ks e d
  agree (Leaf k f) (Leaf j h) (Kind c ∷ row) a b next allowed t u at au [] more rest e d x y go = refl
  agree (Leaf k f) (Leaf j h) (Kind c ∷ row) a b next allowed t u at au (i ∷ ks) more rest e d x y go =
      let left : yield f ++ t ≡ ks ++ more = cc in
      let right : yield h ++ u ≡ ks ++ rest = cc in
      shifted_too k j (length ks) (events f ++ x) (events h ++ y) (sym a.0 ∙ b.0) (agree f h row a.1 b.1 next allowed t u at au ks more rest left right x y go)
  agree (Node p kids f) (Node q hids h) (Non n ∷ row) a b next allowed t u at au [] more rest e d x y go = refl
  agree (Node p kids f) (Node q hids h) (Non n ∷ row) a b next allowed t u at au (k ∷ ks) more rest e d x y go =
      let left : yield kids ++ (yield f ++ t) ≡ (k ∷ ks) ++ more = sym (append_assoc (yield kids) (yield f) t) ∙ e in
      let right : yield hids ++ (yield h ++ u) ≡ (k ∷ ks) ++ rest = sym (append_assoc (yield hids) (yield h) u) ∙ d in
      let same : p ≡ q = same_rule p q n kids f hids h row a b next allowed t u at au k ks more rest left right in
      let inner =
      agree kids hids (g.right p) a.2 (subst (λ r. Forms g hids (g.right r)) (sym same) b.2) (s.follow n) (rule_followed g s is p n a.0 a.1) (yield f ++ t) (yield h ++ u)
      (followed g s is f n row a.3 next allowed t at) (followed g s is h n row b.3 next allowed u au) (k ∷ ks) more rest left right
      (Reduce p ∷ (events f ++ x)) (Reduce q ∷ (events h ++ y))
      (λ js v w. reduced_too p q (length js) (events f ++ x) (events h ++ y) same (agree f h row a.3 b.3 next allowed.2 t u at au js more rest v w x y go)) in
      ap (until_shifted (length (k ∷ ks))) (node_events p kids f x)
      ∙ begun_too p q (length (k ∷ ks)) (events kids ++ (Reduce p ∷ (events f ++ x))) (events hids ++ (Reduce q ∷ (events h ++ y))) same inner
      ∙ sym (ap (until_shifted (length (k ∷ ks))) (node_events q hids h y))
  agree End h (z ∷ row) a b next allowed t u at au ks more rest e d x y go = absurd a
  agree End (Leaf j h) [] a b next allowed t u at au ks more rest e d x y go = absurd b
  agree End (Node q hids h) [] a b next allowed t u at au ks more rest e d x y go = absurd b
  agree (Leaf k f) h [] a b next allowed t u at au ks more rest e d x y go = absurd a
  agree (Leaf k f) h (Non n ∷ row) a b next allowed t u at au ks more rest e d x y go = absurd a
  agree (Leaf k f) End (Kind c ∷ row) a b next allowed t u at au ks more rest e d x y go = absurd b
  agree (Leaf k f) (Node q hids h) (Kind c ∷ row) a b next allowed t u at au ks more rest e d x y go = absurd b
  agree (Node p kids f) h [] a b next allowed t u at au ks more rest e d x y go = absurd a
  agree (Node p kids f) h (Kind c ∷ row) a b next allowed t u at au ks more rest e d x y go = absurd a
  agree (Node p kids f) End (Non n ∷ row) a b next allowed t u at au ks more rest e d x y go = absurd b
  agree (Node p kids f) (Leaf j h) (Non n ∷ row) a b next allowed t u at au ks more rest e d x y go = absurd b

  -- up to the last token that both begin with, the same is done along both
  pub one_beginning :
      (start : ℕ) → MayEnd s start → (f h : Forest) → Forms g f (Non start ∷ []) → Forms g h (Non start ∷ [])
      → (ks more rest : List ℕ) → yield f ≡ ks ++ more → yield h ≡ ks ++ rest → until_shifted (length ks) (events f) ≡ until_shifted (length ks) (events h)
  one_beginning start may f h a b ks more rest e d =
      ap (until_shifted (length ks)) (sym (append-nil (events f)))
      ∙ agree f h (Non start ∷ []) a b at_end (may_end_followed s start may) [] [] refl refl ks more rest (append-nil (yield f) ∙ e) (append-nil (yield h) ∙ d) [] []
      (λ left v w. refl)
      ∙ ap (until_shifted (length ks)) (append-nil (events h))

-- ---- limits

-- both pass this limit first, each at one of the first tokens, so many
pub record PassBoth (count : ℕ) (f h : Forest) : Type 0 where
  pub passed : Limit
  pub left : ℕ
  pub left_inside : left < count
  pub left_first : PassesFirst f left passed
  pub right : ℕ
  pub right_inside : right < count
  pub right_first : PassesFirst h right passed

both_say : (m : Option Limit) (count : ℕ) (f h : Forest) → SaysBefore count f m → SaysBefore count h m → (k : ℕ) (l : Limit) → k < count → Passes f k l → PassBoth count f h
both_say None count f h a b k l less passes = absurd (a k l less passes)
both_say (Some n) count f h a b k l less passes = record {
  passed = n;
  left = a.0;
  left_inside = a.1;
  left_first = a.2;
  right = b.0;
  right_inside = b.1;
  right_first = b.2;
}

-- what passes a limit among the tokens that both begin with
pub pass_both :
    MarksFirst → (start : ℕ) → MayEnd sets start → (f h : Forest) → IsWatched start f → IsWatched start h → (ks more rest : List ℕ) → yield f ≡ ks ++ more → yield h ≡ ks ++ rest
    → (k : ℕ) (l : Limit) → k < length ks → Passes f k l → PassBoth (length ks) f h
pass_both marks start may f h a b ks more rest e d k l less passes =
    let same = one_beginning token_grammar sets is_predictive start may f h a.formed b.formed ks more rest e d in
    let mark : (after_some begun shifted reduced (length ks) f fresh).mark ≡ (after_some begun shifted reduced (length ks) h fresh).mark =
    ap (λ es. (after_events begun shifted reduced es fresh).mark) same in
    both_say (after_some begun shifted reduced (length ks) h fresh).mark (length ks) f h
    (subst (SaysBefore (length ks) f) mark (marks.before start f a (length ks)))
    (marks.before start h b (length ks)) k l less passes
