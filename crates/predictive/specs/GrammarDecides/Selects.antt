-- Where a tree stands in a text, what is ahead selects its rule; so a text has one tree.
use Rattle.std.proofs.Common.{◌≡◌, ◌<◌, ℕ, suc, Bool, true, List, [], ◌∷◌, ◌++◌, Some, refl, ap, sym, ◌∙◌, subst, append_assoc}
use Rattle.std.proofs.lemmas.Bool.{eq-eqb, eqb-true, and_from, or_left, or_right}
use Rattle.std.proofs.lemmas.List.{append-nil}
use Rattle.predictive.specs.declared.symbol.Symbol.{Symbol}
use Rattle.predictive.specs.declared.symbol.Symbol.TheVariants.{Kind, Non}
use Rattle.predictive.specs.Grammar.{Grammar, Forest, End, Leaf, Node, Forms, yield, Derives, IsUnambiguous}
use Rattle.predictive.specs.Predictive.{Sets, ahead, nullable_row, first_row, select, IsFollowed, IsPredictive, MayEnd, at_end}

-- what a text says of the sets of its row
begins : Sets → List Symbol → List ℕ → Type 0
begins s row [] = nullable_row s row ≡ true
begins s row (k ∷ ks) = first_row s row (suc k) ≡ true

begins_node :
    (s : Sets) (n : ℕ) (row : List Symbol) (inner outer : List ℕ)
    → (inner ≡ [] → s.nullable n ≡ true) → ((k : ℕ) (ks : List ℕ) → inner ≡ k ∷ ks → s.first n (suc k) ≡ true)
    → begins s row outer → begins s (Non n ∷ row) (inner ++ outer)
unfolding begins
begins_node s n row [] [] null first b = and_from _ _ (null refl) b
begins_node s n row [] (k ∷ ks) null first b = or_right _ _ (and_from _ _ (null refl) b)
begins_node s n row (k ∷ ks) outer null first b = or_left _ _ (first k ks refl)

begins_rule :
    (g : Grammar) (s : Sets) → IsPredictive g s → (p : ℕ) → p < g.count → (ks : List ℕ) → begins s (g.right p) ks
    → (ks ≡ [] → s.nullable (g.left p) ≡ true) × ((k : ℕ) (js : List ℕ) → ks ≡ k ∷ js → s.first (g.left p) (suc k) ≡ true)
unfolding begins
begins_rule g s is p h [] b = (λ _. is.nullable p h b, λ k js e. cc)
begins_rule g s is p h (k ∷ ks) b = (λ e. cc, λ j js e. let same : k ≡ j = cc in subst (λ j. s.first (g.left p) (suc j) ≡ true) same (is.first p h (suc k) b))

begins_forest : (g : Grammar) (s : Sets) → IsPredictive g s → (f : Forest) (row : List Symbol) → Forms g f row → begins s row (yield f)
unfolding begins
begins_forest g s is End [] formed = refl
begins_forest g s is End (x ∷ row) formed = absurd formed
begins_forest g s is (Leaf k f) [] formed = absurd formed
begins_forest g s is (Leaf k f) (Kind c ∷ row) formed = eq-eqb (suc c) (suc k) (ap (λ j. suc j) formed.0)
begins_forest g s is (Leaf k f) (Non n ∷ row) formed = absurd formed
begins_forest g s is (Node p kids f) [] formed = absurd formed
begins_forest g s is (Node p kids f) (Kind c ∷ row) formed = absurd formed
begins_forest g s is (Node p kids f) (Non n ∷ row) formed =
    let rule = begins_rule g s is p formed.0 (yield kids) (begins_forest g s is kids (g.right p) formed.2) in
    begins_node s n row (yield kids) (yield f)
    (λ e. subst (λ m. s.nullable m ≡ true) formed.1 (rule.0 e))
    (λ k ks e. subst (λ m. s.first m (suc k) ≡ true) formed.1 (rule.1 k ks e))
    (begins_forest g s is f row formed.3)

-- what a text begins with is in FIRST
pub first_of_text :
    (g : Grammar) (s : Sets) → IsPredictive g s → (row : List Symbol) (k : ℕ) (ks : List ℕ) → Derives g row (k ∷ ks) → first_row s row (suc k) ≡ true
unfolding begins
first_of_text g s is row k ks d = subst (λ l. begins s row l) d.2 (begins_forest g s is d.0 row d.1)

select_text : (s : Sets) (row : List Symbol) (next : ℕ → Bool) (ks tail : List ℕ) → begins s row ks → next (ahead tail) ≡ true → select s row next (ahead (ks ++ tail)) ≡ true
unfolding begins
select_text s row next [] tail b h = or_right _ _ (and_from _ _ b h)
select_text s row next (k ∷ ks) tail b h = or_left _ _ b

pub select_forest :
    (g : Grammar) (s : Sets) → IsPredictive g s → (f : Forest) (row : List Symbol) → Forms g f row
    → (next : ℕ → Bool) (tail : List ℕ) → next (ahead tail) ≡ true → select s row next (ahead (yield f ++ tail)) ≡ true
select_forest g s is f row formed next tail h = select_text s row next (yield f) tail (begins_forest g s is f row formed) h

pub followed :
    (g : Grammar) (s : Sets) → IsPredictive g s → (f : Forest) (n : ℕ) (row : List Symbol) → Forms g f row
    → (next : ℕ → Bool) → IsFollowed s (Non n ∷ row) next → (tail : List ℕ) → next (ahead tail) ≡ true → s.follow n (ahead (yield f ++ tail)) ≡ true
followed g s is f n row formed next allowed tail h = allowed.1 (ahead (yield f ++ tail)) (select_forest g s is f row formed next tail h)

-- the table has the rule of the tree that stands there
pub chosen :
    (g : Grammar) (s : Sets) → IsPredictive g s → (p n : ℕ) (kids f : Forest) (row : List Symbol) → Forms g (Node p kids f) (Non n ∷ row)
    → (next : ℕ → Bool) → IsFollowed s (Non n ∷ row) next → (tail : List ℕ) → next (ahead tail) ≡ true
    → s.table n (ahead (yield kids ++ (yield f ++ tail))) ≡ Some p
chosen g s is p n kids f row formed next allowed tail h =
    let after : s.follow (g.left p) (ahead (yield f ++ tail)) ≡ true =
    subst (λ m. s.follow m (ahead (yield f ++ tail)) ≡ true) (sym formed.1) (followed g s is f n row formed.3 next allowed tail h) in
    subst (λ m. s.table m (ahead (yield kids ++ (yield f ++ tail))) ≡ Some p) formed.1
    (is.table p formed.0 (ahead (yield kids ++ (yield f ++ tail))) (select_forest g s is kids (g.right p) formed.2 (s.follow (g.left p)) (yield f ++ tail) after))

-- the row of a rule stands where its nonterminal does
pub rule_followed : (g : Grammar) (s : Sets) → IsPredictive g s → (p n : ℕ) → p < g.count → g.left p ≡ n → IsFollowed s (g.right p) (s.follow n)
rule_followed g s is p n h e = subst (λ m. IsFollowed s (g.right p) (s.follow m)) e (is.follow p h)

pub one_tree :
    (g : Grammar) (s : Sets) → IsPredictive g s → (f h : Forest) (row : List Symbol) → Forms g f row → Forms g h row
    → (next : ℕ → Bool) → IsFollowed s row next → (t u : List ℕ) → next (ahead t) ≡ true → next (ahead u) ≡ true
    → yield f ++ t ≡ yield h ++ u → (f ≡ h) × (t ≡ u)
one_tree g s is End End [] a b next allowed t u at au e = (refl, e)
one_tree g s is (Leaf k f) (Leaf j h) (Kind c ∷ row) a b next allowed t u at au e =
    let rest : yield f ++ t ≡ yield h ++ u = cc in
    let head : k ≡ j = cc in
    let more = one_tree g s is f h row a.1 b.1 next allowed t u at au rest in
    (ap (λ x. Leaf x f) head ∙ ap (λ x. Leaf j x) more.0, more.1)
one_tree g s is (Node p kids f) (Node q hids h) (Non n ∷ row) a b next allowed t u at au e =
    let apart : yield kids ++ (yield f ++ t) ≡ yield hids ++ (yield h ++ u) =
    sym (append_assoc (yield kids) (yield f) t) ∙ e ∙ append_assoc (yield hids) (yield h) u in
    let x = chosen g s is p n kids f row a next allowed t at in
    let y = chosen g s is q n hids h row b next allowed u au in
    let rules : Some p ≡ Some q = sym x ∙ ap (λ l. s.table n (ahead l)) apart ∙ y in
    let same : p ≡ q = cc in
    let inner = one_tree g s is kids hids (g.right p) a.2 (subst (λ r. Forms g hids (g.right r)) (sym same) b.2)
    (s.follow n) (rule_followed g s is p n a.0 a.1) (yield f ++ t) (yield h ++ u)
    (followed g s is f n row a.3 next allowed t at) (followed g s is h n row b.3 next allowed u au) apart in
    let outer = one_tree g s is f h row a.3 b.3 next allowed.2 t u at au inner.1 in
    (ap (λ x. Node x kids f) same ∙ ap (λ x. Node q x f) inner.0 ∙ ap (λ x. Node q hids x) outer.0, outer.1)
one_tree g s is End h (x ∷ row) a b next allowed t u at au e = absurd a
one_tree g s is End (Leaf j h) [] a b next allowed t u at au e = absurd b
one_tree g s is End (Node q hids h) [] a b next allowed t u at au e = absurd b
one_tree g s is (Leaf k f) h [] a b next allowed t u at au e = absurd a
one_tree g s is (Leaf k f) h (Non n ∷ row) a b next allowed t u at au e = absurd a
one_tree g s is (Leaf k f) End (Kind c ∷ row) a b next allowed t u at au e = absurd b
one_tree g s is (Leaf k f) (Node q hids h) (Kind c ∷ row) a b next allowed t u at au e = absurd b
one_tree g s is (Node p kids f) h [] a b next allowed t u at au e = absurd a
one_tree g s is (Node p kids f) h (Kind c ∷ row) a b next allowed t u at au e = absurd a
one_tree g s is (Node p kids f) End (Non n ∷ row) a b next allowed t u at au e = absurd b
one_tree g s is (Node p kids f) (Leaf j h) (Non n ∷ row) a b next allowed t u at au e = absurd b

pub may_end_followed : (s : Sets) (n : ℕ) → MayEnd s n → IsFollowed s (Non n ∷ []) at_end
may_end_followed s n may = (may.0, (λ k e. subst (λ k. s.follow n k ≡ true) (sym (eqb-true k 0 e)) may.1), tt)

pub unambiguous : (g : Grammar) (s : Sets) → IsPredictive g s → (start : ℕ) → MayEnd s start → IsUnambiguous g (Non start ∷ [])
unambiguous g s is start may f h a b e =
    (one_tree g s is f h (Non start ∷ []) a b at_end (may_end_followed s start may) [] [] refl refl (append-nil (yield f) ∙ e ∙ sym (append-nil (yield h)))).0
