-- What each move says of the text that is left: an end, a kind that is wanted, a rule that is opened.
use Rattle.std.proofs.Common.{◌≡◌, ◌<◌, ℕ, zero, suc, List, [], ◌∷◌, ◌++◌, take, drop, Some, None, refl, ap, sym, ◌∙◌, subst, arith}
use Rattle.std.proofs.lemmas.List.{append-nil}
use Rattle.predictive.specs.declared.symbol.Symbol.{Symbol}
use Rattle.predictive.specs.declared.symbol.Symbol.TheVariants.{Kind, Non}
use Rattle.predictive.specs.Grammar.{Grammar, Forest, End, Leaf, Node, Forms, yield, Derives, Agree, IsFirstFault}
use Rattle.predictive.specs.Predictive.{Sets, ahead, IsFollowed, IsPredictive, cost_row, at_end}
use Rattle.predictive.specs.GrammarDecides.Selects.{chosen}
use Rattle.predictive.specs.GrammarDecides.Rows.{followed_row, parted, joined, some_trees, opens_down}

pub none_below : (n : ℕ) → n < 0 → ⊥
none_below n h = omega arith

pub below_next : (n : ℕ) → n < suc n
below_next n = omega arith

same_kinds : (more rest : List ℕ) → Agree more rest → ahead more ≡ ahead rest
same_kinds [] [] a = refl
same_kinds [] (k ∷ rest) a = absurd a
same_kinds (k ∷ more) [] a = absurd a
same_kinds (k ∷ more) (j ∷ rest) a = ap (λ i. suc i) a

-- a text that goes on from a beginning of the kinds as they do has ahead what they have
same_ahead : (ks : List ℕ) (place : ℕ) (more : List ℕ) → Agree more (drop place ks) → ahead (take place ks ++ more) ≡ ahead ks
same_ahead [] zero more a = same_kinds more [] a
same_ahead [] (suc place) more a = same_kinds more [] a
same_ahead (k ∷ ks) zero more a = same_kinds more (k ∷ ks) a
same_ahead (k ∷ ks) (suc place) more a = refl

-- nothing of the row goes on with what is ahead
IsStuck : Grammar → ℕ → List Symbol → Type 0
IsStuck g look row = (more : List ℕ) → ahead more ≡ look → Derives g row more → ⊥

fault_here : (g : Grammar) (s : Sets) → IsPredictive g s → (row : List Symbol) (ks : List ℕ) → IsFollowed s row at_end → IsStuck g (ahead ks) row → IsFirstFault g row ks 0
unfolding IsStuck
fault_here g s is row [] allowed stuck =
    let some = some_trees g s is row at_end allowed in
    (omega arith, (yield some.0, (some.0, some.1, refl)), λ more agree d. stuck more (same_kinds more [] agree) d)
fault_here g s is row (k ∷ ks) allowed stuck =
    let some = some_trees g s is row at_end allowed in
    (omega arith, (yield some.0, (some.0, some.1, refl)), λ more agree d. stuck more (same_kinds more (k ∷ ks) agree) d)

nothing_stuck : (g : Grammar) (look : ℕ) → (look ≡ 0 → ⊥) → IsStuck g look []
unfolding IsStuck
nothing_stuck g look some more at (End, formed, yields) = some (sym at ∙ sym (ap ahead yields))
nothing_stuck g look some more at (Leaf k f, formed, yields) = absurd formed
nothing_stuck g look some more at (Node p kids f, formed, yields) = absurd formed

kind_stuck : (g : Grammar) (c look : ℕ) (row : List Symbol) → (suc c ≡ look → ⊥) → IsStuck g look (Kind c ∷ row)
unfolding IsStuck
kind_stuck g c look row differ more at (End, formed, yields) = absurd formed
kind_stuck g c look row differ more at (Node p kids f, formed, yields) = absurd formed
kind_stuck g c look row differ more at (Leaf k f, formed, yields) = differ (ap (λ j. suc j) formed.0 ∙ ap ahead yields ∙ at)

-- nothing is wanted, and a kind is there
pub past_end : (g : Grammar) (s : Sets) → IsPredictive g s → (k : ℕ) (ks : List ℕ) → IsFirstFault g [] (k ∷ ks) 0
past_end g s is k ks = fault_here g s is [] (k ∷ ks) tt (nothing_stuck g (suc k) (λ e. omega arith))

-- a kind is wanted, and none is there
pub early_end : (g : Grammar) (s : Sets) → IsPredictive g s → (c : ℕ) (row : List Symbol) → IsFollowed s (Kind c ∷ row) at_end → IsFirstFault g (Kind c ∷ row) [] 0
early_end g s is c row allowed = fault_here g s is (Kind c ∷ row) [] allowed (kind_stuck g c 0 row (λ e. omega arith))

-- another kind is wanted than is there
pub other_kind :
    (g : Grammar) (s : Sets) → IsPredictive g s → (c k : ℕ) (row : List Symbol) (ks : List ℕ) → IsFollowed s (Kind c ∷ row) at_end
    → (c ≡ k → ⊥) → IsFirstFault g (Kind c ∷ row) (k ∷ ks) 0
other_kind g s is c k row ks allowed differ =
    fault_here g s is (Kind c ∷ row) (k ∷ ks) allowed (kind_stuck g c (suc k) row (λ e. differ (omega arith)))

one_less : (g : Grammar) (c k : ℕ) (row : List Symbol) (more : List ℕ) → Derives g (Kind c ∷ row) (k ∷ more) → Derives g row more
one_less g c k row more (End, formed, yields) = absurd formed
one_less g c k row more (Node p kids f, formed, yields) = absurd formed
one_less g c k row more (Leaf j f, formed, yields) = let rest : yield f ≡ more = cc in (f, formed.1, rest)

-- the wanted kind is there, and the fault comes later
pub later_fault :
    (g : Grammar) (c k : ℕ) (row : List Symbol) (ks : List ℕ) (place : ℕ) → c ≡ k → IsFirstFault g row ks place
    → IsFirstFault g (Kind c ∷ row) (k ∷ ks) (suc place)
later_fault g c k row ks place e fault =
    let text = fault.1.1 in (
      grind (arith, fault.0),
      (fault.1.0, (Leaf k text.0, (e, text.1), ap (λ l. k ∷ l) text.2)),
      λ more agree d. fault.2 more agree (one_less g c k row (take place ks ++ more) d),
    )

-- a text of a nonterminal's row is one of the row of the table's rule
into_rule :
    (g : Grammar) (s : Sets) → IsPredictive g s → (n look : ℕ) (row : List Symbol) → IsFollowed s (Non n ∷ row) at_end
    → (more : List ℕ) → ahead more ≡ look → Derives g (Non n ∷ row) more
    → (p : ℕ) × (kids : Forest) × (f : Forest) × (s.table n look ≡ Some p) × Forms g kids (g.right p) × Forms g f row × (yield kids ++ yield f ≡ more)
into_rule g s is n look row allowed more at (End, formed, yields) = absurd formed
into_rule g s is n look row allowed more at (Leaf k f, formed, yields) = absurd formed
into_rule g s is n look row allowed more at (Node p kids f, formed, yields) =
    let c = chosen g s is p n kids f row formed at_end allowed [] refl in
    let same : yield kids ++ (yield f ++ []) ≡ more = ap (λ l. yield kids ++ l) (append-nil (yield f)) ∙ yields in
    (p, kids, f, subst (λ k. s.table n k ≡ Some p) (ap ahead same ∙ at) c, formed.2, formed.3, yields)

-- no rule is chosen by what is ahead
pub none_chosen :
    (g : Grammar) (s : Sets) → IsPredictive g s → (n : ℕ) (row : List Symbol) (ks : List ℕ) → IsFollowed s (Non n ∷ row) at_end
    → s.table n (ahead ks) ≡ None → IsFirstFault g (Non n ∷ row) ks 0
unfolding IsStuck
none_chosen g s is n row ks allowed e = fault_here g s is (Non n ∷ row) ks allowed stuck
  where
    stuck : IsStuck g (ahead ks) (Non n ∷ row)
    stuck more at d =
        let r = into_rule g s is n (ahead ks) row allowed more at d in
        let same : Some r.0 ≡ None = sym r.3 ∙ e in
        cc

-- a text of the opened row is one of the nonterminal's
abbrev pub closed :
    (g : Grammar) (n p : ℕ) (row : List Symbol) (ks : List ℕ) → (p < g.count) × (g.left p ≡ n) → Derives g (g.right p ++ row) ks → Derives g (Non n ∷ row) ks
closed g n p row ks entry d =
    let parts = parted g (g.right p) row d.0 d.1 in
    (Node p parts.0 parts.1, (entry.0, entry.1, parts.2, parts.3), parts.4 ∙ d.2)

opened :
    (g : Grammar) (s : Sets) → IsPredictive g s → (n look p : ℕ) (row : List Symbol) → IsFollowed s (Non n ∷ row) at_end
    → s.table n look ≡ Some p → (more : List ℕ) → ahead more ≡ look → Derives g (Non n ∷ row) more → Derives g (g.right p ++ row) more
opened g s is n look p row allowed e more at d =
    let r = into_rule g s is n look row allowed more at d in
    let same : Some r.0 ≡ Some p = sym r.3 ∙ e in
    let rule : r.0 ≡ p = cc in
    subst (λ l. Derives g (g.right p ++ row) l) r.6 (joined g (g.right p) row r.1 r.2 (subst (λ q. Forms g r.1 (g.right q)) rule r.4) r.5)

-- a first fault of the opened row is one of the nonterminal's
pub same_fault :
    (g : Grammar) (s : Sets) → IsPredictive g s → (n p : ℕ) (row : List Symbol) (ks : List ℕ) (place : ℕ) → IsFollowed s (Non n ∷ row) at_end
    → s.table n (ahead ks) ≡ Some p → IsFirstFault g (g.right p ++ row) ks place → IsFirstFault g (Non n ∷ row) ks place
same_fault g s is n p row ks place allowed e fault = (
  fault.0,
  (fault.1.0, closed g n p row (take place ks ++ fault.1.0) (is.entry n (ahead ks) p e) fault.1.1),
  λ more agree d. fault.2 more agree (opened g s is n (ahead ks) p row allowed e (take place ks ++ more) (same_ahead ks place more agree) d),
)

pub opened_followed :
    (g : Grammar) (s : Sets) → IsPredictive g s → (n look p : ℕ) (row : List Symbol) → s.table n look ≡ Some p
    → IsFollowed s (Non n ∷ row) at_end → IsFollowed s (g.right p ++ row) at_end
opened_followed g s is n look p row e allowed =
    let entry = is.entry n look p e in
    followed_row s (g.right p) row at_end (s.follow n) allowed.1 (subst (λ m. IsFollowed s (g.right p) (s.follow m)) entry.1 (is.follow p entry.0)) allowed.2

pub opened_lower :
    (g : Grammar) (s : Sets) → IsPredictive g s → (n look p : ℕ) (row : List Symbol) (fuel : ℕ) → s.table n look ≡ Some p
    → cost_row s (Non n ∷ row) < suc fuel → cost_row s (g.right p ++ row) < fuel
opened_lower g s is n look p row fuel e low =
    let entry = is.entry n look p e in
    let down = opens_down g s is p n entry.0 entry.1 row in
    omega (arith, down, low)
