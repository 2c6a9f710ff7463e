-- Each move of the engine leads on.
use Rattle.std.proofs.Common.{◌≡◌, ℕ, suc, List, [], ◌∷◌, ◌++◌, Some, None, refl, ap, sym, ◌∙◌, subst, append_assoc}
use Rattle.std.proofs.lemmas.List.{append-nil}
use Rattle.predictive.specs.declared.symbol.Symbol.TheVariants.{Non}
use Rattle.predictive.specs.declared.item.Item.{Item}
use Rattle.predictive.specs.declared.item.Item.TheVariants as item
use Rattle.predictive.specs.Grammar.{Grammar, Forest, End, Leaf, Node, Forms, yield, Derives, Begin, Reduce}
use Rattle.predictive.specs.Predictive.{Sets, ahead, IsFollowed, IsPredictive, at_end}
use Rattle.predictive.specs.Moves.{opened, wanted, acts, Leads, IsStuck}
use Rattle.predictive.proofs.Happening.{silent_joined, steps_after}
use Rattle.predictive.specs.GrammarDecides.Selects.{chosen}
use Rattle.predictive.proofs.Stacks.{wanted_opened, followed_row, parted, joined}

pub stays : {S : Type 0} (g : Grammar) (begun shifted reduced : S → ℕ → S) (look : ℕ) (a : List Item) (s : S) → Leads g begun shifted reduced look a s a s
stays g begun shifted reduced look a s = record {
  made = [];
  quiet = refl;
  ran = refl;
  sound = λ f formed. (f, formed, refl, refl);
  complete = λ more at d. d;
}

pub goes_on :
    {S : Type 0} (g : Grammar) (begun shifted reduced : S → ℕ → S) (look : ℕ) (a b c : List Item) (s t u : S)
    → Leads g begun shifted reduced look a s b t → Leads g begun shifted reduced look b t c u → Leads g begun shifted reduced look a s c u
goes_on g begun shifted reduced look a b c s t u x y = record {
  made = x.made ++ y.made;
  quiet = silent_joined x.made y.made x.quiet y.quiet;
  ran = steps_after begun shifted reduced x.made y.made s t u x.ran y.ran;
  sound = λ f formed.
      let inner = y.sound f formed in
      let outer = x.sound inner.0 inner.1 in
      (outer.0, outer.1, outer.2 ∙ inner.2, outer.3 ∙ ap (λ es. x.made ++ es) inner.3 ∙ sym (append_assoc x.made y.made (acts c f)));
  complete = λ more at d. y.complete more at (x.complete more at d);
}

-- a rule whose right side is there is reduced
pub reduces :
    {S : Type 0} (g : Grammar) (begun shifted reduced : S → ℕ → S) (look p : ℕ) (items : List Item) (st : S)
    → Leads g begun shifted reduced look (item.Done p ∷ items) st items (reduced st p)
reduces g begun shifted reduced look p items st = record {
  made = Reduce p ∷ [];
  quiet = refl;
  ran = refl;
  sound = λ f formed. (f, formed, refl, refl);
  complete = λ more at d. d;
}

-- a text of a nonterminal's row is one of the row of the table's rule
into_rule :
    (g : Grammar) (s : Sets) → IsPredictive g s → (n look : ℕ) (items : List Item) → IsFollowed s (Non n ∷ wanted items) at_end
    → (more : List ℕ) → ahead more ≡ look → Derives g (Non n ∷ wanted items) more
    → (p : ℕ) × (kids : Forest) × (f : Forest) × (s.table n look ≡ Some p) × Forms g kids (g.right p) × Forms g f (wanted items) × (yield kids ++ yield f ≡ more)
into_rule g s is n look items allowed more at (End, formed, yields) = absurd formed
into_rule g s is n look items allowed more at (Leaf k f, formed, yields) = absurd formed
into_rule g s is n look items allowed more at (Node p kids f, formed, yields) =
    let c = chosen g s is p n kids f (wanted items) formed at_end allowed [] refl in
    let same : yield kids ++ (yield f ++ []) ≡ more = ap (λ l. yield kids ++ l) (append-nil (yield f)) ∙ yields in
    (p, kids, f, subst (λ k. s.table n k ≡ Some p) (ap ahead same ∙ at) c, formed.2, formed.3, yields)

pub opens :
    {S : Type 0} (g : Grammar) (s : Sets) → IsPredictive g s → (begun shifted reduced : S → ℕ → S) (look n p : ℕ) (items : List Item) (st : S)
    → s.table n look ≡ Some p → IsFollowed s (Non n ∷ wanted items) at_end
    → Leads g begun shifted reduced look (item.Non n ∷ items) st (opened (g.right p) (item.Done p ∷ items)) (begun st p)
opens g s is begun shifted reduced look n p items st e allowed =
    let entry = is.entry n look p e in
    record {
      made = Begin p ∷ [];
      quiet = refl;
      ran = refl;
      sound = λ f formed.
          let parts = parted g (g.right p) (item.Done p ∷ items) f formed in
          (Node p parts.kids parts.rest, (entry.0, entry.1, parts.formed, parts.others), parts.yields, ap (λ es. Begin p ∷ es) (sym parts.acted));
      complete = λ more at d.
          let r = into_rule g s is n look items allowed more at d in
          let same : Some r.0 ≡ Some p = sym r.3 ∙ e in
          let rule : r.0 ≡ p = cc in
          subst (λ l. Derives g (wanted (opened (g.right p) (item.Done p ∷ items))) l) r.6
          (joined g (g.right p) (item.Done p ∷ items) r.1 r.2 (subst (λ q. Forms g r.1 (g.right q)) rule r.4) r.5);
    }

pub opened_followed :
    (g : Grammar) (s : Sets) → IsPredictive g s → (n look p : ℕ) (items : List Item) → s.table n look ≡ Some p
    → IsFollowed s (Non n ∷ wanted items) at_end → IsFollowed s (wanted (opened (g.right p) (item.Done p ∷ items))) at_end
opened_followed g s is n look p items e allowed =
    let entry = is.entry n look p e in
    subst (λ row. IsFollowed s row at_end) (sym (wanted_opened (g.right p) (item.Done p ∷ items)))
    (followed_row s (g.right p) (wanted items) at_end (s.follow n) allowed.1
    (subst (λ m. IsFollowed s (g.right p) (s.follow m)) entry.1 (is.follow p entry.0)) allowed.2)

-- nothing is chosen, so nothing goes on
pub none_chosen :
    (g : Grammar) (s : Sets) → IsPredictive g s → (n look : ℕ) (items : List Item) → s.table n look ≡ None
    → IsFollowed s (Non n ∷ wanted items) at_end → IsStuck g look (item.Non n ∷ items)
none_chosen g s is n look items e allowed more at d =
    let r = into_rule g s is n look items allowed more at d in
    let same : Some r.0 ≡ None = sym r.3 ∙ e in
    cc

-- another kind is wanted than is ahead
pub other_kind : (g : Grammar) (c look : ℕ) (items : List Item) → (suc c ≡ look → ⊥) → IsStuck g look (item.Kind c ∷ items)
other_kind g c look items differ more at (End, formed, yields) = absurd formed
other_kind g c look items differ more at (Node p kids f, formed, yields) = absurd formed
other_kind g c look items differ more at (Leaf k f, formed, yields) = differ (ap (λ j. suc j) formed.0 ∙ ap ahead yields ∙ at)

-- nothing is wanted, and something is ahead
pub nothing_wanted : (g : Grammar) (look : ℕ) → (look ≡ 0 → ⊥) → IsStuck g look []
nothing_wanted g look some more at (End, formed, yields) = some (sym at ∙ sym (ap ahead yields))
nothing_wanted g look some more at (Leaf k f, formed, yields) = absurd formed
nothing_wanted g look some more at (Node p kids f, formed, yields) = absurd formed

pub stuck_before :
    {S : Type 0} (g : Grammar) (begun shifted reduced : S → ℕ → S) (look : ℕ) (a b : List Item) (s t : S)
    → Leads g begun shifted reduced look a s b t → IsStuck g look b → IsStuck g look a
stuck_before g begun shifted reduced look a b s t leads stuck more at d = stuck more at (leads.complete more at d)
