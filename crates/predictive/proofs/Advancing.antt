-- What `advance` keeps and gives, where its stack is `items` and was `old` at first.
use Rattle.std.proofs.Common.{◌≡◌, ◌<◌, ◌+◌, ℕ, suc, Bool, true, false, eqb, List, [], ◌∷◌, Some, None, refl, ap, sym, ◌∙◌, subst, MatchBool, arith}
use Rattle.std.proofs.lemmas.Bool.{eqb-true, eqb-false}
use Rattle.predictive.specs.declared.item.Item.{Item}
use Rattle.predictive.specs.declared.item.Item.TheVariants as item
use Rattle.predictive.specs.Grammar.{Grammar}
use Rattle.predictive.specs.Predictive.{Sets, IsFollowed, IsPredictive, at_end}
use Rattle.predictive.specs.Moves.{opened, wanted, Leads, with_ahead, IsMet, IsStuck}
use Rattle.predictive.proofs.Happening.{silent_mark}
use Rattle.predictive.proofs.Stacks.{moves_left, opens_down}
use Rattle.predictive.proofs.Moving.{goes_on, reduces, opens, opened_followed, none_chosen, other_kind, nothing_wanted, stuck_before}

pub rule_in : (g : Grammar) (s : Sets) → IsPredictive g s → (n look p : ℕ) → Some p ≡ s.table n look → p < g.count
rule_in g s is n look p e = (is.entry n look p (sym e)).0

pub smaller :
    (g : Grammar) (s : Sets) → IsPredictive g s → (n look p : ℕ) (items rest new : List Item)
    → items ≡ item.Non n ∷ rest → new ≡ opened (g.right p) (item.Done p ∷ rest) → Some p ≡ s.table n look
    → moves_left s new < moves_left s items
smaller g s is n look p items rest new e f t =
    let entry = is.entry n look p (sym t) in
    subst (λ j. moves_left s new < moves_left s j) (sym e) (subst (λ j. moves_left s j < moves_left s (item.Non n ∷ rest)) (sym f) (opens_down g s is p n entry.0 entry.1 rest))

abbrev pub Kept : {S : Type 0} → Grammar → Sets → (S → ℕ → S) → (S → ℕ → S) → (S → ℕ → S) → ℕ → List Item → S → List Item → S → Type 0
Kept g s begun shifted reduced look old start items st = IsFollowed s (wanted items) at_end × Leads g begun shifted reduced look old start items st

-- nothing goes on, and the mark is as it was
abbrev pub Halted : {S M : Type 0} → (S → M) → Grammar → ℕ → List Item → S → S → Type 0
Halted mark g look old start st = IsStuck g look old × (mark st ≡ mark start)

pub reduced_kept :
    {S : Type 0} (g : Grammar) (s : Sets) (begun shifted reduced : S → ℕ → S) (look : ℕ) (old : List Item) (start : S) (items : List Item) (st : S)
    → Kept g s begun shifted reduced look old start items st → (p : ℕ) (rest : List Item) (next : S) → items ≡ item.Done p ∷ rest → next ≡ reduced st p
    → Kept g s begun shifted reduced look old start rest next
reduced_kept g s begun shifted reduced look old start items st kept p rest next e f =
    let here = subst (λ i. Kept g s begun shifted reduced look old start i st) e kept in
    subst (λ t. Kept g s begun shifted reduced look old start rest t) (sym f) (
      here.0,
      goes_on g begun shifted reduced look old (item.Done p ∷ rest) rest start st (reduced st p) here.1 (reduces g begun shifted reduced look p rest st),
    )

module _ {S : Type 0} (g : Grammar) (s : Sets) (is : IsPredictive g s) (begun shifted reduced : S → ℕ → S) (look : ℕ) (old : List Item) (start : S) (items : List Item) (st : S) (kept : Kept g s begun shifted reduced look old start items st) where
  at : (other : List Item) → items ≡ other → Kept g s begun shifted reduced look old start other st
  at other e = subst (λ i. Kept g s begun shifted reduced look old start i st) e kept

  pub opened_kept :
      (n p : ℕ) (rest new : List Item) (next : S) → items ≡ item.Non n ∷ rest → new ≡ opened (g.right p) (item.Done p ∷ rest) → Some p ≡ s.table n look
      → next ≡ begun st p → Kept g s begun shifted reduced look old start new next
  opened_kept n p rest new next e f t b =
      let here = at (item.Non n ∷ rest) e in
      subst (λ u. Kept g s begun shifted reduced look old start new u) (sym b) (
      subst (λ j. Kept g s begun shifted reduced look old start j (begun st p)) (sym f) (
        opened_followed g s is n look p rest (sym t) here.0,
        goes_on g begun shifted reduced look old (item.Non n ∷ rest) (opened (g.right p) (item.Done p ∷ rest)) start st (begun st p) here.1
            (opens g s is begun shifted reduced look n p rest st (sym t) here.0),
      )
      )

  module _ {M : Type 0} (mark : S → M) (begins : (s : S) (p : ℕ) → mark (begun s p) ≡ mark s) (reduces : (s : S) (p : ℕ) → mark (reduced s p) ≡ mark s) where
    halted : (other : List Item) → Kept g s begun shifted reduced look old start other st → IsStuck g look other → Halted mark g look old start st
    halted other here stuck = (
      stuck_before g begun shifted reduced look old other start st here.1 stuck,
      ap mark here.1.ran ∙ silent_mark begun shifted reduced mark begins reduces here.1.made start here.1.quiet,
    )

    pub none_stuck : (n : ℕ) (rest : List Item) → items ≡ item.Non n ∷ rest → None ≡ s.table n look → Halted mark g look old start st
    none_stuck n rest e t =
        let here = at (item.Non n ∷ rest) e in
        halted (item.Non n ∷ rest) here (none_chosen g s is n look rest (sym t) here.0)

    pub kind_taken : (c : ℕ) (rest : List Item) → items ≡ item.Kind c ∷ rest → MatchBool (eqb (c + 1) look) (IsMet g s begun shifted reduced look old start rest st) (Halted mark g look old start st)
    kind_taken c rest e = go (eqb (c + 1) look) refl
      where
        here : Kept g s begun shifted reduced look old start (item.Kind c ∷ rest) st
        here = at (item.Kind c ∷ rest) e

        go : (b : Bool) → eqb (c + 1) look ≡ b → MatchBool b (IsMet g s begun shifted reduced look old start rest st) (Halted mark g look old start st)
        go true h =
            let f = eqb-true (c + 1) look h in
            let same : suc c ≡ look = omega arith in
            (here.0, subst (λ k. Leads g begun shifted reduced look old start (with_ahead k rest) st) same here.1, λ none. absurd (omega arith))
        go false h =
            let f = eqb-false (c + 1) look h in
            halted (item.Kind c ∷ rest) here (other_kind g c look rest (λ same. f (omega arith)))

    pub none_left : (rest : List Item) → items ≡ [] → rest ≡ [] → MatchBool (eqb look 0) (IsMet g s begun shifted reduced look old start rest st) (Halted mark g look old start st)
    none_left rest e r = go (eqb look 0) refl
      where
        here : Kept g s begun shifted reduced look old start rest st
        here = at rest (e ∙ sym r)

        go : (b : Bool) → eqb look 0 ≡ b → MatchBool b (IsMet g s begun shifted reduced look old start rest st) (Halted mark g look old start st)
        go true h =
            let same = eqb-true look 0 h in
            (here.0, subst (λ k. Leads g begun shifted reduced look old start (with_ahead k rest) st) (sym same) here.1, λ none. r)
        go false h =
            let f = eqb-false look 0 h in
            halted rest here (subst (λ i. IsStuck g look i) (sym r) (nothing_wanted g look f))
