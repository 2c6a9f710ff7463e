-- What holds between tokens, and what follows at a fault and at the end.
use Rattle.std.proofs.Common.{◌≡◌, ◌<◌, ◌≤◌, ◌+◌, ℕ, suc, List, [], ◌∷◌, ◌++◌, length, take, drop, get_or, refl, ap, sym, ◌∙◌, subst, append_assoc, arith}
use Rattle.std.proofs.lemmas.List.{append-nil, take_more, take_all, drop_all, length-take-le}
use Rattle.std.proofs.Math.Seq.{drop-cons}
use Rattle.predictive.specs.declared.symbol.Symbol.{Symbol}
use Rattle.predictive.specs.declared.symbol.Symbol.TheVariants.{Kind, Non}
use Rattle.predictive.specs.declared.item.Item.{Item}
use Rattle.predictive.specs.declared.item.Item.TheVariants as item
use Rattle.predictive.specs.Grammar.{Grammar, Forest, End, Leaf, Node, Forms, yield, Derives, Agree, IsFirstFault, Event, Shift, events, until_shifted, after_events, after_trees, after_some}
use Rattle.predictive.specs.Predictive.{Sets, ahead, IsFollowed, IsPredictive, MayEnd, at_end}
use Rattle.predictive.specs.Moves.{wanted, acts, shifts, Leads, with_ahead, IsMet, IsStuck}
use Rattle.predictive.proofs.Happening.{shifts_joined, trees_after, steps_after, mark_until}
use Rattle.predictive.specs.GrammarDecides.Selects.{may_end_followed, unambiguous}
use Rattle.predictive.proofs.Stacks.{some_trees}

pub record Holds {S : Type 0} (g : Grammar) (s : Sets) (begun shifted reduced : S → ℕ → S) (start : ℕ) (first : S) (done : List ℕ) (items : List Item) (state : S) : Type 0 where
  pub followed : IsFollowed s (wanted items) at_end
  -- what was done until now
  pub made : List Event
  pub told : shifts made ≡ done
  pub ran : state ≡ after_events begun shifted reduced made first
  pub sound :
      (f : Forest) → Forms g f (wanted items)
      → (h : Forest) × Forms g h (Non start ∷ []) × (yield h ≡ done ++ yield f) × (events h ≡ made ++ acts items f)
  pub complete : (more : List ℕ) → Derives g (Non start ∷ []) (done ++ more) → Derives g (wanted items) more

first_acts : (g : Grammar) (n : ℕ) (f : Forest) → Forms g f (Non n ∷ []) → events f ≡ acts (item.Non n ∷ []) f
first_acts g n End formed = absurd formed
first_acts g n (Leaf k f) formed = absurd formed
first_acts g n (Node p kids End) formed = refl
first_acts g n (Node p kids (Leaf k f)) formed = absurd formed.3
first_acts g n (Node p kids (Node q more f)) formed = absurd formed.3

same_kinds : (more rest : List ℕ) → Agree more rest → ahead more ≡ ahead rest
same_kinds [] [] a = refl
same_kinds [] (k ∷ rest) a = absurd a
same_kinds (k ∷ more) [] a = absurd a
same_kinds (k ∷ more) (j ∷ rest) a = ap (λ i. suc i) a

one_less : (g : Grammar) (k : ℕ) (row : List Symbol) (more : List ℕ) → Derives g (Kind k ∷ row) (k ∷ more) → Derives g row more
one_less g k row more (End, formed, yields) = absurd formed
one_less g k row more (Node p kids f, formed, yields) = absurd formed
one_less g k row more (Leaf j f, formed, yields) = let rest : yield f ≡ more = cc in (f, formed.1, rest)

module _ {S : Type 0} (g : Grammar) (s : Sets) (is : IsPredictive g s) (begun shifted reduced : S → ℕ → S) (start : ℕ) (first : S) where
  pub holds_first : MayEnd s start → (items : List Item) → items ≡ item.Non start ∷ [] → Holds g s begun shifted reduced start first [] items first
  holds_first may items e =
      subst (λ i. Holds g s begun shifted reduced start first [] i first) (sym e) (record {
        followed = may_end_followed s start may;
        made = [];
        told = refl;
        ran = refl;
        sound = λ f formed. (f, formed, refl, first_acts g start f formed);
        complete = λ more d. d;
      })

  pub holds_shifted :
      (done : List ℕ) (old items : List Item) (st after next : S) (k : ℕ) → Holds g s begun shifted reduced start first done old st
      → IsMet g s begun shifted reduced (k + 1) old st items after → next ≡ shifted after k
      → Holds g s begun shifted reduced start first (done ++ (k ∷ [])) items next
  holds_shifted done old items st after next k holds met e =
      let one : k + 1 ≡ suc k = omega arith in
      let leads = subst (λ j. Leads g begun shifted reduced j old st (with_ahead j items) after) one met.1 in
      let before = holds.made ++ leads.made in
      let ran = steps_after begun shifted reduced holds.made leads.made first st after holds.ran leads.ran in
      record {
        followed = met.0;
        made = before ++ (Shift k ∷ []);
        told =
            shifts_joined before (Shift k ∷ [])
            ∙ ap (λ l. l ++ (k ∷ [])) (shifts_joined holds.made leads.made ∙ ap (λ l. shifts holds.made ++ l) leads.quiet ∙ append-nil (shifts holds.made) ∙ holds.told);
        ran = steps_after begun shifted reduced before (Shift k ∷ []) first after next ran e;
        sound = λ f formed.
            let inner = leads.sound (Leaf k f) (refl, formed) in
            let outer = holds.sound inner.0 inner.1 in (
              outer.0,
              outer.1,
              outer.2 ∙ ap (λ l. done ++ l) inner.2 ∙ sym (append_assoc done (k ∷ []) (yield f)),
              outer.3 ∙ ap (λ es. holds.made ++ es) inner.3 ∙ sym (append_assoc holds.made leads.made (Shift k ∷ acts items f))
                  ∙ sym (append_assoc before (Shift k ∷ []) (acts items f)),
            );
        complete = λ more d.
            one_less g k (wanted items) more
            (leads.complete (k ∷ more) refl (holds.complete (k ∷ more) (subst (λ l. Derives g (Non start ∷ []) l) (append_assoc done (k ∷ []) more) d)));
      }

  pub fault_at :
      (kinds : List ℕ) (place look : ℕ) (items : List Item) (st : S) → place ≤ length kinds → ahead (drop place kinds) ≡ look
      → Holds g s begun shifted reduced start first (take place kinds) items st → IsStuck g look items
      → IsFirstFault g (Non start ∷ []) kinds place
  fault_at kinds place look items st within at holds stuck =
      let some = some_trees g s is (wanted items) at_end holds.followed in
      let outer = holds.sound some.0 some.1 in (
        within,
        (yield some.0, (outer.0, outer.1, outer.2)),
        λ more agree d. stuck more (same_kinds more (drop place kinds) agree ∙ at) (holds.complete more d),
      )

  pub whole :
      (kinds : List ℕ) (old items : List Item) (st after : S) → Holds g s begun shifted reduced start first kinds old st
      → IsMet g s begun shifted reduced 0 old st items after
      → (f : Forest) × Forms g f (Non start ∷ []) × (yield f ≡ kinds) × (after ≡ after_trees begun shifted reduced f first)
  whole kinds old items st after holds met =
      let leads = subst (λ i. Leads g begun shifted reduced 0 old st i after) (met.2 refl) met.1 in
      let inner = leads.sound End tt in
      let outer = holds.sound inner.0 inner.1 in
      let did : events outer.0 ≡ holds.made ++ leads.made = outer.3 ∙ ap (λ es. holds.made ++ es) (inner.3 ∙ append-nil leads.made) in (
        outer.0,
        outer.1,
        outer.2 ∙ ap (λ l. kinds ++ l) inner.2 ∙ append-nil kinds,
        steps_after begun shifted reduced holds.made leads.made first st after holds.ran leads.ran
            ∙ ap (λ es. after_events begun shifted reduced es first) (sym did)
            ∙ sym (trees_after begun shifted reduced outer.0 first),
      )

  -- the events of each text that goes on as these tokens do are those made until now, and others
  goes_as_made :
      MayEnd s start → (done more : List ℕ) (items : List Item) (st : S) → (holds : Holds g s begun shifted reduced start first done items st)
      → (h : Forest) → Forms g h (Non start ∷ []) → (e : yield h ≡ done ++ more) → (rest : List Event) × (events h ≡ holds.made ++ rest)
  goes_as_made may done more items st holds h formed e =
      let inner = holds.complete more (h, formed, e) in
      let outer = holds.sound inner.0 inner.1 in
      let same : outer.0 ≡ h = unambiguous g s is start may outer.0 h outer.1 formed (outer.2 ∙ ap (λ l. done ++ l) inner.2 ∙ sym e) in
      (acts items inner.0, ap events (sym same) ∙ outer.3)

  pub fault_in :
      (kinds : List ℕ) (place kind : ℕ) (items : List Item) (st : S) → place < length kinds → kind ≡ get_or kinds place 0
      → Holds g s begun shifted reduced start first (take place kinds) items st → IsStuck g (kind + 1) items
      → IsFirstFault g (Non start ∷ []) kinds place
  fault_in kinds place kind items st within is_kind holds stuck =
      let one : kind + 1 ≡ suc kind = omega arith in
      fault_at kinds place (kind + 1) items st (omega arith)
      (ap ahead (drop-cons kinds place 0 within) ∙ ap (λ k. suc k) (sym is_kind) ∙ sym one) holds stuck

  pub holds_next :
      (kinds : List ℕ) (place kind : ℕ) (old items : List Item) (st after next : S) → place < length kinds → kind ≡ get_or kinds place 0
      → Holds g s begun shifted reduced start first (take place kinds) old st → IsMet g s begun shifted reduced (kind + 1) old st items after
      → next ≡ shifted after (get_or kinds place 0) → Holds g s begun shifted reduced start first (take (place + 1) kinds) items next
  holds_next kinds place kind old items st after next within is_kind holds met e =
      subst (λ l. Holds g s begun shifted reduced start first l items next)
      (ap (λ k. take place kinds ++ (k ∷ [])) is_kind ∙ sym (take_more kinds place 0 within))
      (holds_shifted (take place kinds) old items st after next kind holds met (e ∙ ap (λ k. shifted after k) (sym is_kind)))

  pub fault_at_end :
      (kinds : List ℕ) (place : ℕ) (items : List Item) (st : S) → length kinds ≤ place
      → Holds g s begun shifted reduced start first (take place kinds) items st → IsStuck g 0 items
      → IsFirstFault g (Non start ∷ []) kinds (length kinds)
  fault_at_end kinds place items st past holds stuck =
      let within : length kinds ≤ length kinds = omega arith in
      fault_at kinds (length kinds) 0 items st within (ap ahead (drop_all (length kinds) kinds within))
      (subst (λ l. Holds g s begun shifted reduced start first l items st) (take_all place kinds past ∙ sym (take_all (length kinds) kinds within)) holds)
      stuck

  pub whole_at :
      (kinds : List ℕ) (place : ℕ) (old items : List Item) (st after : S) → length kinds ≤ place
      → Holds g s begun shifted reduced start first (take place kinds) old st → IsMet g s begun shifted reduced 0 old st items after
      → (f : Forest) × Forms g f (Non start ∷ []) × (yield f ≡ kinds) × (after ≡ after_trees begun shifted reduced f first)
  whole_at kinds place old items st after past holds met =
      whole kinds old items st after (subst (λ l. Holds g s begun shifted reduced start first l old st) (take_all place kinds past) holds) met

  module _ {M : Type 0} (mark : S → M) (begins : (s : S) (p : ℕ) → mark (begun s p) ≡ mark s) (reduces : (s : S) (p : ℕ) → mark (reduced s p) ≡ mark s) where
    -- the mark is that after these tokens, in each text that goes on as they do
    pub marked :
        MayEnd s start → (done : List ℕ) (items : List Item) (st after : S) → Holds g s begun shifted reduced start first done items st
        → mark after ≡ mark st → (more : List ℕ) (h : Forest) → Forms g h (Non start ∷ []) → yield h ≡ done ++ more
        → mark (after_some begun shifted reduced (length done) h first) ≡ mark after
    marked may done items st after holds e more h formed yields =
        let goes = goes_as_made may done more items st holds h formed yields in
        ap (λ es. mark (after_events begun shifted reduced (until_shifted (length done) es) first)) goes.1
        ∙ mark_until begun shifted reduced mark begins reduces (length done) holds.made goes.0 first (ap (λ l. length l) holds.told)
        ∙ ap mark (sym holds.ran)
        ∙ sym e

    pub marked_in :
        MayEnd s start → (kinds : List ℕ) (place : ℕ) (items : List Item) (st after : S) → place < length kinds
        → Holds g s begun shifted reduced start first (take place kinds) items st → mark after ≡ mark st
        → (more : List ℕ) (h : Forest) → Forms g h (Non start ∷ []) → yield h ≡ take place kinds ++ more
        → mark (after_some begun shifted reduced place h first) ≡ mark after
    marked_in may kinds place items st after within holds e more h formed yields =
        ap (λ n. mark (after_some begun shifted reduced n h first)) (sym (length-take-le place kinds (omega arith)))
        ∙ marked may (take place kinds) items st after holds e more h formed yields

    pub marked_at_end :
        MayEnd s start → (kinds : List ℕ) (place : ℕ) (items : List Item) (st after : S) → length kinds ≤ place
        → Holds g s begun shifted reduced start first (take place kinds) items st → mark after ≡ mark st
        → (more : List ℕ) (h : Forest) → Forms g h (Non start ∷ []) → yield h ≡ take (length kinds) kinds ++ more
        → mark (after_some begun shifted reduced (length kinds) h first) ≡ mark after
    marked_at_end may kinds place items st after past holds e more h formed yields =
        let within : length kinds ≤ length kinds = omega arith in
        marked may kinds items st after (subst (λ l. Holds g s begun shifted reduced start first l items st) (take_all place kinds past) holds) e more h formed
        (yields ∙ ap (λ l. l ++ more) (take_all (length kinds) kinds within))
