-- What happens along trees and parts of them: one after another, and what the mark of a state is after it.
use Rattle.std.proofs.Common.{◌≡◌, ℕ, zero, suc, List, [], ◌∷◌, ◌++◌, length, refl, ap, sym, ◌∙◌}
use Rattle.std.proofs.lemmas.List.{append-nil}
use Rattle.predictive.specs.Grammar.{Forest, End, Leaf, Node, yield, Event, Begin, Shift, Reduce, events, until_shifted, after_events, after_trees, after_some}
use Rattle.predictive.specs.Moves.{shifts}

pub shifts_joined : (a b : List Event) → shifts (a ++ b) ≡ shifts a ++ shifts b
shifts_joined [] b = refl
shifts_joined (Begin p ∷ a) b = shifts_joined a b
shifts_joined (Shift k ∷ a) b = ap (λ l. k ∷ l) (shifts_joined a b)
shifts_joined (Reduce p ∷ a) b = shifts_joined a b

-- along trees all that they yield is shifted
pub shifts_of : (f : Forest) → shifts (events f) ≡ yield f
shifts_of End = refl
shifts_of (Leaf k f) = ap (λ l. k ∷ l) (shifts_of f)
shifts_of (Node p kids f) =
    shifts_joined (events kids) (Reduce p ∷ events f) ∙ ap (λ l. l ++ shifts (events f)) (shifts_of kids) ∙ ap (λ l. yield kids ++ l) (shifts_of f)

pub silent_joined : (a b : List Event) → shifts a ≡ [] → shifts b ≡ [] → shifts (a ++ b) ≡ []
silent_joined a b e f = shifts_joined a b ∙ ap (λ l. l ++ shifts b) e ∙ f

module _ {S : Type 0} (begun shifted reduced : S → ℕ → S) where
  pub joined_after :
      (a b : List Event) (s : S)
      → after_events begun shifted reduced (a ++ b) s ≡ after_events begun shifted reduced b (after_events begun shifted reduced a s)
  joined_after [] b s = refl
  joined_after (Begin p ∷ a) b s = joined_after a b (begun s p)
  joined_after (Shift k ∷ a) b s = joined_after a b (shifted s k)
  joined_after (Reduce p ∷ a) b s = joined_after a b (reduced s p)

  pub trees_after : (f : Forest) (s : S) → after_trees begun shifted reduced f s ≡ after_events begun shifted reduced (events f) s
  trees_after End s = refl
  trees_after (Leaf k f) s = trees_after f (shifted s k)
  trees_after (Node p kids f) s =
      trees_after f (reduced (after_trees begun shifted reduced kids (begun s p)) p)
      ∙ ap (λ t. after_events begun shifted reduced (events f) (reduced t p)) (trees_after kids (begun s p))
      ∙ sym (joined_after (events kids) (Reduce p ∷ events f) (begun s p))

  -- what is done in two steps
  pub steps_after :
      (a b : List Event) (s t u : S) → t ≡ after_events begun shifted reduced a s → u ≡ after_events begun shifted reduced b t
      → u ≡ after_events begun shifted reduced (a ++ b) s
  steps_after a b s t u e f = f ∙ ap (λ t. after_events begun shifted reduced b t) e ∙ sym (joined_after a b s)

  module _ {M : Type 0} (mark : S → M) (begins : (s : S) (p : ℕ) → mark (begun s p) ≡ mark s) (reduces : (s : S) (p : ℕ) → mark (reduced s p) ≡ mark s) where
    pub silent_mark : (es : List Event) (s : S) → shifts es ≡ [] → mark (after_events begun shifted reduced es s) ≡ mark s
    silent_mark [] s e = refl
    silent_mark (Begin p ∷ es) s e = silent_mark es (begun s p) e ∙ begins s p
    silent_mark (Shift k ∷ es) s e = cc
    silent_mark (Reduce p ∷ es) s e = silent_mark es (reduced s p) e ∙ reduces s p

    -- what comes between the shift of a token and the next one leaves the mark as it is
    pub mark_until :
        (n : ℕ) (es rest : List Event) (s : S) → length (shifts es) ≡ n
        → mark (after_events begun shifted reduced (until_shifted n (es ++ rest)) s) ≡ mark (after_events begun shifted reduced es s)
    mark_until zero es rest s e = sym (silent_mark es s (none es e))
      where
        none : (es : List Event) → length (shifts es) ≡ 0 → shifts es ≡ []
        none [] e = refl
        none (Begin p ∷ es) e = none es e
        none (Shift k ∷ es) e = cc
        none (Reduce p ∷ es) e = none es e
    mark_until (suc n) [] rest s e = cc
    mark_until (suc n) (Begin p ∷ es) rest s e = mark_until (suc n) es rest (begun s p) e
    mark_until (suc n) (Shift k ∷ es) rest s e = mark_until n es rest (shifted s k) (less e)
      where
        less : suc (length (shifts es)) ≡ suc n → length (shifts es) ≡ n
        less e = cc
    mark_until (suc n) (Reduce p ∷ es) rest s e = mark_until (suc n) es rest (reduced s p) e

    -- behind all tokens of trees the mark is the one behind the trees
    pub mark_of_all :
        (f : Forest) (s : S)
        → mark (after_some begun shifted reduced (length (yield f)) f s) ≡ mark (after_trees begun shifted reduced f s)
    mark_of_all f s =
        ap (λ es. mark (after_events begun shifted reduced (until_shifted (length (yield f)) es) s)) (sym (append-nil (events f)))
        ∙ mark_until (length (yield f)) (events f) [] s (ap (λ l. length l) (shifts_of f))
        ∙ ap mark (sym (trees_after f s))
