-- What each step of two parsers keeps is kept along trees, and along their first tokens.
use Rattle.std.proofs.Common.{ℕ, List, [], ◌∷◌, sym, subst}
use Rattle.predictive.specs.Grammar.{Forest, Event, Begin, Shift, Reduce, events, until_shifted, after_events, after_trees, after_some}
use Rattle.predictive.proofs.Happening.{trees_after}

pub record Keeps {S T : Type 0} (R : S → T → Type 0) (begun shifted reduced : S → ℕ → S) (begins shifts reduces : T → ℕ → T) : Type 0 where
  pub begin : (s : S) (t : T) (p : ℕ) → R s t → R (begun s p) (begins t p)
  pub shift : (s : S) (t : T) (k : ℕ) → R s t → R (shifted s k) (shifts t k)
  pub reduce : (s : S) (t : T) (p : ℕ) → R s t → R (reduced s p) (reduces t p)

module _ {S T : Type 0} (R : S → T → Type 0) (begun shifted reduced : S → ℕ → S) (begins shifts reduces : T → ℕ → T) (keeps : Keeps R begun shifted reduced begins shifts reduces) where
  pub kept_events :
      (es : List Event) (s : S) (t : T) → R s t
      → R (after_events begun shifted reduced es s) (after_events begins shifts reduces es t)
  kept_events [] s t r = r
  kept_events (Begin p ∷ es) s t r = kept_events es (begun s p) (begins t p) (keeps.begin s t p r)
  kept_events (Shift k ∷ es) s t r = kept_events es (shifted s k) (shifts t k) (keeps.shift s t k r)
  kept_events (Reduce p ∷ es) s t r = kept_events es (reduced s p) (reduces t p) (keeps.reduce s t p r)

  pub kept_trees :
      (f : Forest) (s : S) (t : T) → R s t
      → R (after_trees begun shifted reduced f s) (after_trees begins shifts reduces f t)
  kept_trees f s t r =
      subst (λ u. R u (after_trees begins shifts reduces f t)) (sym (trees_after begun shifted reduced f s))
      (subst (λ u. R (after_events begun shifted reduced (events f) s) u) (sym (trees_after begins shifts reduces f t)) (kept_events (events f) s t r))

  pub kept_some :
      (n : ℕ) (f : Forest) (s : S) (t : T) → R s t
      → R (after_some begun shifted reduced n f s) (after_some begins shifts reduces n f t)
  kept_some n f s t r = kept_events (until_shifted n (events f)) s t r
