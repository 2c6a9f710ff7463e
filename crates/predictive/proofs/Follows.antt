-- Two states that follow each other at each step do so over a forest.
use Rattle.std.proofs.Common.{◌≡◌, ℕ, refl, ap, ◌∙◌}
use Rattle.predictive.specs.Grammar.{Forest, after_trees}
use Rattle.predictive.proofs.Keeping.{kept_trees}

pub follows :
    {S T : Type 0} (seen : S → T) (begun shifted reduced : S → ℕ → S) (begins shifts reduces : T → ℕ → T)
    → ((s : S) (p : ℕ) → seen (begun s p) ≡ begins (seen s) p)
    → ((s : S) (k : ℕ) → seen (shifted s k) ≡ shifts (seen s) k) → ((s : S) (p : ℕ) → seen (reduced s p) ≡ reduces (seen s) p)
    → (f : Forest) (s : S) → seen (after_trees begun shifted reduced f s) ≡ after_trees begins shifts reduces f (seen s)
follows seen begun shifted reduced begins shifts reduces a b c f s =
    kept_trees (λ s t. seen s ≡ t) begun shifted reduced begins shifts reduces (record {
      begin = λ s t p e. a s p ∙ ap (λ u. begins u p) e;
      shift = λ s t k e. b s k ∙ ap (λ u. shifts u k) e;
      reduce = λ s t p e. c s p ∙ ap (λ u. reduces u p) e;
    }) f s (seen s) refl
