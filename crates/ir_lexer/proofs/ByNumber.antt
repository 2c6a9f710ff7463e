-- A table of what is told of the numbers from one on, one after another.
use Rattle.std.proofs.Common.{◌≡◌, ℕ, zero, suc, ◌+◌, ◌<◌, List, [], ◌∷◌, slice_index_or, ap, ◌∙◌, arith}

module _ {A : Type 0} (other : A) where
  abbrev pub told : (ℕ → A) → ℕ → ℕ → List A
  told f from zero = []
  told f from (suc count) = f from ∷ told f (suc from) count

  pub told_at : (f : ℕ → A) (from count k : ℕ) → k < count → slice_index_or (told f from count) k other ≡ f (from + k)
  told_at f from zero k inside = absurd (omega arith)
  told_at f from (suc count) zero inside = ap f (omega arith)
  told_at f from (suc count) (suc k) inside =
      told_at f (suc from) count k (omega arith) ∙ ap f (omega arith)
