-- A table of what a rule gives for the numbers from one on, one after another.
use Rattle.std.proofs.Common.{◌≡◌, ℕ, zero, suc, ◌+◌, ◌<◌, List, [], ◌∷◌, slice_index_or, ap, ◌∙◌, arith}

abbrev pub told : (ℕ → ℕ) → ℕ → ℕ → List ℕ
told rule from zero = []
told rule from (suc count) = rule from ∷ told rule (suc from) count

pub told_at : (rule : ℕ → ℕ) (from count k : ℕ) → k < count → slice_index_or (told rule from count) k 0 ≡ rule (from + k)
told_at rule from zero k inside = absurd (omega arith)
told_at rule from (suc count) zero inside = ap rule (omega arith)
told_at rule from (suc count) (suc k) inside =
    told_at rule (suc from) count k (omega arith) ∙ ap rule (omega arith)
