-- A table of what a test tells of the numbers from one on, one after another.
use Rattle.std.proofs.Common.{◌≡◌, ℕ, zero, suc, ◌+◌, ◌<◌, Bool, false, List, [], ◌∷◌, slice_index_or, ap, ◌∙◌, arith}

abbrev pub told : (ℕ → Bool) → ℕ → ℕ → List Bool
told test from zero = []
told test from (suc count) = test from ∷ told test (suc from) count

pub told_at : (test : ℕ → Bool) (from count k : ℕ) → k < count → slice_index_or (told test from count) k false ≡ test (from + k)
told_at test from zero k inside = absurd (omega arith)
told_at test from (suc count) zero inside = ap test (omega arith)
told_at test from (suc count) (suc k) inside =
    told_at test (suc from) count k (omega arith) ∙ ap test (omega arith)
