-- Examples of texts with gaps: 9 is a gap, in which 0 stands any number of times.
use Rattle.std.specs.Prelude.{◌≡◌, ℕ, nat_eq, List, [], ◌∷◌}
use Rattle.predictive.specs.Fills.{Fills}

abbrev pub AreZeros : List ℕ → Type 0
AreZeros [] = Unit {0}
AreZeros (n ∷ ns) = (n ≡ 0) × AreZeros ns

abbrev pub ZerosFill : List ℕ → List ℕ → Type 0
ZerosFill written ns = Fills (λ n. nat_eq n 9) AreZeros written ns

pub record GapsAreFilled : Type 0 where
  pub two : ZerosFill (1 ∷ 9 ∷ 2 ∷ []) (1 ∷ 0 ∷ 0 ∷ 2 ∷ [])
  pub none : ZerosFill (1 ∷ 9 ∷ 2 ∷ []) (1 ∷ 2 ∷ [])
  pub other : ZerosFill (1 ∷ 9 ∷ 2 ∷ []) (1 ∷ 3 ∷ 2 ∷ []) → ⊥
  pub itself : ZerosFill (1 ∷ 9 ∷ 2 ∷ []) (1 ∷ 9 ∷ 2 ∷ []) → ⊥
