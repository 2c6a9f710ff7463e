-- The examples, worked out.
use Rattle.std.proofs.Common.{◌≡◌, ℕ, suc, List, [], ◌∷◌, ◌++◌, refl}
use Rattle.predictive.specs.Fillings.{AreZeros, GapsAreFilled}

-- only 0 stands before the 2
no_other : (n : ℕ) (a b : List ℕ) → a ++ b ≡ suc n ∷ 2 ∷ [] → AreZeros a → (c : List ℕ) → 2 ∷ c ≡ b → c ≡ [] → ⊥
no_other n [] b e zeros c two end = cc
no_other n (k ∷ a) b e zeros c two end = let zero : k ≡ 0 = zeros.0 in cc

pub gaps_are_filled : GapsAreFilled
gaps_are_filled = record {
  two = (0 ∷ 0 ∷ 2 ∷ [], refl, (0 ∷ 0 ∷ [], 2 ∷ [], refl, (refl, (refl, tt)), ([], refl, refl)));
  none = (2 ∷ [], refl, ([], 2 ∷ [], refl, tt, ([], refl, refl)));
  other = λ fills. absurd (no_other 2 fills.2.0 fills.2.1 (let at : fills.2.0 ++ fills.2.1 ≡ fills.0 = fills.2.2 in let is : 1 ∷ fills.0 ≡ 1 ∷ 3 ∷ 2 ∷ [] = fills.1 in cc) fills.2.3 fills.2.4.0 fills.2.4.1 fills.2.4.2);
  itself = λ fills. absurd (no_other 8 fills.2.0 fills.2.1 (let at : fills.2.0 ++ fills.2.1 ≡ fills.0 = fills.2.2 in let is : 1 ∷ fills.0 ≡ 1 ∷ 9 ∷ 2 ∷ [] = fills.1 in cc) fills.2.3 fills.2.4.0 fills.2.4.1 fills.2.4.2);
}
