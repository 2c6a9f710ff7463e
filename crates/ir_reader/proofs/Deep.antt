-- An index is one of several where a test says so.
use Rattle.std.proofs.Common.{◌≡◌, ℕ, zero, suc, Bool, true, false, List, [], ◌∷◌, refl, arith}
use Rattle.std.specs.Prelude.{nat_eq}
use Rattle.std.specs.List.{Contains}
use Rattle.std.proofs.lemmas.Bool.{eq-eqb, eqb-true}
use Rattle.ir_reader.specs.Told.{is_deep}

pub among : (ds : List ℕ) (k : ℕ) → is_deep ds k ≡ true → Contains ds k
among [] k e = cc
among (d ∷ ds) k e = go (nat_eq d k) refl e (λ more. among ds k more)
  where
    go : (same : Bool) → nat_eq d k ≡ same → is_deep (d ∷ ds) k ≡ true → (is_deep ds k ≡ true → Contains ds k) → Contains (d ∷ ds) k
    go true s e behind = (0, omega arith, eqb-true d k s)
    go false s e behind = let more : is_deep ds k ≡ true = cc in let at = behind more in (suc at.0, omega (arith, at.1), at.2)

pub none_among : (ds : List ℕ) (k : ℕ) → is_deep ds k ≡ false → Contains ds k → ⊥
none_among [] k e has = absurd (omega (arith, has.1))
none_among (d ∷ ds) k e (zero, less, is) = let same = eq-eqb d k is in cc
none_among (d ∷ ds) k e (suc i, less, is) = let more : is_deep ds k ≡ false = none_left (nat_eq d k) refl e in none_among ds k more (i, omega (arith, less), is)
  where
    none_left : (same : Bool) → nat_eq d k ≡ same → is_deep (d ∷ ds) k ≡ false → is_deep ds k ≡ false
    none_left true s e = cc
    none_left false s e = cc
