-- One power of two more.
use Rattle.std.proofs.Common.{◌≡◌, ◌∙◌, ◌+◌, ◌^◌, ◌||◌, ℕ, Bool, true, false, add-one, refl, ap}
use Rattle.std.specs.Prelude.{nat_eq}
use Rattle.ir_types.specs.NameLaws.{same_nat_true}
use Rattle.fault_walk.specs.Parts.{is_power, is_power_below}

pub power_more : (k n : ℕ) → is_power_below (k + 1) n ≡ (nat_eq n (2 ^ k) || is_power_below k n)
power_more k n = rw (add-one k) refl

either : (n p : ℕ) (b : Bool) → is_power p ≡ true → (b ≡ true → is_power n ≡ true) → (nat_eq n p || b) ≡ true → is_power n ≡ true
either n p b one others some = go (nat_eq n p) refl some
  where
    go : (a : Bool) → nat_eq n p ≡ a → (a || b) ≡ true → is_power n ≡ true
    go true is h = ap is_power (same_nat_true n p is) ∙ one
    go false is h = others h

pub small_power : (n : ℕ) → (nat_eq n 4 || (nat_eq n 8 || (nat_eq n 1 || nat_eq n 16))) ≡ true → is_power n ≡ true
small_power n =
    either n 4 _ refl (either n 8 _ refl (either n 1 _ refl (λ last. ap is_power (same_nat_true n 16 last))))
