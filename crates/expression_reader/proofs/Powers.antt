-- One power of two more.
use Rattle.std.proofs.Common.{◌≡◌, ◌+◌, ◌^◌, ◌||◌, ℕ, add-one, refl}
use Rattle.std.specs.Prelude.{nat_eq}
use Rattle.expression_reader.specs.Powers.{is_power_below}

pub power_more : (k n : ℕ) → is_power_below (k + 1) n ≡ (nat_eq n (2 ^ k) || is_power_below k n)
power_more k n = rw (add-one k) refl
