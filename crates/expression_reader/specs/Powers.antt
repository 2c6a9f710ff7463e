-- Words of private functions: powers of two.
use Rattle.std.specs.Prelude.{ℕ, Bool, nat_eq}
use Rattle.std.specs.List.{list_any}
use Rattle.named_modules.specs.Faults.{powers_below}

abbrev pub is_power_below : ℕ → ℕ → Bool
is_power_below count n = list_any (nat_eq n) (powers_below count)

abbrev pub is_power : ℕ → Bool
is_power n = is_power_below 30 n
