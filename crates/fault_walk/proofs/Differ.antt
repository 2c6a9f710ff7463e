-- A rule that isn't one of those that are read.
use Rattle.std.proofs.Common.{◌≡◌, ℕ, nat_eq, false, rules}

pub differ : (rule one : ℕ) → (rule ≡ one → ⊥) → nat_eq rule one ≡ false
differ rule one h = search rules
