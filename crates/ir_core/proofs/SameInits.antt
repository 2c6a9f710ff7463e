-- Initialisers of lists of which the first so many are the same, and which have no more.
use Rattle.std.proofs.Common.{◌≡◌, ◌≤◌, ℕ, List, length, take, ap}
use Rattle.ir_types.specs.declared.ty.Ty.{Ty}
use Rattle.ir_core.specs.declared.modules.Init.{Init, Array, Struct}
use Rattle.ir_core.proofs.SameConstants.{all_same}

pub arrays_same : (a b : List (Ty × Init)) (n : ℕ) → length a ≡ length b → length a ≤ n → take n a ≡ take n b → Array a ≡ Array b
arrays_same a b n long whole same = ap Array (all_same a b n long whole same)

pub structs_same : (a b : List (Ty × Init)) (n : ℕ) → length a ≡ length b → length a ≤ n → take n a ≡ take n b → Struct a ≡ Struct b
structs_same a b n long whole same = ap Struct (all_same a b n long whole same)
