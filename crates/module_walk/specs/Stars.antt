-- Pointers that stars behind a type make.
use Rattle.std.specs.Prelude.{ℕ, List, [], ◌∷◌}
use Rattle.ir_types.specs.declared.ty.Ty.{Ty, Ptr}

-- a pointer more for each star
abbrev pub pointers_from : Ty → List ℕ → Ty
pointers_from t [] = t
pointers_from t (at ∷ more) = pointers_from (Ptr t) more
