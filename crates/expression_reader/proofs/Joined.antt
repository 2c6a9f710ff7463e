-- What is noted of lists that are joined.
use Rattle.std.proofs.Common.{◌≡◌, List, [], ◌∷◌, ◌++◌, Option, refl}
use Rattle.fault_walk.specs.Told.{noted, with_fault}
use Rattle.name_claims.specs.declared.claims.Fault.{Fault}

pub noted_joined : (xs ys : List Fault) (told : Option Fault) → noted (xs ++ ys) told ≡ noted ys (noted xs told)
noted_joined [] ys told = refl
noted_joined (x ∷ xs) ys told = noted_joined xs ys (with_fault told x)
